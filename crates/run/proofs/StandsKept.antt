-- Where a run stands between its stages.
use Prim.Native.Nat.{ℕ, ◌+◌, ◌-◌, ◌≤◌, ◌<◌}
use mathlib.Core.Path.{◌≡◌, refl, sym, ap, ◌∙◌}
use mathlib.Core.Bool.{Bool, true}
use mathlib.Core.List.{List, [], ◌∷◌, map}
use mathlib.Core.Logic.{⊎_elim}
use native.Mathlib.Omega.{arith}
use borrow.Author.Tests.{lt-ltb}
use lib.ListN.{length, get_or, take, drop, set, length-set, length-append, length-map}
use lib.Seq.{slice, length-slice, length-take-le}
use lib.Dec.{ltb}
use Rattle.std.proofs.lemmas.List.{drop-take}
use Rattle.theory.specs.Rule.{mem, Program, FactSet, nothing, in_force, count, plain_rules}
use Rattle.theory.specs.Conditions.{Bounded}
use Rattle.theory.specs.Walk.{after}
use Rattle.theory.specs.Derive.{conclude, step_by, Fresh, fired as fired_from, derive}
use Rattle.theory.specs.Run.{Stand, stage, start, run, stage_count, step_count}
use Rattle.theory.proofs.Lists.{all_of, get_or-mem, mem-cases}
use Rattle.theory.proofs.Derive.{missing, fired-fresh, fired-known}
use Rattle.theory.proofs.Run.{Eligible, exception-known, picked}
use Rattle.theory.proofs.Stages.{finish, run-finish, finish-some, finish-none}
use Rattle.items.specs.Item.{narrow, max_facts, max_rules, has}
use Rattle.items.specs.Write.{over}
use Rattle.bits.specs.Flags.{Flags}
use Rattle.closure.specs.Steps.{step_bytes}
use Rattle.premises.specs.Premises.{Places, in_row, ripe, roused, Asked, Counted}
use Rattle.premises.specs.Filling.{Listed}
use Rattle.premises.specs.Waking.{RulesAlone}
use Rattle.stage.specs.Memory.{Holds}
use Rattle.stage.specs.Look.{NamesOnly, Looking, Stands, Taken, Ended}
use Rattle.run.specs.Stands.{Began, Held, MayOrder}
use Rattle.run.proofs.FewSteps.{Paced, start-paced, stage-paced}
use Rattle.run.proofs.MemoryShown.{more-applied}
use Rattle.run.proofs.NextLook.{next-awake, start-awake}

-- What is promised of waking: the facts of the rules of a list enter the set.
abbrev pub Wakes : Program → List ℕ → List ℕ → List ℕ → List ℕ → List ℕ → List ℕ → Type 0
Wakes P asks fired missing awake missing' awake' = (R : Places) (S : FactSet) (p : ℕ → Bool) → Asked P R asks → Counted P R S missing → Flags p awake → Fresh P S fired → Counted P R (after (conclude P) S fired) missing' × Flags (roused P R S (after (conclude P) S fired) p) awake'

-- The memory holds a stand from which the run goes on to its end, with the places that are awake there and the premises that each place lacks.
pub record Standing (P : Program) (order asks marks missing fired applied lacks awake : List ℕ) (stages n : ℕ) : Type 0 where
  pub at : Stand
  pub places : ℕ → Bool
  pub looking : Looking P order marks missing fired n awake at places
  pub asked : Asked P (in_row order) asks
  pub lacking : Counted P (in_row order) at.derived lacks
  pub applied_shown : has applied ≡ (λ i. mem i at.applied)
  pub applied_places : length applied ≡ max_rules
  pub counted : stages ≡ stage_count at
  pub paced : Paced P at
  pub onward : finish P (in_force P) order at ≡ run P (in_force P) order

-- An order is a row of rules.
pub rules-listed : {P : Program} {order : List ℕ} → MayOrder P order → Listed P order
rules-listed {P} {order} w =
    record {
      few = w.1;
      known = all_of (λ i. ltb i (count P)) order (λ i m. lt-ltb i (count P) (exception-known P (in_force P) i (w.0 i m)));
    }

-- What a stand that is held tells of its steps.
module _ {P : Program} {s : Stand} {marks fired : List ℕ} {n : ℕ} (few : P.facts < max_facts narrow) (w : Holds P s marks fired n) where
  inside : n ≤ length fired
  inside = omega (arith, w.fits, w.fired_places)

  pub fired-length : length (take n fired) ≡ n
  fired-length = length-take-le n fired inside

  pub steps_counted : n ≡ step_count s
  steps_counted = sym (ap length w.traced ∙ length-map (take n fired) (step_by P) ∙ fired-length)

  pub steps-there : (row : List ℕ) {row' : List ℕ} → row' ≡ over (step_bytes narrow (map (step_by P) (take n fired))) row → row' ≡ over (step_bytes narrow s.trace) row
  steps-there row e = rw w.traced e

  pub rules-known : (k : ℕ) → k < length (take n fired) → get_or (take n fired) k 0 < count P
  rules-known k h = w.known _ (get_or-mem (take n fired) k h)

-- The start: D is closed, and the places whose premises are in D are awake.
module _ {P : Program} {index marks missing fired : List ℕ} {n : ℕ} (few : P.facts < max_facts narrow) (g : Began P index marks missing fired n) where
  pub start-rules : RulesAlone P (take n fired)
  start-rules = record { known = all_of (λ i. ltb i (count P)) (take n fired) (λ i m. lt-ltb i (count P) (g.holds.known i m)) }

  same_set : after (conclude P) nothing (take n fired) ≡ (start P (in_force P)).derived
  unfolding derive
  same_set = ap (after (conclude P) nothing) g.rules

  pub standing_start : {order asks applied lacks awake lacks' awake' : List ℕ} → Bounded P → NamesOnly P order → Asked P (in_row order) asks → Counted P (in_row order) nothing lacks → Flags (ripe P (in_row order) nothing) awake → Wakes P asks (take n fired) lacks awake lacks' awake' → has applied ≡ (λ i. mem i []) → length applied ≡ max_rules → Standing P order asks marks missing fired applied lacks' awake' 0 n
  standing_start {order = order} b only asked counts flags wakes shown places =
      let woken = wakes (in_row order) nothing (ripe P (in_row order) nothing) asked counts flags (rw g.rules (fired-fresh P (plain_rules P (in_force P)) nothing)) in
      record {
        at = start P (in_force P);
        places = roused P (in_row order) nothing (start P (in_force P)).derived (ripe P (in_row order) nothing);
        looking =
            record {
              names_only = only;
              holds = g.holds;
              rests = g.rests;
              flags = rw same_set at woken.1;
              waits = start-awake P order;
            };
        asked = asked;
        lacking = rw same_set at woken.0;
        applied_shown = shown;
        applied_places = places;
        counted = refl;
        paced = start-paced P b (in_force P);
        onward = sym (run-finish P (in_force P) order);
      }

module _ {P : Program} {order asks marks missing fired applied lacks awake : List ℕ} {stages n : ℕ} (w : Standing P order asks marks missing fired applied lacks awake stages n) where
  pub few_stages : stages ≤ P.facts
  few_stages = omega (arith, w.paced.room, w.paced.staged, w.counted)

  pub stands : Stands P order marks missing fired n awake
  stands = record { at = w.at; places = w.places; looking = w.looking }

  -- without an eligible rule the run has ended
  module _ {marks' fired' : List ℕ} (ended : Ended P order w.at n marks' fired') where
    ended_at : w.at ≡ run P (in_force P) order
    ended_at = sym (finish-none P (in_force P) order w.at ended.none_left) ∙ w.onward

    pub ended_held : Held P (run P (in_force P) order) marks' fired' applied n
    ended_held = rw (← ended_at) (record { holds = ended.holds; applied_shown = w.applied_shown; applied_places = w.applied_places })

    pub ended-stages : stages ≡ stage_count (run P (in_force P) order)
    ended-stages = w.counted ∙ ap stage_count ended_at

  -- rule i is taken
  module _ (few : P.facts < max_facts narrow) {i m : ℕ} {marks' missing' fired' awake' : List ℕ} (taken : Taken P order w.at n i marks' missing' fired' awake' m) where
    abbrev next : Stand
    next = stage P (in_force P) w.at i

    chosen : Eligible P (in_force P) w.at i
    chosen = picked P (in_force P) order w.at i taken.first

    pub rule_known : i < count P
    rule_known = exception-known P (in_force P) i chosen.excepted

    last-inside : m ≤ length fired'
    last-inside = omega (arith, taken.holds.fits, taken.holds.fired_places)

    -- a stage takes at least one step
    pub more-steps : n < m
    more-steps = omega (arith, length-slice n m fired' last-inside, ap length taken.added)

    fresh : Fresh P w.at.derived (slice n m fired')
    fresh = rw taken.added (rule_known, chosen.conclusion_out, fired-fresh P (plain_rules P (in_force P)) (conclude P w.at.derived i))

    added_known : (j : ℕ) → mem j (slice n m fired') ≡ true → j < count P
    added_known j u =
        ⊎_elim (λ q. rw q rule_known) (fired-known P (plain_rules P (in_force P)) (conclude P w.at.derived i) j)
        (mem-cases j i (fired_from P (plain_rules P (in_force P)) (conclude P w.at.derived i)) (ap (mem j) (sym taken.added) ∙ u))

    -- the rules of the stage, as a part of the row of those fired
    part : slice n m fired' ≡ take (m - n) (drop n fired')
    part = let whole : m ≡ n + (m - n) = omega (arith, more-steps) in ap (λ (k : ℕ). drop n (take k fired')) whole ∙ drop-take n (m - n) fired'

    pub stage-rules : RulesAlone P (take (m - n) (drop n fired'))
    stage-rules = rw (← part) (record { known = all_of (λ j. ltb j (count P)) (slice n m fired') (λ j u. lt-ltb j (count P) (added_known j u)) })

    same_next : after (conclude P) w.at.derived (slice n m fired') ≡ next.derived
    unfolding derive
    same_next = ap (after (conclude P) w.at.derived) taken.added

    -- the facts of the stage entered: the run stands one stage further on
    module _ (b : Bounded P) (small : count P ≤ max_rules) {lacks' awake'' : List ℕ} (wakes : Wakes P asks (take (m - n) (drop n fired')) lacks awake' lacks' awake'') where
      pub standing_on : Standing P order asks marks' missing' fired' (set applied i 1) lacks' awake'' (stages + 1) m
      standing_on =
          let woken = (rw (← part) at wakes) (in_row order) w.at.derived taken.places w.asked w.lacking taken.flags fresh in
          record {
            at = next;
            places = roused P (in_row order) w.at.derived next.derived taken.places;
            looking =
                record {
                  names_only = w.looking.names_only;
                  holds = taken.holds;
                  rests = taken.rests;
                  flags = rw same_next at woken.1;
                  waits = next-awake P order w.at i taken.places chosen taken.waits;
                };
            asked = w.asked;
            lacking = rw same_next at woken.0;
            applied_shown = more-applied applied w.at.applied i (omega (arith, rule_known, w.applied_places)) w.applied_shown;
            applied_places = length-set applied i 1 ∙ w.applied_places;
            counted = omega (arith, w.counted, length-append w.at.applied (i ∷ []));
            paced = stage-paced P b (in_force P) w.at i chosen w.paced;
            onward = sym (finish-some P (in_force P) order w.at i taken.first) ∙ w.onward;
          }

      pub stage-closer : P.facts - m < P.facts - n
      stage-closer = omega (arith, more-steps, taken.holds.fits)
