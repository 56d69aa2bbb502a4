-- The trial of a rule, on marks: where it passes, the memory holds the stand after the rule's stage.
use Prim.Native.Nat.{ℕ, ◌+◌, ◌≤◌, ◌<◌}
use mathlib.Core.Path.{◌≡◌, refl, sym, ap, subst, fun_ext, ◌∙◌}
use mathlib.Core.Bool.{Bool, true, false, ◌||◌}
use mathlib.Core.List.{List, [], ◌∷◌, ◌++◌, map, append_assoc}
use mathlib.Core.Logic.{⊎_elim}
use native.Mathlib.Omega.{arith}
use native.Mathlib.Numerals.{add-one}
use borrow.Author.Tests.{eq-eqb, ne_eqb, ltb-true, ltb-false}
use lib.ListN.{length, get_or, take, set, replicate, length-set}
use lib.Seq.{take-set-le, take-suc-set, take-take}
use lib.Dec.{ltb}
use Rattle.theory.specs.Rule.{all, clear, mem, nothing, Program, Mask, FactSet, in_force, adjoin, count, rule, exception, Step, plain_rules}
use Rattle.theory.specs.Conditions.{Bounded}
use Rattle.theory.specs.Derive.{conclude, fired as fired_from, meets, derive, step_by, steps}
use Rattle.theory.specs.Run.{Stand, rejected, trial, stage}
use Rattle.theory.proofs.Bools.{either, never, or-false, or-none, false_of}
use Rattle.theory.proofs.Lists.{all-elem, any_append, clear-elem, mem-append, mem-cases}
use Rattle.theory.proofs.Bools.{or_cases}
use Rattle.theory.proofs.Derive.{missing, missing-less, fired-missing, fired-known, adjoin-above, derive-closed}
use Rattle.theory.proofs.Barred.{conclusion_barred, trial-barred, trial-clear, trial-eligible}
use Rattle.items.specs.Item.{narrow, max_facts, has}
use Rattle.items.specs.Write.{placed}
use Rattle.items.proofs.PlacedBytes.{placed-front, placed-length}
use Rattle.marking.specs.Marks.{barred, barred_in, paint_as, paint}
use Rattle.marking.proofs.MarksPainted.{past_end, length-paint, has-set, has-barred, barred-more, barred-kept, bars-kept, one_mark_each}
use Rattle.std.specs.Prelude.{Option, Some, None}
use Rattle.closure.specs.Steps.{derivation_of}
use Rattle.bits.specs.Flags.{row_words}
use Rattle.bits.proofs.EmptyRows.{empty-row}
use Rattle.premises.specs.Premises.{plain_ones, Counted}
use Rattle.premises.specs.Plain.{mask_in, PlainIndexed}
use Rattle.premises.proofs.FactsEntered.{Enters}
use Rattle.closure.specs.Room.{Room}
use Rattle.closure.specs.Deriving.{Poised, AtRest, Derived}
use Rattle.closure.proofs.NextPoised.{fact-poised, none_wait}
use Rattle.closure.proofs.RulesFired.{derive-past, has-derived}
use Rattle.stage.specs.Memory.{Holds, StandAtRest, Passes, Fails}

-- What a derivation came to says whether it met a barred fact.
met : (b : Bool) (n : ℕ) → None ≡ derivation_of b n → b ≡ true
met true n e = refl
met false n e = cc

unmet : (b : Bool) (n m : ℕ) → Some m ≡ derivation_of b n → (b ≡ false) × (m ≡ n)
unmet true n m e = (cc, cc)
unmet false n m e = (refl, cc)

map-append : (f : ℕ → Step) (xs ys : List ℕ) → map f (xs ++ ys) ≡ map f xs ++ map f ys
map-append f [] ys = refl
map-append f (x ∷ xs) ys = ap (λ (l : List Step). f x ∷ l) (map-append f xs ys)

-- one more, or before
swapped : (a b : Bool) → a || b ≡ b || (a || false)
swapped true true = refl
swapped true false = refl
swapped false b = sym (or-none b)

-- Rule i is on trial: neither its conclusion nor a constraint of it is in the set.
module _ (P : Program) (bounds : Bounded P) (few : P.facts < max_facts narrow) (i : ℕ) (known : i < count P) (marks : List ℕ) (n : ℕ) (room : Room P marks n) (out : has marks (rule P i).conclusion ≡ false) (own_out : clear (has marks) (rule P i).constraints ≡ true) where
  -- the marks with the rule's constraints barred, and then with its conclusion
  abbrev pub bars : List ℕ
  bars = paint_as barred (λ k. mem k (rule P i).constraints) marks

  abbrev pub entered : List ℕ
  entered = set bars (rule P i).conclusion 1

  own-low : (f : ℕ) → mem f (rule P i).constraints ≡ true → f < length marks
  own-low f t =
      let l : f < P.facts = ltb-true _ _ (all-elem (λ g. ltb g P.facts) (rule P i).constraints (bounds.constraints_below i known) f t) in
      omega (arith, room.places, few)

  bars-places : length bars ≡ max_facts narrow
  bars-places = length-paint barred (λ k. mem k (rule P i).constraints) marks ∙ room.places

  conclusion_low : (rule P i).conclusion < length bars
  conclusion_low = omega (arith, bars-places, few, bounds.conclusion_below i known)

  has-bars : has bars ≡ has marks
  has-bars = has-barred (λ k. mem k (rule P i).constraints) marks own-low (λ f t. clear-elem (has marks) (rule P i).constraints own_out f t)

  has-entered : has entered ≡ conclude P (has marks) i
  has-entered = has-set bars (rule P i).conclusion conclusion_low ∙ ap (λ (S : FactSet). adjoin S (rule P i).conclusion) has-bars

  entered-places : length entered ≡ max_facts narrow
  entered-places = length-set bars (rule P i).conclusion 1 ∙ bars-places

  fewer : missing P.facts (conclude P (has marks) i) < missing P.facts (has marks)
  fewer = missing-less P P.facts (has marks) i (bounds.conclusion_below i known) out

  pub cell_left : n < max_facts narrow
  cell_left = omega (arith, fewer, room.cells_left)

  pub room-entered : Room P entered (n + 1)
  room-entered = record { places = entered-places; cells_left = rw has-entered (omega (arith, fewer, room.cells_left)) }

  -- At a stand that the memory holds.
  module _ (fired : List ℕ) (s : Stand) (w : Holds P s marks fired n) where
    barred-both : (f : ℕ) → barred_in bars f ≡ mem f (rule P i).constraints || rejected P s.applied f
    barred-both f =
        barred-more (λ k. mem k (rule P i).constraints) marks own-low f
        ∙ ap (λ (R : FactSet). mem f (rule P i).constraints || R f) w.shows.r

    pub conclusion_fails : barred_in bars (rule P i).conclusion ≡ true → {missing : List ℕ} → StandAtRest P s missing → Fails P s i n marks missing fired
    conclusion_fails t r =
        record { not_eligible = conclusion_barred P (in_force P) s i (barred_in bars) barred-both t; holds = w; rests = r }

    -- the derivation, from marks on which the conclusion is not barred
    module _ (free : barred_in bars (rule P i).conclusion ≡ false) (on : Mask) (p : on ≡ plain_rules P (in_force P)) where
      same_bars : barred_in entered ≡ barred_in bars
      same_bars = bars-kept bars (rule P i).conclusion conclusion_low free

      from-there : has entered ≡ conclude P s.derived i
      from-there = has-entered ∙ ap (λ (S : FactSet). conclude P S i) w.shows.d

      abbrev Meets : Bool
      Meets = meets P on (barred_in entered) (has entered)

      same_meets : Meets ≡ meets P (plain_rules P (in_force P)) (barred_in bars) (conclude P s.derived i)
      same_meets = rw (p, same_bars, from-there)

      pub closure-fails : (fired' : List ℕ) → Meets ≡ true → length fired' ≡ max_facts narrow → take (n + 1) fired' ≡ take (n + 1) (set fired n i) → {missing : List ℕ} → StandAtRest P s missing → Fails P s i n marks missing fired'
      closure-fails fired' m l k r =
          record {
            not_eligible = trial-barred P (in_force P) s i (barred_in bars) barred-both (sym same_meets ∙ m);
            holds =
                record {
                  shows = w.shows;
                  traced = w.traced ∙ ap (map (step_by P)) (sym before);
                  marks_places = w.marks_places;
                  fired_places = l;
                  fits = w.fits;
                  known = λ j t. w.known j (ap (mem j) (sym before) ∙ t);
                };
            rests = r;
          }
        where
          before : take n fired' ≡ take n fired
          before =
              sym (take-take n (n + 1) fired' (omega arith)) ∙ ap (take n) k
              ∙ take-take n (n + 1) (set fired n i) (omega arith)
              ∙ take-set-le n fired n i (omega arith)

      module _ (m : Meets ≡ false) (prem : all s.derived (rule P i).premises ≡ true) (x : exception P i ≡ true) (o : in_force P i ≡ true) (marks' fired' : List ℕ) (d : marks' ≡ paint (derive P on (has entered)) entered) (r : fired' ≡ placed (fired_from P on (has entered)) (n + 1) (set fired n i)) where
        abbrev more : List ℕ
        more = fired_from P (plain_rules P (in_force P)) (conclude P s.derived i)

        same_more : fired_from P on (has entered) ≡ more
        same_more = rw (p, from-there)

        apart : (f : ℕ) → s.derived f ≡ true → barred_in bars f ≡ false
        apart f t =
            let here : has marks f ≡ true = ap (λ (S : FactSet). S f) w.shows.d ∙ t in
            barred-more (λ k. mem k (rule P i).constraints) marks own-low f
            ∙ or-false _ _ (false_of _ (λ k. never here (clear-elem (has marks) (rule P i).constraints own_out f k))) (one_mark_each marks f here)

        unmet-any : meets P (plain_rules P (in_force P)) (barred_in bars) (conclude P s.derived i) ≡ false
        unmet-any = sym same_meets ∙ m

        closed-clear : (f : ℕ) → trial P (in_force P) s.derived i f ≡ true → barred_in bars f ≡ false
        closed-clear = trial-clear P (in_force P) s i (barred_in bars) barred-both apart free unmet-any

        same_closure : derive P on (has entered) ≡ trial P (in_force P) s.derived i
        same_closure = rw (p, from-there)

        shows_d : has marks' ≡ trial P (in_force P) s.derived i
        shows_d = ap has d ∙ has-derived P on bounds entered (omega (arith, entered-places, few)) ∙ same_closure

        derived_low : (f : ℕ) → derive P on (has entered) f ≡ true → f < length entered
        derived_low f t =
            ⊎_elim (λ h. ltb-true f _ h)
            (λ h. never t (derive-past P on bounds (length entered) (omega (arith, entered-places, few)) (has entered) (past_end entered) f (ltb-false f _ h)))
            (either (ltb f (length entered)))

        shows_r : barred_in marks' ≡ rejected P (s.applied ++ (i ∷ []))
        unfolding rejected
        shows_r =
            ap barred_in d
            ∙ barred-kept (derive P on (has entered)) entered derived_low (λ f t. ap (λ (B : FactSet). B f) same_bars ∙ closed-clear f (ap (λ (S : FactSet). S f) (sym same_closure) ∙ t))
            ∙ same_bars
            ∙ fun_ext (λ f. barred-both f ∙ swapped (mem f (rule P i).constraints) (rejected P s.applied f) ∙ sym (any_append (λ j. mem f (rule P j).constraints) s.applied (i ∷ [])))

        enough : n + 1 + length more ≤ length (set fired n i)
        enough =
            let l : length more + missing P.facts (trial P (in_force P) s.derived i) ≤ missing P.facts (conclude P s.derived i) = fired-missing P (plain_rules P (in_force P)) (conclude P s.derived i) bounds.conclusion_below in
            let k : missing P.facts (conclude P s.derived i) < missing P.facts s.derived = rw w.shows.d at fewer in
            omega (arith, length-set fired n i, w.fired_places, w.fits, few)

        fits-then : n + 1 + length more + missing P.facts (trial P (in_force P) s.derived i) ≤ P.facts
        fits-then =
            let l : length more + missing P.facts (trial P (in_force P) s.derived i) ≤ missing P.facts (conclude P s.derived i) = fired-missing P (plain_rules P (in_force P)) (conclude P s.derived i) bounds.conclusion_below in
            let k : missing P.facts (conclude P s.derived i) < missing P.facts s.derived = rw w.shows.d at fewer in
            omega (arith, w.fits)

        row-then : fired' ≡ placed more (n + 1) (set fired n i)
        row-then = r ∙ ap (λ (l : List ℕ). placed l (n + 1) (set fired n i)) same_more

        front : take (n + 1) (set fired n i) ≡ take n fired ++ (i ∷ [])
        front = ap (λ (k : ℕ). take k (set fired n i)) (add-one n) ∙ take-suc-set fired n i (omega (arith, cell_left, w.fired_places))

        rules-then : take (n + 1 + length more) fired' ≡ take n fired ++ (i ∷ more)
        rules-then =
            ap (take (n + 1 + length more)) row-then ∙ placed-front more (set fired n i) (n + 1) enough
            ∙ ap (λ (l : List ℕ). l ++ more) front
            ∙ append_assoc (take n fired) (i ∷ []) more

        traced_then : (stage P (in_force P) s i).trace ≡ map (step_by P) (take n fired ++ (i ∷ more))
        unfolding steps
        traced_then =
            ap (λ (l : List Step). l ++ (step_by P i ∷ map (step_by P) more)) w.traced
            ∙ sym (map-append (step_by P) (take n fired) (i ∷ more))

        known_then : (j : ℕ) → mem j (take n fired ++ (i ∷ more)) ≡ true → j < count P
        known_then j t =
            ⊎_elim (w.known j)
            (λ u. ⊎_elim (λ e. rw e known) (fired-known P (plain_rules P (in_force P)) (conclude P s.derived i) j) (mem-cases j i more u))
            (or_cases (mem j (take n fired)) _ (sym (mem-append j (take n fired) (i ∷ more)) ∙ t))

        pub closure-passes : {missing' : List ℕ} → Counted P (plain_ones P) (derive P on (has entered)) missing' → Passes P s i fired n marks' missing' fired' (n + 1 + length (fired_from P on (has entered)))
        closure-passes {missing'} c =
            rw same_more
            (record {
              is_eligible = trial-eligible P (in_force P) s i (barred_in bars) barred-both apart free unmet-any x o (ap (λ (S : FactSet). S (rule P i).conclusion) (sym w.shows.d) ∙ out) prem;
              holds =
                  record {
                    shows = record { d = shows_d; r = shows_r };
                    traced = traced_then ∙ ap (map (step_by P)) (sym rules-then);
                    marks_places = ap length d ∙ length-paint 1 (derive P on (has entered)) entered ∙ entered-places;
                    fired_places = ap length row-then ∙ placed-length more (set fired n i) (n + 1) enough ∙ length-set fired n i ∙ w.fired_places;
                    fits = fits-then;
                    known = λ j t. known_then j (ap (mem j) (sym rules-then) ∙ t);
                  };
              rests =
                  record {
                    counted = subst (λ (S : FactSet). Counted P (plain_ones P) S missing') same_closure c;
                    closed = derive-closed P (plain_rules P (in_force P)) (conclude P s.derived i);
                  };
              added = rules-then;
            })

-- The marks copied, with the rule's constraints barred, and its conclusion.
pub record Trying (P : Program) (i : ℕ) (index marks missing : List ℕ) (n : ℕ) (copy : List ℕ) (f : ℕ) : Type 0 where
  pub small : f < max_facts narrow
  pub cell : n < max_facts narrow
  pub room : Room P (set copy f 1) (n + 1)
  pub poised : (counts ready : List ℕ) → Enters f index missing (replicate row_words 0) counts ready → Poised P (mask_in index) (has (set copy f 1)) counts ready
  pub refused : get_or copy f 0 ≡ barred → (fired : List ℕ) (s : Stand) → Holds P s marks fired n → Fails P s i n marks missing fired
  pub fails : (get_or copy f 0 ≡ barred → ⊥) → (fired marks' counts fired' : List ℕ) (r : Option ℕ) → Derived P (mask_in index) (set copy f 1) (set fired n i) (n + 1) r marks' counts fired' → r ≡ None → (s : Stand) → Holds P s marks fired n → Fails P s i n marks missing fired'
  pub passes : (get_or copy f 0 ≡ barred → ⊥) → (fired marks' counts fired' : List ℕ) (r : Option ℕ) → Derived P (mask_in index) (set copy f 1) (set fired n i) (n + 1) r marks' counts fired' → (m : ℕ) → r ≡ Some m → (s : Stand) → Holds P s marks fired n → all s.derived (rule P i).premises ≡ true → exception P i ≡ true → in_force P i ≡ true → Passes P s i fired n marks' counts fired' m

pub trying : (P : Program) → Bounded P → P.facts < max_facts narrow → (i : ℕ) → i < count P → (index : List ℕ) → PlainIndexed P index → mask_in index ≡ plain_rules P (in_force P) → (marks : List ℕ) (n : ℕ) → Room P marks n → has marks (rule P i).conclusion ≡ false → clear (has marks) (rule P i).constraints ≡ true → (missing : List ℕ) → AtRest P (mask_in index) (has marks) missing → (copy : List ℕ) → copy ≡ paint_as barred (λ k. mem k (rule P i).constraints) marks → (f : ℕ) → f ≡ (rule P i).conclusion → Trying P i index marks missing n copy f
unfolding barred_in
trying P b few i known index ix p marks n room out own_out missing rest copy e f concludes =
    rw e
    (record {
      small = small;
      cell = cell_left P b few i known marks n room out own_out;
      room = rw concludes (room-entered P b few i known marks n room out own_out);
      poised = λ counts ready enters.
          rw (concludes, has-entered P b few i known marks n room out own_out)
          (fact-poised b ix small' out rest.counted (none_wait ix (has marks) (adjoin (has marks) (rule P i).conclusion) rest.closed (adjoin-above (has marks) (rule P i).conclusion) (replicate row_words 0) (empty-row nothing (λ k. refl))) (subst (λ (g : ℕ). Enters g index missing (replicate row_words 0) counts ready) concludes enters));
      refused = λ t fired s w. conclusion_fails P b few i known marks n room out own_out fired s w (rw (← concludes) (eq-eqb _ _ t)) (rests_at s w);
      fails = λ t fired marks' counts fired' r d a s w.
          let v : Derived P (mask_in index) (entered P b few i known marks n room out own_out) (set fired n i) (n + 1) r marks' counts fired' = rw concludes at d in
          closure-fails P b few i known marks n room out own_out fired s w (rw (← concludes) (ne_eqb _ _ t)) (mask_in index) p fired' (met _ _ (sym a ∙ v.answer)) v.cells v.kept (rests_at s w);
      passes = λ t fired marks' counts fired' r d m a s w prem x o.
          let v : Derived P (mask_in index) (entered P b few i known marks n room out own_out) (set fired n i) (n + 1) r marks' counts fired' = rw concludes at d in
          let u = unmet _ _ m (sym a ∙ v.answer) in
          rw u.1 (closure-passes P b few i known marks n room out own_out fired s w (rw (← concludes) (ne_eqb _ _ t)) (mask_in index) p u.0 prem x o marks' fired' (v.facts u.0) (v.rules u.0) (v.counted u.0));
    })
  where
    small' : (rule P i).conclusion < max_facts narrow
    small' = omega (arith, b.conclusion_below i known, few)

    small : f < max_facts narrow
    small = omega (arith, concludes, small')

    rests_at : {fired : List ℕ} (s : Stand) → Holds P s marks fired n → StandAtRest P s missing
    rests_at s w = subst (λ (S : FactSet). AtRest P (plain_rules P (in_force P)) S missing) w.shows.d (subst (λ (on : Mask). AtRest P on (has marks) missing) p rest)
