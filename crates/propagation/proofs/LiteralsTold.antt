-- One literal after another is taken as true.
use Prim.Native.Nat.{ℕ, zero, suc, ◌+◌, ◌-◌, ◌<◌, ◌≤◌}
use native.Mathlib.Omega.{arith}
use mathlib.Core.Path.{◌≡◌, refl, sym, ap, ◌∙◌, fun_ext, subst}
use mathlib.Core.Bool.{Bool, true, false, not, ◌||◌}
use mathlib.Core.List.{List, ◌∷◌}
use mathlib.Core.Logic.{⊎_elim}
use mathlib.Core.Option.{some}
use borrow.Author.Tests.{eqb-true, ne_eqb, ltb-true, ltb-false}
use lib.ListN.{length, get_or, set, length-set, get_or-eq_default}
use lib.Dec.{eqb, ltb}
use Rattle.theory.specs.Rule.{keep, how_many, up_to, Program, Mask, Sub, adjoin, count, rule}
use Rattle.theory.specs.Conditions.{every_rule}
use Rattle.theory.proofs.Bools.{either, never, and_right, or_right, or_cases, not_of_false}
use Rattle.theory.proofs.Lists.{eqb-self}
use Rattle.items.specs.declared.item.FactId.{FactId}
use Rattle.items.specs.Item.{narrow, max_facts, fact_id, max_rules, has}
use Rattle.bits.specs.Flags.{Flags, without, lowest_of, Taken}
use Rattle.bits.specs.Matrix.{Matrix}
use Rattle.std.specs.Prelude.{Option, Some, None}
use Rattle.bits.proofs.RowTaken.{lowest-is, nothing_left, none_kept, lowest-kept}
use Rattle.tables.specs.Layout.{program_in, WellFormed}
use Rattle.tables.proofs.ProgramHeld.{facts_below, conclusion_below}
use Rattle.marking.proofs.MarksPainted.{has-set}
use Rattle.index.specs.Literal.{outside, literals, literal_count, lacking}
use Rattle.index.specs.Cells.{on_in}
use Rattle.index.specs.Index.{asks, askers, Indexed}
use Rattle.index.proofs.LiteralsCounted.{count_most}
use Rattle.index.proofs.AskersCounted.{asker_known, lacking-told}
use Rattle.propagation.specs.State.{waiting, told, told_count, Grounded, Spreading, Between, Waited, Concluded, Onward, Settled}
use Rattle.propagation.proofs.LiteralsStacked.{has-told, set_cases, passed_by, taken, same_told, was_not_true, top_inside, top_literal}
use Rattle.propagation.proofs.Grounds.{grounded_still, conclusion_grounded}

pub adjoined : (S : ℕ → Bool) (f : ℕ) → adjoin S f f ≡ true
adjoined S f = rw (eqb-self f) refl

-- No conclusion holds a fact out.
pub nothing_yet : (marks : List ℕ) (top : ℕ) → Onward marks top marks top
nothing_yet marks top = record { outside_kept = λ k. refl; paced = omega arith }

pub onward_then : {marks marks' marks'' : List ℕ} {top top' top'' : ℕ} → Onward marks top marks' top' → Onward marks' top' marks'' top'' → Onward marks top marks'' top''
onward_then a b =
    record {
      outside_kept = λ k. b.outside_kept k ∙ a.outside_kept k;
      paced = omega (arith, a.paced, b.paced);
    }

module _ {P : Program} {i : ℕ} {marks marks' stack' : List ℕ} {top top' : ℕ} (v : Concluded P i marks top marks' stack' top') (h : i < count P) where
  pub concluded-onward : Onward marks top marks' top'
  concluded-onward =
      record {
        outside_kept = λ k. v.waited.tells (outside k) ∙ rw (ne_eqb (outside k) (rule P i).conclusion (apart k)) refl;
        paced = v.waited.paced;
      }
    where
      apart : (k : ℕ) → outside k ≡ (rule P i).conclusion → ⊥
      apart k e = omega (arith, v.bounded.conclusion_below i h, v.few)

module _ {P : Program} {on asked : Mask} {rules marks missing stack : List ℕ} {top : ℕ} (w : Spreading P on asked rules marks missing stack top) where
  -- other rules are asked for
  pub asked-for : (asked' : Mask) → ((i : ℕ) → i < count P → asked' i ≡ true → get_or missing i 0 ≡ 0 → told marks (rule P i).conclusion ≡ true) → Spreading P on asked' rules marks missing stack top
  asked-for asked' f =
      record { on_stack = w.on_stack; rule_places = w.rule_places; missed = w.missed; unused = w.unused; fires = f; sound = w.sound }

  module _ {marks' stack' : List ℕ} {top' : ℕ} where
    -- a literal is told that is held out, or has grounds
    pub one_told : (l : ℕ) → Waited l marks top marks' stack' top' → (l < max_facts narrow → Grounded P on (told marks) l) → Spreading P on asked rules marks' missing stack' top'
    one_told l v grounds =
        record {
          on_stack = v.on_stack;
          rule_places = w.rule_places;
          missed = λ i h o. w.missed i h o ∙ ap (λ (p : ℕ → Bool). lacking P p i + how_many (eqb i) rules) (sym (fun_ext v.keeps));
          unused = w.unused;
          fires = λ i h a z. more (rule P i).conclusion (w.fires i h a z);
          sound = λ f h t. grounded_still P on (told marks) (told marks') more f (⊎_elim (λ e. now f e h) (λ e. w.sound f h e) (or_cases (eqb f l) _ (sym (v.tells f) ∙ t)));
        }
      where
        more : Sub (told marks) (told marks')
        more x t = v.tells x ∙ or_right (eqb x l) _ t

        now : (f : ℕ) → eqb f l ≡ true → f < max_facts narrow → Grounded P on (told marks) f
        now f e h =
            let is-l : f ≡ l = eqb-true f l e in
            subst (Grounded P on (told marks)) (sym is-l) (grounds (omega arith))

    -- a rule that misses nothing has its conclusion
    pub one_concluded : (i : ℕ) → i < count P → get_or missing i 0 ≡ 0 → Concluded P i marks top marks' stack' top' → Spreading P on (adjoin asked i) rules marks' missing stack' top'
    one_concluded i h z v =
        record { on_stack = x.on_stack; rule_places = x.rule_places; missed = x.missed; unused = x.unused; fires = fires_too; sound = x.sound }
      where
        in-force : on i ≡ true
        in-force = not-off (on i) refl
          where
            not-off : (b : Bool) → on i ≡ b → b ≡ true
            not-off true e = refl
            not-off false e = absurd (omega (arith, w.unused i h e))

        none : lacking P (has marks) i ≡ 0
        none = omega (arith, w.missed i h in-force)

        x : Spreading P on asked rules marks' missing stack' top'
        x = one_told (rule P i).conclusion v.waited (λ _. conclusion_grounded P on v.bounded v.few (has marks) (told marks) (has-told marks) w.sound i h in-force none)

        fires_too : (j : ℕ) → j < count P → adjoin asked i j ≡ true → get_or missing j 0 ≡ 0 → told marks' (rule P j).conclusion ≡ true
        fires_too j k a y = ⊎_elim same (λ e. x.fires j k e y) (or_cases (eqb j i) _ a)
          where
            same : eqb j i ≡ true → told marks' (rule P j).conclusion ≡ true
            same e =
                let is-i : j ≡ i = eqb-true j i e in
                rw is-i (v.waited.tells (rule P i).conclusion ∙ adjoined (told marks) (rule P i).conclusion)

-- A rule is told once.
module _ {P : Program} {on : Mask} {r : ℕ} {rules marks missing stack : List ℕ} {top : ℕ} (w : Spreading P on every_rule (r ∷ rules) marks missing stack top) (h : r < count P) (o : on r ≡ true) (few : count P ≤ max_rules) where
  missed_once : get_or missing r 0 ≡ lacking P (has marks) r + suc (how_many (eqb r) rules)
  missed_once = w.missed r h o ∙ rw (eqb-self r) refl

  pub missed_some : 0 < get_or missing r 0
  missed_some = omega (arith, missed_once)

  abbrev less : List ℕ
  less = set missing r (get_or missing r 0 - 1)

  pub rule_told : Spreading P on (λ i. not (eqb i r)) rules marks less stack top
  rule_told =
      record {
        on_stack = w.on_stack;
        rule_places = length-set missing r (get_or missing r 0 - 1) ∙ w.rule_places;
        missed =
            set_cases missing r (get_or missing r 0 - 1) (omega (arith, w.rule_places))
            (λ i b. i < count P → on i ≡ true → b ≡ lacking P (has marks) i + how_many (eqb i) rules)
            (λ _ _. omega (arith, missed_once)) (λ i e k y. w.missed i k y ∙ rw e refl);
        unused =
            set_cases missing r (get_or missing r 0 - 1) (omega (arith, w.rule_places))
            (λ i b. i < count P → on i ≡ false → b ≡ 1)
            (λ _ f. never o f) (λ i e k f. w.unused i k f);
        fires =
            set_cases missing r (get_or missing r 0 - 1) (omega (arith, w.rule_places))
            (λ i b. i < count P → not (eqb i r) ≡ true → b ≡ 0 → told marks (rule P i).conclusion ≡ true)
            (λ _ a _. never (eqb-self r) (not-self a)) (λ i e k _ z. w.fires i k refl z);
        sound = w.sound;
      }
    where
      not-self : not (eqb r r) ≡ true → eqb r r ≡ false
      not-self a = never a (ap not (eqb-self r))

  pub still_missing : (get_or less r 0 ≡ 0 → ⊥) → Spreading P on every_rule rules marks less stack top
  still_missing n =
      asked-for rule_told every_rule (λ i k _ z. ⊎_elim (λ e. absurd (n (sym (ap (λ (j : ℕ). get_or less j 0) (eqb-true i r e)) ∙ z))) (λ e. rule_told.fires i k (not_of_false e) z) (either (eqb i r)))

  pub none_missing_now : {marks' stack' : List ℕ} {top' : ℕ} → get_or less r 0 ≡ 0 → Concluded P r marks top marks' stack' top' → Spreading P on every_rule rules marks' less stack' top'
  none_missing_now {marks'} {stack'} {top'} z v =
      let x : Spreading P on (adjoin (λ i. not (eqb i r)) r) rules marks' less stack' top' = one_concluded rule_told r h z v in
      asked-for x every_rule (λ i k _ y. x.fires i k (any-rule (eqb i r)) y)
    where
      any-rule : (b : Bool) → b || not b ≡ true
      any-rule true = refl
      any-rule false = refl

-- Rules of which the row has the bits are still to be told.
pub record Telling (P : Program) (on : Mask) (left marks missing stack : List ℕ) (top : ℕ) : Type 0 where
  pub p : ℕ → Bool
  pub flags : Flags p left
  pub known : (i : ℕ) → p i ≡ true → (i < count P) × (on i ≡ true)
  pub spreading : Spreading P on every_rule (keep p (up_to (count P))) marks missing stack top

-- All that ask a literal are to be told.
pub none_told : {P : Program} {R left marks missing stack : List ℕ} {top : ℕ} (x : Indexed P R) (l : ℕ) → ((keys : ℕ) (q : ℕ → ℕ → Bool) → l < keys → Matrix keys q R → Flags (q l) left) → l < literals → Spreading P (on_in R) every_rule (askers P (on_in R) l) marks missing stack top → Telling P (on_in R) left marks missing stack top
none_told {P} {R} x l row h s = record { p = asks P (on_in R) l; flags = row literals (asks P (on_in R)) h x.rows; known = asker_known P (on_in R) l; spreading = s }

module _ {P : Program} {on : Mask} {left marks missing stack : List ℕ} {top : ℕ} (w : Telling P on left marks missing stack top) {r : Option ℕ} {left' : List ℕ} (takes : (p : ℕ → Bool) → Flags p left → Taken p r left') where
  -- None is left.
  pub all_told : r ≡ None → Between P on marks missing stack top
  all_told e =
      subst (λ (rules : List ℕ). Spreading P on every_rule rules marks missing stack top)
      (none_kept w.p (nothing_left w.flags ((takes w.p w.flags).none_left e)) (up_to (count P))) w.spreading

  module _ (few : count P ≤ max_rules) (i : ℕ) (e : r ≡ Some i) where
    abbrev missing' : List ℕ
    missing' = set missing i (get_or missing i 0 - 1)

    -- the rule taken, and the state once it is told
    pub record RuleTold : Type 0 where
      pub rule_known : i < count P
      pub some_missing : 0 < get_or missing i 0
      pub goes_on : (get_or missing' i 0 ≡ 0 → ⊥) → Telling P on left' marks missing' stack top
      pub concludes : (marks' stack' : List ℕ) (top' : ℕ) → get_or missing' i 0 ≡ 0 → Concluded P i marks top marks' stack' top' → Telling P on left' marks' missing' stack' top'

    pub one_taken : RuleTold
    one_taken =
        record {
          rule_known = is_known.0;
          some_missing = missed_some here is_known.0 is_known.1 few;
          goes_on = λ z. rest (still_missing here is_known.0 is_known.1 few z);
          concludes = λ marks' stack' top' z v. rest (none_missing_now here is_known.0 is_known.1 few z v);
        }
      where
        lowest : lowest_of w.p ≡ some i
        lowest = (takes w.p w.flags).lowest i e

        is_known : (i < count P) × (on i ≡ true)
        is_known = w.known i (lowest-is w.p i lowest).passes

        here : Spreading P on every_rule (i ∷ keep (without w.p i) (up_to (count P))) marks missing stack top
        here = subst (λ (rules : List ℕ). Spreading P on every_rule rules marks missing stack top) (lowest-kept w.p (count P) i lowest is_known.0) w.spreading

        rest : {marks' stack' : List ℕ} {top' : ℕ} → Spreading P on every_rule (keep (without w.p i) (up_to (count P))) marks' missing' stack' top' → Telling P on left' marks' missing' stack' top'
        rest s = record { p = without w.p i; flags = (takes w.p w.flags).rest i e; known = λ k t. w.known k (and_right (not (eqb k i)) (w.p k) t); spreading = s }

    -- One turn of the loop over the rules, by both ways.
    module _ (t : RuleTold) {marks₀ : List ℕ} {top₀ : ℕ} (o : Onward marks₀ top₀ marks top) where
      pub turn_on : (get_or missing' i 0 ≡ 0 → ⊥) → Telling P on left' marks missing' stack top × Onward marks₀ top₀ marks top
      turn_on n = (t.goes_on n, o)

      pub turn_concluded : get_or missing' i 0 ≡ 0 → (marks'' stack'' : List ℕ) (top'' : ℕ) → Concluded P i marks top marks'' stack'' top'' → Telling P on left' marks'' missing' stack'' top'' × Onward marks₀ top₀ marks'' top''
      turn_concluded z marks'' stack'' top'' v = (t.concludes marks'' stack'' top'' z v, onward_then o (concluded-onward v t.rule_known))

-- The literal on top of the stack.
pub top_of : {P : Program} {on : Mask} {marks missing stack : List ℕ} {top : ℕ} → Between P on marks missing stack top → 0 < top → Between P on marks missing stack (suc (top - 1))
top_of {P} {on} {marks} {missing} {stack} {top} w h = subst (λ (n : ℕ). Between P on marks missing stack n) (from_one top h) w
  where
    from_one : (n : ℕ) → 0 < n → n ≡ suc (n - 1)
    from_one n k = omega arith

module _ {P : Program} {on : Mask} {marks missing stack : List ℕ} {rest : ℕ} (w : Between P on marks missing stack (suc rest)) where
  abbrev last : ℕ
  last = get_or stack rest 0

  pub last-inside : rest < literals
  last-inside = top_inside w.on_stack

  pub last-literal : last < literals
  last-literal = top_literal w.on_stack

  pub not-waiting : (get_or marks last 0 ≡ waiting → ⊥) → Between P on marks missing stack rest
  not-waiting n =
      record { on_stack = passed_by w.on_stack n; rule_places = w.rule_places; missed = w.missed; unused = w.unused; fires = w.fires; sound = w.sound }

  module _ (e : get_or marks last 0 ≡ waiting) where
    pub as_told : told (set marks last 1) ≡ told marks
    as_told = same_told w.on_stack e

    true_now : has (set marks last 1) ≡ adjoin (has marks) last
    true_now = has-set marks last (omega (arith, w.on_stack.literal_places, last-literal))

    fewer : (i : ℕ) → i < count P → on i ≡ true → lacking P (has marks) i ≡ lacking P (has (set marks last 1)) i + how_many (eqb i) (askers P on last)
    fewer i h o =
        lacking-told P on last i h o (has marks) last-literal (was_not_true w.on_stack e)
        ∙ ap (λ (p : ℕ → Bool). lacking P p i + how_many (eqb i) (askers P on last)) (sym true_now)

    -- its rules are still to be told
    pub true_spreads : Spreading P on every_rule (askers P on last) (set marks last 1) missing stack rest
    true_spreads =
        record {
          on_stack = taken w.on_stack e;
          rule_places = w.rule_places;
          missed = λ i h o. omega (arith, w.missed i h o, fewer i h o);
          unused = w.unused;
          fires = λ i h a z. ap (λ (p : ℕ → Bool). p (rule P i).conclusion) as_told ∙ w.fires i h a z;
          sound = rw as_told w.sound;
        }

    pub held-as_before : {marks' : List ℕ} {top' : ℕ} → Onward (set marks last 1) rest marks' top' → (k : ℕ) → told marks' (outside k) ≡ told marks (outside k)
    held-as_before o k = o.outside_kept k ∙ ap (λ (p : ℕ → Bool). p (outside k)) as_told

    pub nearer : {marks' : List ℕ} {top' : ℕ} → Onward (set marks last 1) rest marks' top' → (literals + top') - told_count marks' < (literals + suc rest) - told_count marks
    nearer {marks'} {top'} o = omega (arith, o.paced, ap literal_count as_told, count_most (told marks), count_most (told marks'))

-- Each turn of the loop over the stack takes one from it, and puts no more on it than are told.
module _ {P : Program} {on : Mask} {marks missing stack : List ℕ} {top : ℕ} (w : Between P on marks missing stack top) (h : 0 < top) where
  pub told-less : (e : get_or marks (get_or stack (top - 1) 0) 0 ≡ waiting) (marks' : List ℕ) (top' : ℕ) → Onward (set marks (get_or stack (top - 1) 0) 1) (top - 1) marks' top' → (literals + top') - told_count marks' < (literals + top) - told_count marks
  told-less e marks' top' o = omega (arith, nearer (top_of w h) e o)

  pub passed_less : (literals + (top - 1)) - told_count marks < (literals + top) - told_count marks
  passed_less = omega (arith, count_most (told marks))

pub none_waits : {P : Program} {on : Mask} {marks missing stack : List ℕ} {top : ℕ} → Between P on marks missing stack top → top ≤ 0 → Between P on marks missing stack 0
none_waits {P} {on} {marks} {missing} {stack} {top} w h = subst (λ (n : ℕ). Between P on marks missing stack n) (is_none top h) w
  where
    is_none : (n : ℕ) → n ≤ 0 → n ≡ 0
    is_none n k = omega arith

-- Where nothing waits, a literal that is told is true.
pub told-true : (marks : List ℕ) → length marks ≡ literals → ((l : ℕ) → l < literals → get_or marks l 0 < waiting) → has marks ≡ told marks
unfolding has told
told-true marks size small = fun_ext (λ l. ⊎_elim (λ h. bit (get_or marks l 0) (small l (ltb-true l literals h))) (λ h. past l h) (either (ltb l literals)))
  where
    bit : (b : ℕ) → b < 2 → eqb b 1 ≡ not (eqb b 0)
    bit zero h = refl
    bit (suc zero) h = refl
    bit (suc (suc b)) h = absurd (omega arith)

    past : (l : ℕ) → ltb l literals ≡ false → eqb (get_or marks l 0) 1 ≡ not (eqb (get_or marks l 0) 0)
    past l h =
        let far : length marks ≤ l = omega (arith, ltb-false l literals h) in
        rw (get_or-eq_default marks 0 far) refl

module _ {P : Program} {on : Mask} {marks missing : List ℕ} where
  all_settled : {stack : List ℕ} (w : Between P on marks missing stack 0) (l : ℕ) → l < literals → get_or marks l 0 < waiting
  all_settled w l h = less (get_or marks l 0) (w.on_stack.bytes l h) (λ e. never (w.on_stack.waits l h e) refl)
    where
      less : (b : ℕ) → b ≤ waiting → (b ≡ waiting → ⊥) → b < waiting
      less b m n = omega arith

  same : {stack : List ℕ} → Between P on marks missing stack 0 → has marks ≡ told marks
  same w = told-true marks w.on_stack.literal_places (all_settled w)

  pub now_settled : {stack : List ℕ} → Between P on marks missing stack 0 → Settled P on marks missing
  now_settled w =
      record {
        literal_places = w.on_stack.literal_places;
        rule_places = w.rule_places;
        bits = all_settled w;
        missed = λ i h o. omega (arith, w.missed i h o);
        unused = w.unused;
        fires = λ i h z. ap (λ (p : ℕ → Bool). p (rule P i).conclusion) (same w) ∙ w.fires i h refl z;
        sound = rw (same w) (λ N c f h t. w.sound f h t N c);
      }

  pub held_then : {stack : List ℕ} → Between P on marks missing stack 0 → (k : ℕ) → has marks (outside k) ≡ told marks (outside k)
  held_then w k = ap (λ (p : ℕ → Bool). p (outside k)) (same w)

  -- From what is settled on, more may be held out.
  pub settled_between : (stack : List ℕ) → length stack ≡ literals → Settled P on marks missing → Between P on marks missing stack 0
  settled_between stack size w =
      record {
        on_stack =
            record {
              literal_places = w.literal_places;
              stack_places = size;
              stacked = refl;
              room = omega arith;
              waits = λ l h e. absurd (omega (arith, w.bits l h));
              bytes = λ l h. omega (arith, w.bits l h);
            };
        rule_places = w.rule_places;
        missed = λ i h o. omega (arith, w.missed i h o);
        unused = w.unused;
        fires = λ i h _ z. has-told marks (rule P i).conclusion (w.fires i h z);
        sound = rw (← told-true marks w.literal_places w.bits) (λ f h t N c. w.sound N c f h t);
      }

-- The conclusion of a rule, as read from the tables.
module _ {T : List ℕ} (t : WellFormed T) (i : ℕ) (h : i < count (program_in T)) (f : FactId) (e : f ≡ fact_id (rule (program_in T) i).conclusion) where
  few : (program_in T).facts ≤ max_facts narrow
  few = omega (arith, facts_below t)

  is : f.0 ≡ (rule (program_in T) i).conclusion
  is = ap (λ (g : FactId). g.0) e

  pub conclusion_literal : f.0 < literals
  conclusion_literal = omega (arith, is, conclusion_below t h, few)

  pub read_concluded : {marks marks' stack' : List ℕ} {top top' : ℕ} → Waited f.0 marks top marks' stack' top' → Concluded (program_in T) i marks top marks' stack' top'
  read_concluded {marks} {marks'} {stack'} {top} {top'} v =
      record {
        bounded = t.in_bounds;
        few = few;
        waited = subst (λ (l : ℕ). Waited l marks top marks' stack' top') is v;
      }
