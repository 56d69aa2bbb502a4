-- The rules are put in order: a pass lists those that are ready, and a last pass, with every fact in the set, the others.
use Prim.Native.Nat.{ℕ, zero, suc, ◌+◌, ◌-◌, ◌≤◌, ◌<◌}
use native.Mathlib.Omega.{arith}
use mathlib.Core.Path.{◌≡◌, refl, sym, ap, subst, ◌∙◌}
use mathlib.Core.Bool.{Bool, true, false, not, ◌||◌}
use mathlib.Core.List.{List, [], ◌∷◌}
use mathlib.Core.Logic.{⊎_elim}
use borrow.Author.Tests.{eqb-true, eqb-false, lt-ltb, ltb-true}
use lib.Dec.{eqb, ltb}
use lib.ListN.{length, get_or, take, set, replicate, length-set, length-replicate, get_or-replicate}
use lib.Seq.{get_or-take, length-take-le, get_or-set_same, get_or-set_other}
use Rattle.theory.specs.Rule.{all, how_many, up_to, Program, Sub, adjoin, withheld, in_force, count, rule}
use Rattle.theory.specs.Conditions.{Bounded}
use Rattle.theory.proofs.Bools.{either, never, and_both, or_right, or_cases, not_of_false, false_of_not, or-false_right}
use Rattle.theory.proofs.Lists.{eqb-self, all-mono, how_many-le, how_many-less, length-range, up_to-mem}
use Rattle.items.specs.Item.{narrow, max_facts, max_rules, fact_id, has}
use Rattle.items.specs.declared.item.FactId.{FactId}
use Rattle.tables.specs.Layout.{program_in, WellFormed}
use Rattle.tables.proofs.ProgramHeld.{facts_below, conclusion_below}
use Rattle.marking.proofs.MarksPainted.{marked-at, unmarked_at, has-set, unmarked}
use Rattle.blocks.specs.Order.{InOrder, Placing, PlacedReady}

-- The conclusion of a rule, as read from the tables, is a fact, and each fact has a place.
pub fact_below : {T : List ℕ} → WellFormed T → {i : ℕ} → i < count (program_in T) → {f : FactId} → f ≡ fact_id (rule (program_in T) i).conclusion → f.0 < max_facts narrow
fact_below w h is = omega (arith, ap (λ (f : FactId). f.0) is, conclusion_below w h, facts_below w)

-- No more rules are listed than there are, so where more are listed fewer places are left.
module _ {P : Program} {marks order : List ℕ} {n : ℕ} (w : Placing P marks order n) (few : count P ≤ max_rules) where
  pub few_listed : n ≤ max_rules
  few_listed = omega (arith, w.room)

  pub more-listed : {m : ℕ} → m ≤ n → (n ≡ m → ⊥) → max_rules - n < max_rules - m
  more-listed le ne = omega (arith, few_listed)

-- At first no rule is listed.
pub none_listed : (P : Program) {order : List ℕ} → length order ≡ max_rules → Placing P (replicate max_rules 0) order 0
none_listed P e =
    record {
      mark_places = length-replicate {A = ℕ} max_rules 0;
      order_places = e;
      room = omega (arith, how_many-le (λ i. not (has (replicate max_rules 0) i)) (up_to (count P)), length-range 0 (count P));
      known = λ k h. absurd (omega arith);
      only = λ k h. absurd (omega arith);
      every = λ i h t. never t (ap (λ (S : ℕ → Bool). S i) (unmarked max_rules));
    }

-- One rule more is listed, one in force that is not marked.
module _ {P : Program} (few : count P ≤ max_rules) {marks order : List ℕ} {n i : ℕ} (w : Placing P marks order n) (h : i < count P) (out : has marks i ≡ false) where
  marks_more : has (set marks i 1) ≡ adjoin (has marks) i
  marks_more = has-set marks i (omega (arith, w.mark_places))

  -- one rule fewer is not marked
  fewer : how_many (λ j. not (has (set marks i 1) j)) (up_to (count P)) < how_many (λ j. not (has marks j)) (up_to (count P))
  fewer =
      subst (λ (S : ℕ → Bool). how_many (λ j. not (S j)) (up_to (count P)) < how_many (λ j. not (has marks j)) (up_to (count P))) (sym marks_more)
      (how_many-less (λ j. not (has marks j)) (λ j. not (adjoin (has marks) i j)) (up_to (count P)) (λ j t. not_of_false (or-false_right (eqb j i) (has marks j) (false_of_not _ t))) i (up_to-mem (count P) i h) (not_of_false out) (ap (λ (b : Bool). not (b || has marks i)) (eqb-self i)))

  -- so there is a place for it
  place_left : n < max_rules
  place_left = omega (arith, w.room, fewer)

  one_listed : in_force P i ≡ true → Placing P (set marks i 1) (set order n i) (n + 1)
  one_listed on =
      record {
        mark_places = length-set marks i 1 ∙ w.mark_places;
        order_places = length-set order n i ∙ w.order_places;
        room = omega (arith, w.room, fewer);
        known = at_each (λ j. j < count P) h w.known;
        only = at_each (λ j. in_force P j ≡ true) on w.only;
        every = λ j l t. ⊎_elim (λ e. (n, omega arith, here ∙ sym (eqb-true j i e))) (λ e. older j (w.every j l e)) (or_cases (eqb j i) (has marks j) (ap (λ (S : ℕ → Bool). S j) (sym marks_more) ∙ t));
      }
    where
      here : get_or (set order n i) n 0 ≡ i
      here = get_or-set_same order n i 0 (omega (arith, w.order_places, place_left))

      before : (k : ℕ) → k < n → get_or (set order n i) k 0 ≡ get_or order k 0
      before k l = get_or-set_other order n k i 0 (λ e. omega arith)

      -- what holds of the new rule and of those before holds of each
      at_each : (T : ℕ → Type 0) → T i → ((k : ℕ) → k < n → T (get_or order k 0)) → (k : ℕ) → k < n + 1 → T (get_or (set order n i) k 0)
      at_each T t r k l =
          ⊎_elim
          (λ e. let is : k ≡ n = eqb-true k n e in subst T (sym (ap (λ (m : ℕ). get_or (set order n i) m 0) is ∙ here)) t)
          (λ e. let ne : k ≡ n → ⊥ = eqb-false k n e in let l' : k < n = omega arith in subst T (sym (before k l')) (r k l'))
          (either (eqb k n))

      older : (j : ℕ) → (k : ℕ) × (k < n) × (get_or order k 0 ≡ j) → (k : ℕ) × (k < n + 1) × (get_or (set order n i) k 0 ≡ j)
      older j t = (t.0, omega (arith, t.1), before t.0 t.1 ∙ t.2)

-- In a pass, the rules before i are passed: those in force with their premises in the set as it was at first are marked.
pub record Passing (P : Program) (S₀ : List ℕ) (n₀ : ℕ) (S marks order : List ℕ) (n i : ℕ) : Type 0 where
  pub placing : Placing P marks order n
  pub set_places : length S ≡ max_facts narrow
  pub grown : Sub (has S₀) (has S)
  pub more : n₀ ≤ n
  pub passed : (j : ℕ) → j < i → in_force P j ≡ true → all (has S₀) (rule P j).premises ≡ true → has marks j ≡ true

pub none_passed : {P : Program} {S marks order : List ℕ} {n : ℕ} → Placing P marks order n → length S ≡ max_facts narrow → Passing P S n S marks order n 0
none_passed w e =
    record {
      placing = w;
      set_places = e;
      grown = λ f t. t;
      more = omega arith;
      passed = λ j h. absurd (omega arith);
    }

-- Rule i is the next one.
module _ {P : Program} {S₀ : List ℕ} {n₀ : ℕ} {S marks order : List ℕ} {n i : ℕ} (w : Passing P S₀ n₀ S marks order n i) where
  also_passed : (marks' : List ℕ) → Sub (has marks) (has marks') → (in_force P i ≡ true → all (has S₀) (rule P i).premises ≡ true → has marks' i ≡ true) → (j : ℕ) → j < i + 1 → in_force P j ≡ true → all (has S₀) (rule P j).premises ≡ true → has marks' j ≡ true
  also_passed marks' kept r j h =
      ⊎_elim
      (λ e. let is : i ≡ j = sym (eqb-true j i e) in subst (λ (k : ℕ). in_force P k ≡ true → all (has S₀) (rule P k).premises ≡ true → has marks' k ≡ true) is r)
      (λ e. let ne : j ≡ i → ⊥ = eqb-false j i e in λ on t. kept j (w.passed j (omega arith) on t))
      (either (eqb j i))

  over : (in_force P i ≡ true → all (has S₀) (rule P i).premises ≡ true → has marks i ≡ true) → Passing P S₀ n₀ S marks order n (i + 1)
  over r =
      record {
        placing = w.placing;
        set_places = w.set_places;
        grown = w.grown;
        more = w.more;
        passed = also_passed marks (λ j t. t) r;
      }

  -- It is passed over: it is marked, or it is withheld, or it lacks a premise, which it lacked at first too.
  pub over-marked : get_or marks i 0 ≡ 1 → Passing P S₀ n₀ S marks order n (i + 1)
  over-marked e = over (λ on t. marked-at marks i e)

  pub over-withheld : withheld P i ≡ true → Passing P S₀ n₀ S marks order n (i + 1)
  unfolding in_force
  over-withheld e = over (λ on t. never e (false_of_not (withheld P i) on))

  pub over-lacking : all (has S) (rule P i).premises ≡ false → Passing P S₀ n₀ S marks order n (i + 1)
  over-lacking e = over (λ on t. never (all-mono (has S₀) (has S) (rule P i).premises w.grown t) e)

  -- It is listed.
  module _ (few : count P ≤ max_rules) (h : i < count P) (out : get_or marks i 0 ≡ 1 → ⊥) where
    pub place_free : n < max_rules
    place_free = place_left few w.placing h (unmarked_at marks i out)

    pub rule-listed : withheld P i ≡ false → (f : ℕ) → f < max_facts narrow → Passing P S₀ n₀ (set S f 1) (set marks i 1) (set order n i) (n + 1) (i + 1)
    unfolding in_force
    rule-listed on f l =
        record {
          placing = one_listed few w.placing h (unmarked_at marks i out) (not_of_false on);
          set_places = length-set S f 1 ∙ w.set_places;
          grown = λ g t. has_more S f (omega (arith, w.set_places)) g (w.grown g t);
          more = omega (arith, w.more);
          passed = also_passed (set marks i 1) (has_more marks i inside) (λ _ _. marked-at (set marks i 1) i (get_or-set_same marks i 1 0 inside));
        }
      where
        inside : i < length marks
        inside = omega (arith, w.placing.mark_places)

        has_more : (l : List ℕ) (k : ℕ) → k < length l → Sub (has l) (has (set l k 1))
        has_more l k b j t = ap (λ (S : ℕ → Bool). S j) (has-set l k b) ∙ or_right (eqb j k) (has l j) t

  -- All rules are passed.
  pub all-passed : count P ≤ i → PlacedReady P S₀ marks
  all-passed z j h = w.passed j (omega arith)

-- the first elements pass a test that each of their places passes
all_first : (p : ℕ → Bool) (n : ℕ) (xs : List ℕ) → ((k : ℕ) → k < n → p (get_or xs k 0) ≡ true) → all p (take n xs) ≡ true
all_first p zero xs r = refl
all_first p (suc n) [] r = refl
all_first p (suc n) (x ∷ xs) r = and_both (r 0 (omega arith)) (all_first p n xs (λ k h. r (suc k) (omega arith)))

-- After a pass with every fact in the set the rules in force are all listed.
pub all_placed : {P : Program} {marks order : List ℕ} {n : ℕ} → Bounded P → P.facts < max_facts narrow → count P ≤ max_rules → Placing P marks order n → PlacedReady P (replicate (max_facts narrow) 1) marks → InOrder P (take n order)
all_placed {P} {marks} {order} {n} b low few w ready =
    record {
      listed = record { few = omega (arith, size, few_listed w few); known = all_first (λ i. ltb i (count P)) n order (λ k h. lt-ltb (get_or order k 0) (count P) (w.known k h)) };
      only = λ k l. let low : k < n = omega (arith, size) in subst (λ (i : ℕ). in_force P i ≡ true) (sym (get_or-take n order k 0 low)) (w.only k low);
      every = λ i h on. let (k, low, is) = w.every i h (ready i h on (held i h)) in (k, omega (arith, size), get_or-take n order k 0 low ∙ is);
    }
  where
    size : length (take n order) ≡ n
    size = length-take-le n order (omega (arith, w.order_places, few_listed w few))

    ones : (m f : ℕ) → f < m → has (replicate m 1) f ≡ true
    ones m f h = marked-at (replicate m 1) f (get_or-replicate m f 1 0 h)

    held : (i : ℕ) → i < count P → all (has (replicate (max_facts narrow) 1)) (rule P i).premises ≡ true
    held i h =
        all-mono (λ f. ltb f P.facts) (has (replicate (max_facts narrow) 1)) (rule P i).premises
        (λ f t. let below : f < P.facts = ltb-true f P.facts t in ones (max_facts narrow) f (omega arith))
        (b.premises_below i h)
