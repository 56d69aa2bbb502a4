-- The elements of a row that a set selects, written one after another to the front of another row.
use Prim.Native.Nat.{ℕ, suc, ◌+◌, ◌<◌, ◌≤◌}
use mathlib.Core.Path.{◌≡◌, refl, sym, ap, ◌∙◌}
use mathlib.Core.Bool.{Bool, true, false, cond}
use mathlib.Core.List.{List, [], ◌∷◌, ◌++◌, map, append-nil}
use native.Mathlib.Omega.{arith}
use native.Mathlib.Numerals.{add-one}
use borrow.Author.Tests.{lt-ltb, ltb-true}
use lib.ListN.{length, get_or, take, set, length-set}
use lib.Seq.{take-suc, take-suc-set, length-take-le, get_or-take}
use lib.Dec.{ltb}
use Rattle.theory.specs.Rule.{all, Program, count}
use Rattle.theory.specs.Derive.{step_by}
use Rattle.theory.specs.Keeping.{StepSet, select, Traced, Kept, grounds_of}
use Rattle.theory.proofs.Bools.{and_both}
use Rattle.theory.proofs.Lists.{get_or-mem, all-elem}
use Rattle.theory.proofs.Keeping.{kept-is}
use Rattle.items.specs.Item.{narrow, max_facts}
use Rattle.kept_steps.specs.Keep.{steps_by}
use Rattle.kept_steps.proofs.StepsPlaced.{rule_known}

-- One element more.
select-snoc : (K : ℕ → Bool) (xs : List ℕ) (x : ℕ) → select K (xs ++ (x ∷ [])) ≡ select K xs ++ cond (K (length xs)) (x ∷ []) []
select-snoc K [] x = refl
select-snoc K (y ∷ ys) x = go (K 0) _ _ (select-snoc (λ k. K (suc k)) ys x)
  where
    more : List ℕ
    more = cond (K (suc (length ys))) (x ∷ []) []

    go : (b : Bool) (us vs : List ℕ) → us ≡ vs ++ more → cond b (y ∷ us) us ≡ cond b (y ∷ vs) vs ++ more
    go true us vs e = ap (λ (l : List ℕ). y ∷ l) e
    go false us vs e = e

-- What is selected of the first k elements, and of one more.
module _ (K : ℕ → Bool) (row : List ℕ) (k : ℕ) (l : k < length row) where
  next : select K (take (k + 1) row) ≡ select K (take k row) ++ cond (K k) (get_or row k 0 ∷ []) []
  next =
      ap (λ (m : ℕ). select K (take m row)) (add-one k)
      ∙ ap (select K) (take-suc row k 0 l)
      ∙ select-snoc K (take k row) (get_or row k 0)
      ∙ ap (λ (m : ℕ). select K (take k row) ++ cond (K m) (get_or row k 0 ∷ []) []) (length-take-le k row (omega arith))

  next-in : K k ≡ true → select K (take (k + 1) row) ≡ select K (take k row) ++ (get_or row k 0 ∷ [])
  next-in t = rw t at next

  next-out : K k ≡ false → select K (take (k + 1) row) ≡ select K (take k row)
  next-out t = (rw t at next) ∙ append-nil (select K (take k row))

-- The first n cells hold what is selected of the first k elements.
pub record Retaining (K : ℕ → Bool) (row out : List ℕ) (n k : ℕ) : Type 0 where
  pub reached : k ≤ length row
  pub fewer : n ≤ k
  pub cells : length out ≡ max_facts narrow
  pub same : take n out ≡ select K (take k row)

module _ {K : ℕ → Bool} {row out : List ℕ} {n k : ℕ} (w : Retaining K row out n k) (l : k < length row) where
  pub one_retained : length row ≤ max_facts narrow → K k ≡ true → Retaining K row (set out n (get_or row k 0)) (n + 1) (k + 1)
  one_retained few t =
      record {
        reached = omega arith;
        fewer = omega (arith, w.fewer);
        cells = length-set out n (get_or row k 0) ∙ w.cells;
        same =
            ap (λ (m : ℕ). take m (set out n (get_or row k 0))) (add-one n)
            ∙ take-suc-set out n (get_or row k 0) (omega (arith, w.fewer, w.cells))
            ∙ ap (λ (front : List ℕ). front ++ (get_or row k 0 ∷ [])) w.same
            ∙ sym (next-in K row k l t);
      }

  pub not-retained : K k ≡ false → Retaining K row out n (k + 1)
  not-retained t =
      record { reached = omega arith; fewer = omega (arith, w.fewer); cells = w.cells; same = w.same ∙ sym (next-out K row k l t) }

select-map : {A : Type 0} (g : ℕ → A) (K : ℕ → Bool) (xs : List ℕ) → map g (select K xs) ≡ select K (map g xs)
select-map g K [] = refl
select-map {A} g K (x ∷ xs) = go (K 0) _ _ (select-map g (λ k. K (suc k)) xs)
  where
    go : (b : Bool) (us : List ℕ) (vs : List A) → map g us ≡ vs → map g (cond b (x ∷ us) us) ≡ cond b (g x ∷ vs) vs
    go true us vs e = ap (λ (l : List A). g x ∷ l) e
    go false us vs e = e

-- A test that every element passes is passed by those that are selected.
all-selected : (p : ℕ → Bool) (K : ℕ → Bool) (xs : List ℕ) → ((k : ℕ) → k < length xs → p (get_or xs k 0) ≡ true) → all p (select K xs) ≡ true
all-selected p K [] h = refl
all-selected p K (x ∷ xs) h = go (K 0) _ (all-selected p (λ k. K (suc k)) xs (λ k l. h (suc k) (omega arith)))
  where
    go : (b : Bool) (us : List ℕ) → all p us ≡ true → all p (cond b (x ∷ us) us) ≡ true
    go true us e = and_both (h 0 (omega arith)) e
    go false us e = e

-- The kept rules of a row, written to the front of another: their steps are those kept for the fact, and each is a rule of the program.
module _ {P : Program} (rules : List ℕ) {f : ℕ} {K : StepSet} (r : Traced P (steps_by P rules)) (u : Kept P (steps_by P rules) f K) (out : List ℕ) (n : ℕ) (same : take n out ≡ select K rules) where
  pub grounds_kept : steps_by P (take n out) ≡ grounds_of P f (steps_by P rules)
  grounds_kept = ap (steps_by P) same ∙ select-map (step_by P) K rules ∙ kept-is P (steps_by P rules) f K r u

  pub rules-kept : n ≤ length out → (k : ℕ) → k < n → get_or out k 0 < count P
  rules-kept h k l =
      let counted : n ≡ length (select K rules) = sym (length-take-le n out h) ∙ ap length same in
      let here : get_or out k 0 ≡ get_or (select K rules) k 0 = sym (get_or-take n out k 0 l) ∙ ap (λ (xs : List ℕ). get_or xs k 0) same in
      let passes : all (λ i. ltb i (count P)) (select K rules) ≡ true = all-selected (λ i. ltb i (count P)) K rules (λ j m. lt-ltb _ _ (rule_known P rules r j m)) in
      rw here (ltb-true _ _ (all-elem (λ i. ltb i (count P)) (select K rules) passes _ (get_or-mem (select K rules) k (omega arith))))
