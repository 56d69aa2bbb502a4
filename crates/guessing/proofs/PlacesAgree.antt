-- A guess compared with the facts that are marked, from the highest place down.
use Prim.Native.Nat.{ℕ, suc, ◌+◌, ◌-◌, ◌<◌, ◌≤◌}
use native.Mathlib.Decide.{ℕ_discrete}
use native.Mathlib.Omega.{arith}
use mathlib.Core.Path.{◌≡◌, refl, sym, ap, subst, ◌∙◌}
use mathlib.Core.Bool.{Bool, true, false, not, beq}
use mathlib.Core.List.{List}
use mathlib.Core.Logic.{by_cases}
use borrow.Author.Tests.{not-true, not-false}
use Rattle.std.specs.Prelude.{Some, None}
use lib.Dec.{eqb}
use lib.ListN.{length, get_or}
use Rattle.theory.specs.Guesses.{bit, fact_at}
use Rattle.theory.proofs.Bools.{never, beq-true}
use Rattle.items.specs.Item.{has}
use Rattle.guessing.specs.Compared.{Compares}

-- Two truth values that are not equal.
pub beq-false : (a b : Bool) → beq a b ≡ false → a ≡ not b
beq-false true true e = never refl e
beq-false true false e = refl
beq-false false true e = refl
beq-false false false e = never refl e

-- The guess has exactly the marked ones of the first i facts of the row.
abbrev pub Agreed : (row : List ℕ) (g : ℕ) (marks : List ℕ) (i : ℕ) → Type 0
Agreed row g marks i = (j : ℕ) → length row - i ≤ j → j < length row → has marks (fact_at row j) ≡ bit g j

module _ (row : List ℕ) (g : ℕ) (marks : List ℕ) where
  pub all-agree : Agreed row g marks (length row) → Compares row g marks None
  all-agree w = record { same = λ _ j l. w j (omega arith) l; apart = λ j e. absurd (let z : ◌≡◌ {A = ℕ} 0 1 = cc in omega arith) }

  -- the next fact: its mark and its bit, as the code has them
  module _ (i : ℕ) (more : i < length row) (w : Agreed row g marks i) (b : Bool) (found : b ≡ bit g (length row - 1 - i)) where
    abbrev marked : Bool
    marked = eqb (get_or marks (get_or row i 0) 0) 1

    its_mark : has marks (fact_at row (length row - 1 - i)) ≡ marked
    unfolding has
    its_mark = let e : length row - suc (length row - 1 - i) ≡ i = omega arith in ap (λ (n : ℕ). eqb (get_or marks (get_or row n 0) 0) 1) e

    pub one_agrees : not (beq marked b) ≡ false → Agreed row g marks (i + 1)
    one_agrees e j m l =
        by_cases (ℕ_discrete j (length row - 1 - i))
        (λ q. subst (λ (n : ℕ). has marks (fact_at row n) ≡ bit g n) (sym q) (its_mark ∙ beq-true marked b (not-false _ e) ∙ found))
        (λ n. w j (omega arith) l)

    pub one_apart : not (beq marked b) ≡ true → Compares row g marks (Some (length row - 1 - i))
    one_apart e =
        record {
          same = λ q. absurd (let z : ◌≡◌ {A = ℕ} 0 1 = cc in omega arith);
          apart = λ j q. let is : length row - 1 - i ≡ j = cc in
              subst (λ (n : ℕ). (n < length row) × (has marks (fact_at row n) ≡ not (bit g n))) is
              (omega arith, its_mark ∙ beq-false marked b (not-true _ e) ∙ ap not found);
        }
