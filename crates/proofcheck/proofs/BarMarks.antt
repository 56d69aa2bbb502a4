-- The marks of a walk along a row: a store of one mark leaves the numbers that have the other.
use Prim.Native.Nat.{ℕ, zero, suc, ◌<◌}
use mathlib.Core.Path.{◌≡◌, refl, fun_ext}
use mathlib.Core.Bool.{Bool, true, false, ◌||◌}
use mathlib.Core.List.{List}
use borrow.Author.Tests.{eqb-true, eqb-false}
use lib.ListN.{length, get_or, set, replicate, length-replicate}
use lib.Seq.{get_or-set_same, get_or-set_other}
use lib.Dec.{eqb}
use Rattle.theory.specs.Rule.{adjoin}
use Rattle.items.specs.Item.{narrow, max_facts, has}
use Rattle.marking.proofs.MarksPainted.{unmarked}
use Rattle.marking.specs.Marks.{barred, barred_in}
use Rattle.proofcheck.specs.Steps.{Unmarked}

module _ (l : List ℕ) (n : ℕ) (h : n < length l) where
  pub bar_set : barred_in (set l n barred) ≡ adjoin (barred_in l) n
  unfolding barred_in
  bar_set = fun_ext (λ i. go i (eqb i n) refl)
    where
      go : (i : ℕ) (b : Bool) → eqb i n ≡ b → eqb (get_or (set l n barred) i 0) barred ≡ eqb i n || eqb (get_or l i 0) barred
      go i true e = let same : i ≡ n = eqb-true i n e in rw (e, same, get_or-set_same l n barred 0 h)
      go i false e = rw (e, get_or-set_other l n i barred 0 (eqb-false i n e))

  -- where n has not mark j, a store of another mark leaves those that have it
  kept : (k j : ℕ) → eqb k j ≡ false → eqb (get_or l n 0) j ≡ false → (i : ℕ) (b : Bool) → eqb i n ≡ b → eqb (get_or (set l n k) i 0) j ≡ eqb (get_or l i 0) j
  kept k j d q i true e = let same : i ≡ n = eqb-true i n e in rw (same, get_or-set_same l n k 0 h, d, q)
  kept k j d q i false e = rw (get_or-set_other l n i k 0 (eqb-false i n e))

  pub bar_keeps_facts : has l n ≡ false → has (set l n barred) ≡ has l
  unfolding has
  bar_keeps_facts q = fun_ext (λ i. kept barred 1 refl q i (eqb i n) refl)

-- Zeros are no marks.
pub unmarked_zeros : Unmarked (replicate (max_facts narrow) 0)
unfolding barred_in
unmarked_zeros = record { size = length-replicate {A = ℕ} (max_facts narrow) 0; no_fact = unmarked (max_facts narrow); none_barred = fun_ext (λ i. no-bar (max_facts narrow) i) }
  where
    no-bar : (m i : ℕ) → barred_in (replicate m 0) i ≡ false
    no-bar zero i = refl
    no-bar (suc m) zero = refl
    no-bar (suc m) (suc i) = no-bar m i
