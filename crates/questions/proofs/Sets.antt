-- Rows of 0 and 1 as sets.
use Prim.Native.Nat.{ℕ, zero, suc, ◌≤◌, ◌<◌}
use mathlib.Core.Path.{◌≡◌, refl, sym}
use mathlib.Core.Bool.{Bool, true, false}
use mathlib.Core.List.{List, [], ◌∷◌}
use native.Mathlib.Omega.{arith}
use borrow.Author.Tests.{leb-true, le-leb, lt-leb}
use Rattle.std.specs.Bool.{MatchBool}
use Rattle.std.specs.List.{AllWithin, HoldsAt}
use lib.ListN.{length, get_or, set, replicate}
use lib.Seq.{ext_get_or}
use lib.Dec.{eqb, leb}
use Rattle.theory.proofs.Bools.{and_left, and_right, and_both, and-false}
use Rattle.theory.proofs.Lists.{all-elem, get_or-mem}
use Rattle.items.specs.Item.{has}
use Rattle.questions.specs.Questions.{zero_or_one}

bit : (x y : ℕ) → x ≤ 1 → y ≤ 1 → eqb x 1 ≡ eqb y 1 → x ≡ y
bit zero zero p q e = refl
bit zero (suc zero) p q e = let z : ◌≡◌ {A = ℕ} 0 1 = cc in omega arith
bit zero (suc (suc y)) p q e = absurd (omega arith)
bit (suc zero) zero p q e = let z : ◌≡◌ {A = ℕ} 0 1 = cc in omega arith
bit (suc zero) (suc zero) p q e = refl
bit (suc zero) (suc (suc y)) p q e = absurd (omega arith)
bit (suc (suc x)) y p q e = absurd (omega arith)

-- Rows of 0 and 1 of one length that are the same set are the same bytes.
pub same_bytes : (a b : List ℕ) → length a ≡ length b → zero_or_one a ≡ true → zero_or_one b ≡ true → ((i : ℕ) → i < length a → has a i ≡ has b i) → a ≡ b
unfolding has
same_bytes a b l za zb h = ext_get_or 0 a b l (λ i q. bit (get_or a i 0) (get_or b i 0) (small a za i q) (small b zb i (omega arith)) (h i q))
  where
    small : (s : List ℕ) → zero_or_one s ≡ true → (i : ℕ) → i < length s → get_or s i 0 ≤ 1
    small s z i q = leb-true _ _ (all-elem (λ x. leb x 1) s z (get_or s i 0) (get_or-mem s i q))

-- Rows of 0 and 1: zeros, and one with a mark more.
pub bits_zeros : (n : ℕ) → zero_or_one (replicate n 0) ≡ true
bits_zeros zero = refl
bits_zeros (suc n) = bits_zeros n

pub bits_marked : (l : List ℕ) (n : ℕ) → zero_or_one l ≡ true → zero_or_one (set l n 1) ≡ true
bits_marked [] n z = refl
bits_marked (x ∷ l) zero z = and_right (leb x 1) (zero_or_one l) z
bits_marked (x ∷ l) (suc n) z = and_both (and_left (leb x 1) (zero_or_one l) z) (bits_marked l n (and_right (leb x 1) (zero_or_one l) z))

-- What a test of every byte tells.
small_all : (s : List ℕ) → AllWithin (λ x. x ≤ 1) s 0 (length s) → zero_or_one s ≡ true
small_all [] h = refl
small_all (x ∷ s) h = and_both (le-leb x 1 (h 0 0 (omega arith) (omega arith))) (small_all s (λ k d _ l. h (suc k) d (omega arith) (omega arith)))

large_one : (s : List ℕ) (k : ℕ) → k < length s → 1 < get_or s k 0 → zero_or_one s ≡ false
large_one [] k l h = absurd (omega arith)
large_one (x ∷ s) zero l h = rw (lt-leb x 1 h)
large_one (x ∷ s) (suc k) l h = rw (large_one s k (omega arith) h) (and-false (leb x 1))

pub bytes_tested : (b : Bool) (s : List ℕ) → MatchBool b (AllWithin (λ x. x ≤ 1) s 0 (length s)) ((k : ℕ) × (k < length s) × HoldsAt (λ x. 1 < x) s k) → b ≡ zero_or_one s
bytes_tested true s h = sym (small_all s h)
bytes_tested false s h = sym (large_one s h.0 h.1 (h.2 0))
