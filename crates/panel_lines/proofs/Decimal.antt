-- Numbers in decimal digits.
use Prim.Native.Nat.{ℕ, zero, suc, ◌/◌, ◌%◌, ◌^◌, ◌≤◌, ◌<◌}
use native.Mathlib.Omega.{arith}
use native.Mathlib.Nat.{pow-suc}
use mathlib.Core.Path.{◌≡◌, refl, ap}
use mathlib.Core.Bool.{Bool, true, false}
use mathlib.Core.Logic.{⊎_elim}
use mathlib.Core.List.{List, ◌++◌}
use borrow.Author.Tests.{lt-ltb, le-ltb, ltb-true, ltb-false}
use lib.ListN.{length, length-append}
use lib.Dec.{ltb}
use Rattle.theory.proofs.Bools.{either}
use Rattle.panel_lines.specs.Text.{digit, digits, decimal}

-- The bound on the number of digits does not matter.
bound_free : (k j n : ℕ) → n ≤ k → n ≤ j → digits k n ≡ digits j n
bound_free zero zero n h l = refl
bound_free zero (suc j) n h l = let few : n < 10 = omega arith in rw (lt-ltb n 10 few)
bound_free (suc k) zero n h l = let few : n < 10 = omega arith in rw (lt-ltb n 10 few)
bound_free (suc k) (suc j) n h l = go (ltb n 10) refl (bound_free k j (n / 10))
  where
    go : (b : Bool) → ltb n 10 ≡ b → (n / 10 ≤ k → n / 10 ≤ j → digits k (n / 10) ≡ digits j (n / 10)) → digits (suc k) n ≡ digits (suc j) n
    go true e r = rw e
    go false e r =
        let many : 10 ≤ n = ltb-false n 10 e in
        rw e (ap (λ (l : List ℕ). l ++ digit (n % 10)) (r (omega arith) (omega arith)))

pub one_digit : (n : ℕ) → n < 10 → decimal n ≡ digit n
unfolding decimal
one_digit zero h = refl
one_digit (suc n) h = rw (lt-ltb (suc n) 10 h)

pub more-digits : (n : ℕ) → 10 ≤ n → decimal n ≡ decimal (n / 10) ++ digit (n % 10)
unfolding decimal
more-digits zero h = absurd (omega arith)
more-digits (suc n) h =
    rw (le-ltb (suc n) 10 h)
    (ap (λ (l : List ℕ). l ++ digit (suc n % 10)) (bound_free n (suc n / 10) (suc n / 10) (omega arith) (omega arith)))

-- One digit, or one more than the tenth has.
longer : (n k : ℕ) → (10 ≤ n → length (decimal (n / 10)) ≤ k) → length (decimal n) ≤ suc k
longer n k h =
    ⊎_elim
    (λ e. omega (arith, ap length (one_digit n (ltb-true n 10 e))))
    (λ e. omega (arith, ap length (more-digits n (ltb-false n 10 e)), length-append (decimal (n / 10)) (digit (n % 10)), h (ltb-false n 10 e)))
    (either (ltb n 10))

-- A number below 10 to the power of k has at most k digits, for every k but 0.
pub few_digits : (k n : ℕ) → n < 10 ^ suc k → length (decimal n) ≤ suc k
few_digits zero n h = longer n 0 (λ l. absurd (omega arith))
few_digits (suc k) n h =
    longer n (suc k) (λ l. few_digits k (n / 10) (omega (arith, h, pow-suc 10 (suc k))))
