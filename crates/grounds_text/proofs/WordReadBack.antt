-- A number in decimal digits is a word that says that number.
use Prim.Native.Nat.{ℕ, zero, suc, ◌+◌, ◌/◌, ◌%◌, ◌≤◌, ◌<◌}
use native.Mathlib.Omega.{arith}
use mathlib.Core.Path.{◌≡◌, refl}
use mathlib.Core.Bool.{Bool, true, false, ◌&&◌}
use mathlib.Core.List.{List, [], ◌∷◌, ◌++◌}
use borrow.Author.Tests.{le-leb, ltb-true}
use lib.ListN.{length, length-append}
use lib.Dec.{ltb}
use Rattle.std.specs.Prelude.{Some}
use Rattle.words.specs.Word.{digit_zero, digit_nine, is_digit, all_digits, longest_number, most_value, is_number, word_of}
use Rattle.panel_lines.specs.Text.{digit, digits, decimal}
use Rattle.panel_lines.proofs.Decimal.{few_digits}
use Rattle.panel_text.proofs.RefusalText.{digits_value}

digits_append : (xs ys : List ℕ) → all_digits xs ≡ true → all_digits ys ≡ true → all_digits (xs ++ ys) ≡ true
digits_append [] ys p q = q
digits_append (x ∷ xs) ys p q = go (is_digit x) p (digits_append xs ys)
  where
    go : (b : Bool) → (b && all_digits xs) ≡ true → (all_digits xs ≡ true → all_digits ys ≡ true → all_digits (xs ++ ys) ≡ true) → (b && all_digits (xs ++ ys)) ≡ true
    go true h r = r h q
    go false h r = h

one : (d : ℕ) → d < 10 → all_digits (digit d) ≡ true
one d h =
    let low : digit_zero ≤ 0x30 + d = omega arith in
    let high : 0x30 + d ≤ digit_nine = omega arith in
    rw (le-leb digit_zero (0x30 + d) low, le-leb (0x30 + d) digit_nine high)

-- The digits of a number are digits, and there are some.
all_digits_lem : (k n : ℕ) → n ≤ k → all_digits (digits k n) ≡ true
all_digits_lem zero n h = one n (omega arith)
all_digits_lem (suc k) n h = go (ltb n 10) refl (all_digits_lem k (n / 10))
  where
    go : (b : Bool) → ltb n 10 ≡ b → (n / 10 ≤ k → all_digits (digits k (n / 10)) ≡ true) → all_digits (digits (suc k) n) ≡ true
    go true e r = rw e (one n (ltb-true n 10 e))
    go false e r = rw e (digits_append (digits k (n / 10)) (digit (n % 10)) (r (omega arith)) (one (n % 10) (omega arith)))

some_digits : (k n : ℕ) → 1 ≤ length (digits k n)
some_digits zero n = omega arith
some_digits (suc k) n = go (ltb n 10) refl
  where
    go : (b : Bool) → ltb n 10 ≡ b → 1 ≤ length (digits (suc k) n)
    go true e = rw e (omega arith)
    go false e = rw e (omega (arith, length-append (digits k (n / 10)) (digit (n % 10))))

pub word-read_back : (n : ℕ) → n ≤ most_value → word_of (decimal n) ≡ Some n
unfolding decimal word_of is_number
word-read_back n h = rw (digits_value n n (omega arith), all_digits_lem n n (omega arith), le-leb n most_value h, le-leb 1 (length (digits n n)) (some_digits n n), le-leb (length (digits n n)) longest_number few)
  where
    few : length (decimal n) ≤ longest_number
    few = few_digits 9 n (omega arith)
