-- A word read digit by digit: what is still to come, behind the value so far, gives what the whole word gives.
use Prim.Native.Nat.{ℕ, suc, ◌+◌, ◌-◌, ◌*◌, ◌^◌, ◌≤◌, ◌<◌}
use native.Mathlib.Omega.{arith}
use native.Mathlib.Nat.{pow-suc, pow-le-pow_right}
use native.Mathlib.Numerals.{add-one}
use mathlib.Core.Path.{◌≡◌, refl, ap, ◌∙◌}
use mathlib.Core.Bool.{Bool, true, false, ◌&&◌}
use mathlib.Core.List.{List, [], ◌∷◌}
use borrow.Author.Tests.{le-leb, lt-leb}
use lib.ListN.{length, get_or, drop, drop_of_length-le}
use lib.Seq.{drop-cons}
use lib.Dec.{leb}
use Rattle.std.specs.Prelude.{Option, Some, None}
use Rattle.words.specs.Word.{digit_zero, digit_nine, is_digit, all_digits, value_behind, value, longest_number, most_value, is_number, word_of}

and-false : (b : Bool) → (b && false) ≡ false
and-false true = refl
and-false false = refl

-- The first i bytes are digits of the value n.
pub record Reading (word : List ℕ) (i n : ℕ) : Type 0 where
  pub some_digits : 1 ≤ length word
  pub few_digits : length word ≤ longest_number
  pub inside : i ≤ length word
  pub small : n < 10 ^ i
  pub digits_left : all_digits word ≡ all_digits (drop i word)
  pub value_left : value word ≡ value_behind n (drop i word)

pub empty-word : (word : List ℕ) → length word ≡ 0 → ◌≡◌ {A = Option ℕ} None (word_of word)
unfolding word_of is_number
empty-word word e = rw e

pub long_word : (word : List ℕ) → longest_number < length word → ◌≡◌ {A = Option ℕ} None (word_of word)
unfolding word_of is_number
long_word word h = rw (lt-leb (length word) longest_number h, and-false (leb 1 (length word)))

-- a byte that is no digit makes the word no number
no-digits : (word : List ℕ) → all_digits word ≡ false → ◌≡◌ {A = Option ℕ} None (word_of word)
unfolding word_of is_number
no-digits word e =
    rw (e, and-false (leb (length word) longest_number), and-false (leb 1 (length word)))

pub none_read : {word : List ℕ} → (length word ≡ 0 → ⊥) → length word ≤ longest_number → Reading word 0 0
none_read {word} s f =
    record {
      some_digits = omega arith;
      few_digits = f;
      inside = omega arith;
      small = omega arith;
      digits_left = refl;
      value_left = refl;
    }

module _ (word : List ℕ) (i n : ℕ) (w : Reading word i n) where
  -- ten digits fit
  pub fits : i < length word → n < 1000000000
  fits h = omega (arith, w.small, pow-le-pow_right {n = 10} (omega arith) {i = i} {j = 9} (omega (arith, w.few_digits)))

  module _ (h : i < length word) where
    here : drop i word ≡ get_or word i 0 ∷ drop (suc i) word
    here = drop-cons word i 0 h

    other_byte : is_digit (get_or word i 0) ≡ false → ◌≡◌ {A = Option ℕ} None (word_of word)
    other_byte e = no-digits word (w.digits_left ∙ ap all_digits here ∙ rw e)

    pub low_byte : get_or word i 0 < digit_zero → ◌≡◌ {A = Option ℕ} None (word_of word)
    low_byte l = other_byte (rw (lt-leb digit_zero (get_or word i 0) l))

    pub high_byte : digit_nine < get_or word i 0 → ◌≡◌ {A = Option ℕ} None (word_of word)
    high_byte l =
        other_byte (rw (lt-leb (get_or word i 0) digit_nine l, and-false (leb digit_zero (get_or word i 0))))

    pub one_read : digit_zero ≤ get_or word i 0 → get_or word i 0 ≤ digit_nine → Reading word (i + 1) (n * 10 + (get_or word i 0 - digit_zero))
    one_read low high =
        record {
          some_digits = w.some_digits;
          few_digits = w.few_digits;
          inside = omega arith;
          small = rw (add-one i, pow-suc 10 i) (omega (arith, w.small));
          digits_left = w.digits_left ∙ ap all_digits here ∙ rw (add-one i, le-leb digit_zero (get_or word i 0) low, le-leb (get_or word i 0) digit_nine high);
          value_left = w.value_left ∙ ap (value_behind n) here ∙ rw (add-one i);
        }

  module _ (h : length word ≤ i) where
    none_left : drop i word ≡ []
    none_left = drop_of_length-le word h

    whole : value word ≡ n
    whole = w.value_left ∙ ap (value_behind n) none_left

    pub too_high : most_value < n → ◌≡◌ {A = Option ℕ} None (word_of word)
    unfolding word_of is_number
    too_high l =
        rw (whole, lt-leb n most_value l, and-false (all_digits word), and-false (leb (length word) longest_number), and-false (leb 1 (length word)))

    pub all_read : n ≤ most_value → Some n ≡ word_of word
    unfolding word_of is_number
    all_read l =
        rw (whole, le-leb n most_value l, w.digits_left, none_left, le-leb (length word) longest_number w.few_digits, le-leb 1 (length word) w.some_digits)
