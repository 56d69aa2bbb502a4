-- A word that says a number: a word of 1 to 10 decimal digits, at most 4,294,967,295. Zeros in front are digits like others.
use Rattle.std.specs.Prelude.{ℕ, ◌+◌, ◌-◌, ◌*◌, Bool, true, cond, ◌&&◌, List, [], ◌∷◌, Option, Some, None, length, leb}

-- A digit is a byte from 0x30 to 0x39, the digits 0 to 9.
abbrev pub digit_zero : ℕ
digit_zero = 0x30

abbrev pub digit_nine : ℕ
digit_nine = 0x39

abbrev pub is_digit : ℕ → Bool
is_digit byte = leb digit_zero byte && leb byte digit_nine

abbrev pub all_digits : List ℕ → Bool
all_digits [] = true
all_digits (byte ∷ bytes) = is_digit byte && all_digits bytes

-- The value in base ten of a row of digits, the highest place first, behind digits of the value n.
abbrev pub value_behind : ℕ → List ℕ → ℕ
value_behind n [] = n
value_behind n (byte ∷ bytes) = value_behind (n * 10 + (byte - digit_zero)) bytes

abbrev pub value : List ℕ → ℕ
value bytes = value_behind 0 bytes

-- The most digits of a number that a word says, and the highest number.
abbrev pub longest_number : ℕ
longest_number = 10

abbrev pub most_value : ℕ
most_value = 4294967295

-- A word is a number, and which.
unfoldable pub is_number : List ℕ → Bool
is_number word =
    leb 1 (length word) && (leb (length word) longest_number && (all_digits word && leb (value word) most_value))

unfoldable pub word_of : List ℕ → Option ℕ
word_of word = cond (is_number word) (Some (value word)) None
