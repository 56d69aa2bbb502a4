-- Internal: a relation between keys, which are facts or literals, and numbers below the most rules of a file, as a row of bits for each key.
use Rattle.std.specs.Prelude.{ℕ, ◌+◌, ◌*◌, ◌/◌, ◌%◌, ◌^◌, ◌<◌, ◌≤◌, ◌≡◌, Bool, true, ◌&&◌, ◌||◌, List, length, get_or, eqb}
use Rattle.std.specs.Int.Bits.{bit_or}
use Rattle.theory.specs.Rule.{keep, up_to}
use Rattle.items.specs.Item.{narrow, max_facts, max_rules}
use Rattle.bits.specs.Flags.{word_bits, row_words, word}

-- a row for each fact
abbrev pub matrix_words : ℕ
matrix_words = max_facts narrow * row_words

-- The row of each key has the bits of the numbers that stand in the relation to it. Behind the rows there may be more words.
pub record Matrix (keys : ℕ) (q : ℕ → ℕ → Bool) (matrix : List ℕ) : Type 0 where
  pub places : keys * row_words ≤ length matrix
  pub words : (f k : ℕ) → f < keys → k < row_words → get_or matrix (f * row_words + k) 0 ≡ word (q f) (k * word_bits) word_bits
  pub inside : (f i : ℕ) → q f i ≡ true → i < max_rules

-- The number's bit is set in the row of the key: to set it changes nothing.
unfoldable pub bit_in : List ℕ → ℕ → ℕ → Bool
bit_in matrix key i =
    eqb (bit_or (get_or matrix (key * row_words + i / word_bits) 0) (2 ^ (i % word_bits))) (get_or matrix (key * row_words + i / word_bits) 0)

-- The numbers of which the row of the key has the bits, ascending.
abbrev pub numbers_in : List ℕ → ℕ → List ℕ
numbers_in matrix key = keep (bit_in matrix key) (up_to max_rules)

-- the relation with one pair more
abbrev pub adjoin_in : (ℕ → ℕ → Bool) → ℕ → ℕ → (ℕ → ℕ → Bool)
adjoin_in q key place = λ f k. eqb f key && eqb k place || q f k

-- A row has the words of the key's row.
pub record RowCopied (matrix : List ℕ) (key : ℕ) (before after : List ℕ) : Type 0 where
  pub places : length after ≡ length before
  pub words : length before ≡ row_words → (k : ℕ) → k < row_words → get_or after k 0 ≡ get_or matrix (key * row_words + k) 0

-- The words from a place on are as they were.
pub record SameFrom (from : ℕ) (before after : List ℕ) : Type 0 where
  pub places : length after ≡ length before
  pub words : (k : ℕ) → from ≤ k → get_or after k 0 ≡ get_or before k 0
