-- Internal: a set of numbers below the most rules of a file as a row of words, a bit for each number.
use Rattle.std.specs.Prelude.{ℕ, zero, suc, ◌+◌, ◌-◌, ◌*◌, ◌/◌, ◌<◌, ◌≤◌, ◌≡◌, Bool, true, false, cond, not, ◌&&◌, List, [], ◌∷◌, length, get_or, set, eqb, Option, Some, None}
use Rattle.std.proofs.Math.Option.{Option as Maybe, none, some}
use Rattle.std.specs.Int.Bits.{bit_and}
use Rattle.std.specs.Int.Count.{count_trailing_zeros}
use Rattle.theory.specs.Rule.{up_to}
use Rattle.theory.specs.Lists.{seek}
use Rattle.items.specs.Item.{max_rules}

-- The bits of a word, and the words of a row that has a bit for each rule of a file.
abbrev pub word_bits : ℕ
word_bits = 64

abbrev pub row_words : ℕ
row_words = max_rules / word_bits

-- a bit as a number
abbrev pub digit : Bool → ℕ
digit b = cond b 1 0

-- The n numbers from a on as the bits of a word, the lowest number in the lowest bit.
unfoldable pub word : (ℕ → Bool) → ℕ → ℕ → ℕ
word p a zero = 0
word p a (suc n) = word p (suc a) n * 2 + digit (p a)

-- The row has the bits of the numbers that pass the test, which are all below the most rules.
pub record Flags (p : ℕ → Bool) (row : List ℕ) : Type 0 where
  pub places : length row ≡ row_words
  pub words : (k : ℕ) → k < row_words → get_or row k 0 ≡ word p (k * word_bits) word_bits
  pub inside : (i : ℕ) → p i ≡ true → i < max_rules

-- the set less one number
abbrev pub without : (ℕ → Bool) → ℕ → (ℕ → Bool)
without p i = λ k. not (eqb k i) && p k

-- the lowest number of the set
unfoldable pub lowest_of : (ℕ → Bool) → Maybe ℕ
lowest_of p = seek p (up_to max_rules)

-- What taking the lowest number answers, and leaves.
pub record Taken (p : ℕ → Bool) (answer : Option ℕ) (after : List ℕ) : Type 0 where
  pub lowest : (i : ℕ) → answer ≡ Some i → lowest_of p ≡ some i
  pub rest : (i : ℕ) → answer ≡ Some i → Flags (without p i) after
  pub none_left : answer ≡ None → ◌≡◌ {A = Maybe ℕ} (lowest_of p) none
  pub kept : answer ≡ None → Flags p after

-- What taking some number of the set answers, and leaves.
pub record Picked (p : ℕ → Bool) (answer : Option ℕ) (after : List ℕ) : Type 0 where
  pub one_of : (i : ℕ) → answer ≡ Some i → p i ≡ true
  pub rest : (i : ℕ) → answer ≡ Some i → Flags (without p i) after
  pub none_left : answer ≡ None → (i : ℕ) → p i ≡ false

-- the sum of the words
abbrev pub total : List ℕ → ℕ
total [] = 0
total (x ∷ xs) = x + total xs

-- Whatever the row stands for: a number taken has a place in a table of rules, and the words are less together, so that one can go on only so
-- often.
pub record Falls (answer : Option ℕ) (before after : List ℕ) : Type 0 where
  pub inside : (i : ℕ) → answer ≡ Some i → i < max_rules
  pub less : (i : ℕ) → answer ≡ Some i → total after < total before

-- the words before one are all 0
abbrev pub NoneBefore : ℕ → List ℕ → Type 0
NoneBefore from row = (k : ℕ) → k < from → get_or row k 0 ≡ 0

-- The lowest bit of the first word that is not 0, of those from one on, is cleared: it is the number.
pub record LowestCleared (from number : ℕ) (before after : List ℕ) : Type 0 where
  pub at : ℕ
  pub reached : from ≤ at
  pub inside : at < row_words
  pub zeros : (k : ℕ) → from ≤ k → k < at → get_or before k 0 ≡ 0
  pub positive : 0 < get_or before at 0
  pub bit : ℕ
  pub bit_is : bit ≡ count_trailing_zeros word_bits (get_or before at 0)
  pub bit_inside : bit < word_bits
  pub number_is : number ≡ at * word_bits + bit
  pub rest : after ≡ set before at (bit_and (get_or before at 0) (get_or before at 0 - 1))

-- What taking the lowest number of the words from one on answers, and leaves.
abbrev pub TakenBehind : ℕ → Option ℕ → List ℕ → List ℕ → Type 0
TakenBehind from None before after = (after ≡ before) × ((k : ℕ) → from ≤ k → k < row_words → get_or before k 0 ≡ 0)
TakenBehind from (Some i) before after = LowestCleared from i before after
