-- Internal: sets of facts, one for each lane. A lane is a bit of a word, the word and the bit by number; each fact has eight words.
use Rattle.std.specs.Prelude.{ℕ, ◌+◌, ◌*◌, ◌^◌, ◌<◌, ◌≡◌, Bool, true, false, List, length, get_or}
use Rattle.std.specs.Int.Bits.{bit_and, bit_or}
use Rattle.theory.specs.Rule.{FactSet}
use Rattle.theory.specs.Guesses.{bit}
use Rattle.items.specs.Item.{narrow, max_facts}
use Rattle.bits.specs.Flags.{word_bits, total}

-- the words of a fact, and how many lanes they have
abbrev pub lane_words : ℕ
lane_words = 8

abbrev pub lane_count : ℕ
lane_count = lane_words * word_bits

-- the words of all facts
abbrev pub lane_cells : ℕ
lane_cells = max_facts narrow * lane_words

-- more blocks of guesses than there are
abbrev pub blocks : ℕ
blocks = 128

-- a word with all lanes
abbrev pub every_lane : ℕ
every_lane = 18446744073709551615

-- word w of a fact
abbrev pub word_of : List ℕ → ℕ → ℕ → ℕ
word_of words f w = get_or words (f * lane_words + w) 0

-- the facts of lane t of word w
abbrev pub lane_in : List ℕ → ℕ → ℕ → FactSet
lane_in words w t f = bit (word_of words f w) t

-- the guess of a lane of a block
abbrev pub lane_guess : ℕ → ℕ → ℕ → ℕ
lane_guess block w t = (block * lane_words + w) * word_bits + t

-- each word has no more bits than a word has
abbrev pub Fit : List ℕ → Type 0
Fit words = (i : ℕ) → get_or words i 0 < 2 ^ word_bits

-- The words of the other facts stay.
pub record Beside (fact : ℕ) (before after : List ℕ) : Type 0 where
  pub places : length after ≡ length before
  pub others : (f w : ℕ) → w < lane_words → (f ≡ fact → ⊥) → word_of after f w ≡ word_of before f w

-- A fact has been given words.
pub record Put (fact : ℕ) (own before after : List ℕ) : Type 0 where
  pub beside : Beside fact before after
  pub given : length before ≡ lane_cells → (w : ℕ) → w < lane_words → word_of after fact w ≡ get_or own w 0

-- A body has kept the lanes that a fact has too.
pub record Met (fact : ℕ) (words before after : List ℕ) : Type 0 where
  pub places : length after ≡ length before
  pub kept : length before ≡ lane_words → (w : ℕ) → w < lane_words → get_or after w 0 ≡ bit_and (get_or before w 0) (word_of words fact w)

-- A fact has been given the lanes of a body.
pub record Joined (fact : ℕ) (body before after : List ℕ) (new : Bool) : Type 0 where
  pub beside : Beside fact before after
  pub given : length before ≡ lane_cells → (w : ℕ) → w < lane_words → word_of after fact w ≡ bit_or (word_of before fact w) (get_or body w 0)
  pub fitting : Fit before → Fit body → Fit after
  -- where none is new, nothing changes; else the words are more together
  pub same : new ≡ false → (f w : ℕ) → w < lane_words → word_of after f w ≡ word_of before f w
  pub more : length before ≡ lane_cells → new ≡ true → total before < total after
