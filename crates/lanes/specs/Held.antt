-- Internal: the facts that each lane holds out.
use Rattle.std.specs.Prelude.{ℕ, ◌<◌, ◌≡◌, false, not, List, length}
use Rattle.theory.specs.Rule.{mem}
use Rattle.theory.specs.Guesses.{bit, fact_at}
use Rattle.items.specs.Item.{narrow, max_facts, has}
use Rattle.bits.specs.Flags.{word_bits}
use Rattle.index.specs.Literal.{outside}
use Rattle.lanes.specs.Lanes.{lane_words, lane_cells, lane_in, lane_guess, Beside}

-- A fact is held out in the lanes of a block whose guess lacks the bit of its place.
pub record FactHeld (fact block place : ℕ) (before after : List ℕ) : Type 0 where
  pub beside : Beside fact before after
  pub held : length before ≡ lane_cells → (w t : ℕ) → w < lane_words → t < word_bits → lane_in after w t fact ≡ not (bit (lane_guess block w t) place)

-- Each fact of the row is held out so.
pub record BlockHeld (row : List ℕ) (block : ℕ) (before after : List ℕ) : Type 0 where
  pub places : length after ≡ length before
  pub held : length before ≡ lane_cells → (j w t : ℕ) → j < length row → w < lane_words → t < word_bits → lane_in after w t (fact_at row j) ≡ not (bit (lane_guess block w t) j)
  pub others : (k w t : ℕ) → mem k row ≡ false → w < lane_words → t < word_bits → lane_in after w t k ≡ lane_in before w t k

-- Every lane holds out what is held out at the base.
pub record BaseHeld (base outs : List ℕ) : Type 0 where
  pub places : length outs ≡ lane_cells
  pub held : (k w t : ℕ) → k < max_facts narrow → w < lane_words → t < word_bits → lane_in outs w t k ≡ has base (outside k)
