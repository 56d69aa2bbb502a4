-- Internal: the lanes whose guess fits.
use Rattle.std.specs.Prelude.{ℕ, ◌+◌, ◌*◌, ◌/◌, ◌%◌, ◌<◌, ◌≡◌, Bool, true, false, List, Option, Some, None}
use Rattle.theory.specs.Rule.{all}
use Rattle.theory.specs.Guesses.{unlike}
use Rattle.bits.specs.Flags.{word_bits}
use Rattle.lanes.specs.Lanes.{lane_words, lane_count, lane_in}

-- each fact of the row is derived in a lane exactly where the lane does not hold it out
abbrev pub agrees : List ℕ → List ℕ → List ℕ → ℕ → ℕ → Bool
agrees row derived outs w t = all (λ k. unlike (lane_in derived w t k) (lane_in outs w t k)) row

-- The first lane in which they agree.
pub record FirstFit (row derived outs : List ℕ) (answer : Option ℕ) : Type 0 where
  pub inside : (l : ℕ) → answer ≡ Some l → l < lane_count
  pub fits : (l : ℕ) → answer ≡ Some l → agrees row derived outs (l / word_bits) (l % word_bits) ≡ true
  pub none_before : (l : ℕ) → answer ≡ Some l → (w t : ℕ) → w < lane_words → t < word_bits → w * word_bits + t < l → agrees row derived outs w t ≡ false
  pub none_fits : answer ≡ None → (w t : ℕ) → w < lane_words → t < word_bits → agrees row derived outs w t ≡ false
