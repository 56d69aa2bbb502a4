-- Internal: the first guess that fits, by blocks.
use Rattle.std.specs.Prelude.{ℕ, ◌+◌, ◌*◌, ◌<◌, ◌≡◌, Bool, true, false, not, List, length, Some, None}
use Rattle.std.specs.Prelude as std
use Rattle.std.proofs.Math.Option.{Option, none, some}
use Rattle.theory.specs.Rule.{all, Program, FactSet, in_force}
use Rattle.theory.specs.Check.{least_of}
use Rattle.theory.specs.Guesses.{guess_at, unlike}
use Rattle.items.specs.Item.{narrow, max_facts, has}
use Rattle.bits.specs.Flags.{word_bits}
use Rattle.lanes.specs.Lanes.{lane_words, lane_count, lane_in}
use Rattle.nogoods.specs.Nogoods.{Passed}
use Rattle.guessing.specs.Guessing.{sure_in, fits_at, Derived}
use Rattle.guessing.specs.First.{first_fit}

-- what a lane derives
abbrev pub lane_derives : Program → List ℕ → ℕ → ℕ → FactSet
lane_derives P outs w t = least_of P (in_force P) (λ k. not (lane_in outs w t k))

-- each fact of the row is derived in a lane exactly where the lane does not hold it out
abbrev pub lane_fits : Program → List ℕ → List ℕ → ℕ → ℕ → Bool
lane_fits P row outs w t = all (λ k. unlike (lane_derives P outs w t k) (lane_in outs w t k)) row

-- A lane that fits, the first one, and what it derives.
pub record LaneFound (P : Program) (row outs found : List ℕ) : Type 0 where
  pub word : ℕ
  pub lane : ℕ
  pub word_inside : word < lane_words
  pub lane_inside : lane < word_bits
  pub fits : lane_fits P row outs word lane ≡ true
  pub none_before : (w t : ℕ) → w < lane_words → t < word_bits → w * word_bits + t < word * word_bits + lane → lane_fits P row outs w t ≡ false
  pub derives : (f : ℕ) → f < max_facts narrow → has found f ≡ lane_derives P outs word lane f

-- What trying a block tells: the marks of what the first lane that fits derives, or that none does.
pub record Tried (P : Program) (row outs : List ℕ) (answer : std.Option (List ℕ)) : Type 0 where
  pub one_fits : (found : List ℕ) → answer ≡ Some found → (length found ≡ max_facts narrow) × LaneFound P row outs found
  pub none_fits : answer ≡ None → (w t : ℕ) → w < lane_words → t < word_bits → lane_fits P row outs w t ≡ false

-- no guess before a block fits
abbrev pub PassedTo : Program → List ℕ → List ℕ → ℕ → Type 0
PassedTo P row base c = Passed (fits_at P row base) 0 (c * lane_count)

-- What looking through the blocks before one tells: the marks of what the first guess that fits derives, or that none of them does.
pub record FoundBefore (P : Program) (row base : List ℕ) (end : ℕ) (answer : std.Option (List ℕ)) : Type 0 where
  pub one_fits : (found : List ℕ) → answer ≡ Some found → (length found ≡ max_facts narrow) × (g : ℕ) × (first_fit P row base ≡ some (guess_at row (sure_in P row base) g)) × Derived P row base g found
  pub none_fits : answer ≡ None → PassedTo P row base end

-- What looking through the blocks tells: the marks of what the first guess that fits derives, or that none does.
pub record Found (P : Program) (row base : List ℕ) (answer : std.Option (List ℕ)) : Type 0 where
  pub one_fits : (found : List ℕ) → answer ≡ Some found → (length found ≡ max_facts narrow) × (g : ℕ) × (first_fit P row base ≡ some (guess_at row (sure_in P row base) g)) × Derived P row base g found
  pub none_fits : answer ≡ None → ◌≡◌ {A = Option FactSet} (first_fit P row base) none
