-- Internal: ranks of the facts of a program in a row of numbers.
use Rattle.std.specs.Prelude.{ℕ, ◌<◌, ◌≤◌, ◌≡◌, List, length}
use Rattle.theory.specs.Rule.{Program, in_force}
use Rattle.theory.specs.Layers.{Ranks}
use Rattle.theory.specs.Places.{rank_in}
use Rattle.items.specs.Item.{narrow, max_facts}

-- The ranks found so far: a cell for each fact, each rank below the count of cells, and none higher than it must be.
pub record RanksSoFar (P : Program) (ranks : List ℕ) : Type 0 where
  pub places : length ranks ≡ max_facts narrow
  pub low : (f : ℕ) → rank_in ranks f < max_facts narrow
  pub under : (rank : ℕ → ℕ) → Ranks P (in_force P) rank → (f : ℕ) → rank_in ranks f ≤ rank f
