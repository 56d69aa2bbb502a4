-- The loop that lists the facts of the row that a guess leaves out.
use Prim.Native.Nat.{ℕ, ◌≤◌}
use mathlib.Core.Path.{◌≡◌}
use mathlib.Core.List.{List, ◌++◌}
use lib.ListN.{length, take, drop}
use Rattle.theory.specs.Guesses.{left_out}
use Rattle.items.specs.Item.{max_guessed}

-- The first i facts of the row are passed or listed.
pub record Listing (row : List ℕ) (g : ℕ) (outs : List ℕ) (n i : ℕ) : Type 0 where
  pub places : length outs ≡ max_guessed
  pub room : n ≤ i
  pub listed : take n outs ++ left_out (drop i row) g ≡ left_out row g
