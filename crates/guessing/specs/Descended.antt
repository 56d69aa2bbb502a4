-- Internal: the first guess from one on that nothing on the way to it refutes.
use Rattle.std.specs.Prelude.{ℕ, ◌^◌, ◌<◌, ◌≤◌, List, length}
use Rattle.theory.specs.Rule.{Program}
use Rattle.nogoods.specs.Nogoods.{Passed}
use Rattle.guessing.specs.Guessing.{fits_at, Derived}

-- No guess from one up to another fits, and the marks show what the other derives.
pub record Descended (P : Program) (row base : List ℕ) (from guess : ℕ) (marks : List ℕ) : Type 0 where
  pub onward : from ≤ guess
  pub inside : guess < 2 ^ length row
  pub passed : Passed (fits_at P row base) from guess
  pub derived : Derived P row base guess marks
