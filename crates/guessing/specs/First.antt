-- Internal: what the first guesses tell.
use Rattle.std.specs.Prelude.{ℕ, ◌<◌, ◌≤◌, ◌≡◌, true, not, List, length, Some, None}
use Rattle.std.specs.Prelude as std
use Rattle.std.proofs.Math.Option.{Option, none, some}
use Rattle.theory.specs.Rule.{Program, FactSet, in_force}
use Rattle.theory.specs.Search.{fits, hunt}
use Rattle.theory.specs.Guesses.{bit, fact_at, guess_at}
use Rattle.nogoods.specs.Nogoods.{guesses, Passed}
use Rattle.guessing.specs.Guessing.{sure_in, derived_by, fits_at, Derived}
use Rattle.guessing.specs.declared.first.First as first
use Rattle.guessing.specs.declared.first.First.TheVariants.{Fits, Nothing, Open}

-- What trying a guess tells: it fits, or there is a conflict at a place.
pub record Tells (P : Program) (row base : List ℕ) (g : ℕ) (answer : std.Option ℕ) : Type 0 where
  pub same : answer ≡ None → fits_at P row base g ≡ true
  pub apart : (j : ℕ) → answer ≡ Some j → (j < length row) × (derived_by P row base g (fact_at row j) ≡ not (bit g j))

-- the first guess that fits, over all of them
abbrev pub first_fit : Program → List ℕ → List ℕ → Option FactSet
first_fit P row base = hunt (fits P (in_force P)) row (sure_in P row base)

-- What the first guesses answer.
pub record Sought (P : Program) (row base : List ℕ) (answer : first.First) (marks : List ℕ) : Type 0 where
  pub found : answer ≡ Fits → (g : ℕ) × (first_fit P row base ≡ some (guess_at row (sure_in P row base) g)) × Derived P row base g marks
  pub none_fits : answer ≡ Nothing → ◌≡◌ {A = Option FactSet} (first_fit P row base) none
  pub left : (g : ℕ) → answer ≡ Open g → (g ≤ guesses) × Passed (fits_at P row base) 0 g
