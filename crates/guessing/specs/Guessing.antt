-- Internal: guesses over a row of facts, from a base at which what is sure beside the row is settled already.
use Rattle.std.specs.Prelude.{ℕ, ◌<◌, ◌≤◌, ◌≡◌, Bool, true, false, not, ◌&&◌, List, length}
use Rattle.theory.specs.Rule.{mem, Program, FactSet, in_force, count}
use Rattle.theory.specs.Check.{least_of}
use Rattle.theory.specs.Search.{guessed, fits}
use Rattle.theory.specs.Guesses.{bit, fact_at, guess_at, GuessRow}
use Rattle.items.specs.Item.{narrow, max_facts, max_guessed, has}
use Rattle.index.specs.Literal.{outside}
use Rattle.index.specs.Cells.{on_in}
use Rattle.propagation.specs.State.{Settled}
use Rattle.nogoods.specs.Nogoods.{guesses}

-- the constraint facts beside the row that are not held out at the base
abbrev pub sure_in : Program → List ℕ → List ℕ → FactSet
sure_in P row base k = mem k (guessed P (in_force P)) && not (mem k row) && not (has base (outside k))

-- The row of the facts that are left to guess, none of which is held out at the base.
pub record RowBase (P : Program) (row base : List ℕ) : Type 0 where
  pub few : length row ≤ max_guessed
  pub undecided : (k : ℕ) → mem k row ≡ true → has base (outside k) ≡ false
  pub to_guess : GuessRow P (in_force P) row (sure_in P row base)

-- The base: the marks and what each rule misses, with what is false beside the row held out.
pub record Base (P : Program) (R row base missing : List ℕ) : Type 0 where
  pub in-force : (i : ℕ) → i < count P → on_in R i ≡ in_force P i
  pub settled : Settled P (on_in R) base missing
  pub row_base : RowBase P row base

-- what the guess numbered g derives
abbrev pub derived_by : Program → List ℕ → List ℕ → ℕ → FactSet
derived_by P row base g = least_of P (in_force P) (guess_at row (sure_in P row base) g)

-- whether it fits
abbrev pub fits_at : Program → List ℕ → List ℕ → ℕ → Bool
fits_at P row base g = fits P (in_force P) (guess_at row (sure_in P row base) g)

-- The marks show what a guess derives.
abbrev pub Derived : Program → List ℕ → List ℕ → ℕ → List ℕ → Type 0
Derived P row base g marks = (f : ℕ) → f < max_facts narrow → has marks f ≡ derived_by P row base g f

-- A conflict: the fact of a place is derived by a guess though it is out, or is in it and not derived.
pub record Conflict (P : Program) (row base : List ℕ) (g place : ℕ) : Type 0 where
  pub small : g < guesses
  pub inside : place < length row
  pub apart : derived_by P row base g (fact_at row place) ≡ not (bit g place)
