-- Internal: the search for the earliest stable set, where all constraint facts are guessed.
use Rattle.std.specs.Prelude.{ℕ, ◌<◌, ◌≡◌, false, List, length, Some, None}
use Rattle.std.specs.Prelude as std
use Rattle.std.proofs.Math.Option.{Option, none, some}
use Rattle.theory.specs.Rule.{Program, FactSet, in_force}
use Rattle.theory.specs.Search.{guessed}
use Rattle.items.specs.Item.{narrow, max_facts, has}
use Rattle.index.specs.Literal.{outside}
use Rattle.guessing.specs.Guessing.{RowBase}

-- Nothing is held out at the base, and the row has every constraint fact.
pub record AtRoot (P : Program) (row base : List ℕ) : Type 0 where
  pub every : row ≡ guessed P (in_force P)
  pub none_held : (k : ℕ) → has base (outside k) ≡ false
  pub row_base : RowBase P row base

-- The bytes show the set that was found, if there is one.
abbrev pub Shown : Option FactSet → std.Option (List ℕ) → Type 0
Shown none r = r ≡ None
Shown (some M) r = (bytes : List ℕ) × (r ≡ Some bytes) × (length bytes ≡ max_facts narrow) × (has bytes ≡ M)

-- the facts that the marks show, in bytes for the facts alone
pub record Kept (marks bytes : List ℕ) : Type 0 where
  pub places : length bytes ≡ max_facts narrow
  pub facts : (f : ℕ) → f < max_facts narrow → has bytes f ≡ has marks f
