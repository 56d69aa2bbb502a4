-- Internal: a guess beside the facts that are marked.
use Rattle.std.specs.Prelude.{ℕ, ◌<◌, ◌≡◌, not, List, length, Option, Some, None}
use Rattle.theory.specs.Guesses.{bit, fact_at}
use Rattle.items.specs.Item.{has}

-- What a comparison says.
pub record Compares (row : List ℕ) (g : ℕ) (marks : List ℕ) (answer : Option ℕ) : Type 0 where
  pub same : answer ≡ None → (j : ℕ) → j < length row → has marks (fact_at row j) ≡ bit g j
  pub apart : (j : ℕ) → answer ≡ Some j → (j < length row) × (has marks (fact_at row j) ≡ not (bit g j))
