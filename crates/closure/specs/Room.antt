-- Internal: the memory that a derivation needs.
use Rattle.std.specs.Prelude.{ℕ, ◌+◌, ◌≤◌, ◌≡◌, not, List, length}
use Rattle.theory.specs.Rule.{how_many, up_to, Program}
use Rattle.items.specs.Item.{narrow, max_facts, has}

-- There is a mark for each fact, and from a place on a cell for each fact that the set lacks.
pub record Room (P : Program) (marks : List ℕ) (at : ℕ) : Type 0 where
  pub places : length marks ≡ max_facts narrow
  pub cells_left : at + how_many (λ f. not (has marks f)) (up_to P.facts) ≤ max_facts narrow
