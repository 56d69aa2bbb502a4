-- Internal: what the writing of a run's results needs.
use Rattle.std.specs.Prelude.{ℕ, ◌*◌, ◌<◌, ◌≤◌, List, length, get_or}
use Rattle.theory.specs.Rule.{Program, count as count_of}
use Rattle.items.specs.Item.{narrow, step_width}

-- The marks have a place for each fact, the numbers of the row are rules, and the buffers have these lengths: room for the marks of facts and of rules and
-- for the steps of the row.
pub record Writable (P : Program) (marks row : List ℕ) (facts rules steps : ℕ) : Type 0 where
  pub marks_places : P.facts ≤ length marks
  pub known : (k : ℕ) → k < length row → get_or row k 0 < count_of P
  pub facts_fit : P.facts ≤ facts
  pub rules_fit : count_of P ≤ rules
  pub steps_fit : step_width narrow * length row ≤ steps
