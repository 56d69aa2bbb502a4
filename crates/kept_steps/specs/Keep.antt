-- Internal: the places of the steps of a row, and what keeping steps leaves of a set of kept ones.
use Rattle.std.specs.Prelude.{ℕ, ◌<◌, ◌≤◌, ◌≡◌, true, false, List, map, length, get_or}
use Rattle.theory.specs.Rule.{all, mem, Program, Step}
use Rattle.theory.specs.Derive.{step_by}
use Rattle.theory.specs.Stable.{step_at, used_rule}
use Rattle.theory.specs.Keeping.{StepSet, Back, Traced}
use Rattle.items.specs.Item.{narrow, max_facts}

-- The steps of the rules that fired, in their order.
abbrev pub steps_by : Program → List ℕ → List Step
steps_by P rules = map (step_by P) rules

-- The place of a fact's step.
abbrev pub place_of : List ℕ → ℕ → ℕ
place_of places f = get_or places f 0

-- For each fact of a row of steps the table has the place of its step.
pub record Placed (row : List Step) (places : List ℕ) : Type 0 where
  pub step_there : (k : ℕ) → k < length row → place_of places (step_at row k).fact ≡ k

-- The step at place k of the row of rules that fired may be kept: the row is that of a run, the table has the places of its steps, and each step has a cell
-- for its mark.
pub record MayKeep (P : Program) (rules places kept : List ℕ) (k : ℕ) : Type 0 where
  pub few : length rules ≤ max_facts narrow
  pub cells : length kept ≡ max_facts narrow
  pub traced : Traced P (steps_by P rules)
  pub placed : Placed (steps_by P rules) places
  pub inside : k < length rules

-- Keeping the steps at some places turns the set K of kept steps into K': it has all of K and the steps asked for; with each step that is new it has
-- the step of each premise of its rule; and it has no step that it could do without.
pub record Keeps (P : Program) (row : List Step) (K : StepSet) (asked : List ℕ) (K' : StepSet) : Type 0 where
  pub above : (k : ℕ) → K k ≡ true → K' k ≡ true
  pub has_asked : all K' asked ≡ true
  pub new_back : (k j : ℕ) → k < length row → j < length row → K k ≡ false → K' k ≡ true → mem (step_at row j).fact (used_rule P row k).premises ≡ true → K' j ≡ true
  pub below : (N : StepSet) → Back P row N → ((k : ℕ) → k < length row → K k ≡ true → N k ≡ true) → all N asked ≡ true → (k : ℕ) → k < length row → K' k ≡ true → N k ≡ true
