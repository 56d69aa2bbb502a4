-- Internal: how the working memory of a run holds where the run stands.
use Rattle.std.specs.Prelude.{ℕ, ◌*◌, ◌<◌, ◌≤◌, ◌≡◌, List, [], length, take}
use Rattle.theory.specs.Rule.{mem, Program, in_force, count, nothing, plain_rules}
use Rattle.theory.specs.Derive.{fired as fired_from}
use Rattle.theory.specs.Run.{Stand, start, run, stage_count, step_count}
use Rattle.items.specs.Item.{narrow, max_facts, step_width, max_rules, has}
use Rattle.tables.specs.Layout.{program_in}
use Rattle.questions.specs.Questions.{named_in}
use Rattle.stage.specs.Look.{NamesOnly}
use Rattle.premises.specs.Plain.{mask_in, PlainIndexed}
use Rattle.stage.specs.Memory.{Holds, StandAtRest}

-- Before D is closed for the first time: no fact is derived, no rule applied.
abbrev pub outset : Stand
outset = record { derived = nothing; trace = []; applied = [] }

-- D is closed for the first time: the memory holds the start of a run, with the rules that fired; the plain rules are indexed, and what they lack counted.
pub record Began (P : Program) (index marks missing fired : List ℕ) (n : ℕ) : Type 0 where
  pub indexed : PlainIndexed P index
  pub in-force : mask_in index ≡ plain_rules P (in_force P)
  pub holds : Holds P (start P (in_force P)) marks fired n
  pub rests : StandAtRest P (start P (in_force P)) missing
  pub rules : take n fired ≡ fired_from P (plain_rules P (in_force P)) nothing

-- The memory holds a stand with the rules applied, as marks with a place for each rule.
pub record Held (P : Program) (s : Stand) (marks fired applied : List ℕ) (n : ℕ) : Type 0 where
  pub holds : Holds P s marks fired n
  pub applied_shown : has applied ≡ (λ i. mem i s.applied)
  pub applied_places : length applied ≡ max_rules

-- The counts of a run. Both fit in a number of two bytes.
pub record RunCounted (s : Stand) (stages steps : ℕ) : Type 0 where
  pub stages_counted : stages ≡ stage_count s
  pub steps_counted : steps ≡ step_count s
  pub few_stages : stages < max_facts narrow
  pub few_steps : steps < max_facts narrow

-- The run of the program that the tables hold, under an order.
abbrev pub run_in : List ℕ → List ℕ → Stand
run_in T order = run (program_in T) (in_force (program_in T)) (named_in order)

-- An order that a run may take: it names exception rules alone, no more than there can be.
abbrev pub MayOrder : Program → List ℕ → Type 0
MayOrder P order = NamesOnly P order × (length order ≤ max_rules)

-- The order is such a one, and the buffers have these lengths: room for the marks and for a step for each fact.
pub record MayRun (P : Program) (order : List ℕ) (facts rules steps : ℕ) : Type 0 where
  pub order_fits : MayOrder P order
  pub facts_fit : P.facts ≤ facts
  pub rules_fit : count P ≤ rules
  pub steps_fit : step_width narrow * P.facts ≤ steps
