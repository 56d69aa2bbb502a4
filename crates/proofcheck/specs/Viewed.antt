-- Internal: a rule asked item after item of its view.
use Rattle.std.specs.Prelude.{ℕ, ◌<◌, ◌≡◌, Bool, true, cond, not, ◌&&◌, List, length, set, ltb}
use Rattle.theory.specs.Rule.{all, Rule, FactSet}
use Rattle.items.specs.declared.item.FactId.{FactId}
use Rattle.items.specs.Item.{narrow, max_facts, has}
use Rattle.cursors.specs.Cursor.{items_at, body_at}
use Rattle.reader.specs.Questions.{premises_of, constraints_of}
use Rattle.marking.specs.Marks.{barred}
use Rattle.view.specs.declared.range.Own.{Own}
use Rattle.view.specs.declared.range.Own.TheVariants.{Premise, Constraint}
use Rattle.view.specs.View.{end_at}
use Rattle.proofcheck.specs.Steps.{rule_fits, RuleMarked}

-- The premises and constraints that stand from a place of a file on, as those of a rule.
abbrev pub rule_ahead : List ℕ → ℕ → Rule
rule_ahead s at = record { conclusion = 0; premises = premises_of (items_at s (body_at at)); constraints = constraints_of (items_at s (body_at at)) }

-- There is a mark for each of these facts.
abbrev pub marks_fit : List ℕ → Bool
marks_fit xs = all (λ f. ltb f (max_facts narrow)) xs

-- The range is that of a rule, and its constraints have marks.
pub record MayView (s : List ℕ) (at end : ℕ) (marks : List ℕ) : Type 0 where
  pub size : length marks ≡ max_facts narrow
  pub ends : end ≡ end_at s at
  pub below : marks_fit (constraints_of (items_at s (body_at at))) ≡ true

-- The item has a mark where it is a constraint.
pub record MayAsk (o : Own) (marks : List ℕ) : Type 0 where
  pub size : length marks ≡ max_facts narrow
  pub below : (f : FactId) → o ≡ Constraint f → f.0 < max_facts narrow

-- A premise is in S; a constraint is outside S and outside M.
abbrev pub item_fits : FactSet → FactSet → Own → Bool
item_fits M S (Premise f) = S f.0
item_fits M S (Constraint f) = not (S f.0) && not (M f.0)

-- The marks after an item: a constraint that fits is barred.
abbrev pub barred_by : Bool → Own → List ℕ → List ℕ
barred_by fits (Premise f) marks = marks
barred_by fits (Constraint f) marks = cond fits (set marks f.0 barred) marks

-- An item is asked: S is the facts marked, `after` the marks then.
abbrev pub ItemAnswered : FactSet → List ℕ → Own → Bool → List ℕ → Type 0
ItemAnswered M marks o fits after = (fits ≡ item_fits M (has marks) o) × (after ≡ barred_by (item_fits M (has marks) o) o marks)

-- A rule is asked: whether it fits, and where it does, its constraints are barred.
abbrev pub Fitted : FactSet → Rule → List ℕ → Bool → List ℕ → Type 0
Fitted M R marks fits after = (fits ≡ rule_fits M (has marks) R) × (fits ≡ true → RuleMarked R marks after)
