-- Internal: the marks of a walk along a row of steps. A fact of a step has the mark 1; a constraint of a used rule is barred and has the mark 2.
use Rattle.std.specs.Prelude.{ℕ, ◌≡◌, Bool, not, ◌&&◌, ◌||◌, List, length}
use Rattle.theory.specs.Rule.{all, clear, mem, Rule, Program, FactSet, in_force, nothing, adjoin, rule, Step}
use Rattle.theory.specs.Check.{step_holds}
use Rattle.items.specs.Item.{narrow, max_facts, has}
use Rattle.marking.specs.Marks.{barred_in}

-- B with the facts of a list
abbrev pub joined : FactSet → List ℕ → FactSet
joined B xs = λ f. B f || mem f xs

-- a rule's premises are in S, its constraints outside S and outside M
abbrev pub rule_fits : FactSet → FactSet → Rule → Bool
rule_fits M S R = all S R.premises && (clear S R.constraints && clear M R.constraints)

-- A step holds after the facts S; the constraints of its rule are outside S and M; its fact is none of them, and none of those barred before.
unfoldable pub step_fits : Program → FactSet → FactSet → FactSet → Step → Bool
step_fits P M S B s =
    step_holds P (in_force P) S s
    && (clear S (rule P s.by).constraints && clear M (rule P s.by).constraints)
    && not (joined B (rule P s.by).constraints s.fact)

-- the constraints of a rule are barred
pub record RuleMarked (R : Rule) (before now : List ℕ) : Type 0 where
  pub size : length now ≡ max_facts narrow
  pub facts : has now ≡ has before
  pub bars : barred_in now ≡ joined (barred_in before) R.constraints

-- the fact of a step is marked, the constraints of its rule are barred
pub record StepMarked (P : Program) (s : Step) (before now : List ℕ) : Type 0 where
  pub size : length now ≡ max_facts narrow
  pub facts : has now ≡ adjoin (has before) s.fact
  pub bars : barred_in now ≡ joined (barred_in before) (rule P s.by).constraints

-- no fact has a mark
pub record Unmarked (marks : List ℕ) : Type 0 where
  pub size : length marks ≡ max_facts narrow
  pub no_fact : has marks ≡ nothing
  pub none_barred : barred_in marks ≡ nothing
