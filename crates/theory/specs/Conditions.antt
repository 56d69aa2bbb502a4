-- Conditions that laws and the contracts of internal functions ask for, and the mask of every rule.
use Rattle.std.specs.Prelude.{ℕ, ◌<◌, ◌≤◌, ◌≡◌, true, false, List, ltb}
use Rattle.theory.specs.Rule.{all, mem, Program, Mask, FactSet, count, rule, exception}

-- Every rule, the withheld ones too.
abbrev pub every_rule : Mask
every_rule i = true

-- Every fact of every rule is below the count of facts.
pub record Bounded (P : Program) : Type 0 where
  pub conclusion_below : (i : ℕ) → i < count P → (rule P i).conclusion < P.facts
  pub premises_below : (i : ℕ) → i < count P → all (λ f. ltb f P.facts) (rule P i).premises ≡ true
  pub constraints_below : (i : ℕ) → i < count P → all (λ f. ltb f P.facts) (rule P i).constraints ≡ true

-- M holds no number that is not a fact of the program.
abbrev pub Within : Program → FactSet → Type 0
Within P M = (f : ℕ) → P.facts ≤ f → M f ≡ false

-- The order names every exception rule in force.
abbrev pub Names : Program → Mask → List ℕ → Type 0
Names P on order = (c : ℕ) → exception P c ≡ true → on c ≡ true → mem c order ≡ true
