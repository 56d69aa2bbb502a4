-- Stable sets (Gelfond, Lifschitz), proofs and the sets that admit them (document 01, "Judge and proof check"; document 004), and the earliest
-- stable set (document 01, "The search").
use Rattle.std.specs.Prelude.{ℕ, ◌<◌, ◌-◌, ◌≡◌, Bool, false, ◌&&◌, true, cond, List, [], ◌∷◌, map, length, get_or, take, eqb, ◌⊎◌}
use Rattle.theory.specs.Rule.{all, clear, mem, Program, Mask, FactSet, nothing, rule, Rule, count, Same, constraint_fact, Least, Step, exception, by_key, first_case}

-- The reduct by M: the rules in force with no constraint in M. What is left of each is its conclusion and its premises.
unfoldable pub reduct : Program → Mask → FactSet → Mask
reduct P on M i = on i && clear M (rule P i).constraints

-- M is stable for the rules in force: it is the least set closed under the reduct by M.
abbrev pub Stable : Program → Mask → FactSet → Type 0
Stable P on M = Least P (reduct P on M) nothing M

-- What is read past the last step; no definition looks there.
abbrev pub no_step : Step
no_step = record { fact = 0; by = 0 }

abbrev pub step_at : List Step → ℕ → Step
step_at row k = get_or row k no_step

-- the facts of the steps of a row
abbrev pub facts_of : List Step → FactSet
facts_of row f = mem f (map (λ s. s.fact) row)

-- the rule that step k uses
abbrev pub used_rule : Program → List Step → ℕ → Rule
used_rule P row k = rule P (step_at row k).by

-- A row of steps is a proof of f: at least one step, the last of which concludes f; each step's rule is one of the program, in force, and
-- concludes the step's fact; its premises are facts of earlier steps; no constraint of any used rule is a fact of any step.
pub record Proof (P : Program) (on : Mask) (row : List Step) (f : ℕ) : Type 0 where
  pub not_empty : 0 < length row
  pub last : (step_at row (length row - 1)).fact ≡ f
  pub known : (k : ℕ) → k < length row → (step_at row k).by < count P
  pub in-force : (k : ℕ) → k < length row → on (step_at row k).by ≡ true
  pub concludes : (k : ℕ) → k < length row → (used_rule P row k).conclusion ≡ (step_at row k).fact
  pub founded : (k : ℕ) → k < length row → all (facts_of (take k row)) (used_rule P row k).premises ≡ true
  pub consistent : (k : ℕ) → k < length row → clear (facts_of row) (used_rule P row k).constraints ≡ true

-- M admits the row: no constraint of any used rule is in M.
abbrev pub Admits : Program → FactSet → List Step → Type 0
Admits P M row = (k : ℕ) → k < length row → clear M (used_rule P row k).constraints ≡ true

-- The row of steps from the first up to the fact's own step.
abbrev pub row_to : ℕ → List Step → List Step
row_to f [] = []
row_to f (s ∷ row) = s ∷ cond (eqb f s.fact) [] (row_to f row)

-- M is earlier than N (document 01): M lacks the highest-numbered constraint fact on which they differ.
pub record Earlier (P : Program) (on : Mask) (M N : FactSet) : Type 0 where
  pub highest : ℕ
  pub is_constraint : constraint_fact P on highest ≡ true
  pub lacks : M highest ≡ false
  pub has : N highest ≡ true
  pub agree_above : (k : ℕ) → highest < k → constraint_fact P on k ≡ true → M k ≡ N k

-- M is the earliest of the stable sets that pass a test: stable, passes, and earlier than every other stable set that passes.
pub record Earliest (P : Program) (on : Mask) (ok : FactSet → Bool) (M : FactSet) : Type 0 where
  pub stable : Stable P on M
  pub passes : ok M ≡ true
  pub before_others : (N : FactSet) → Stable P on N → ok N ≡ true → Same M N ⊎ Earlier P on M N

-- The search's own test: it takes the earliest of all stable sets. A later wish narrows it.
abbrev pub any_set : FactSet → Bool
any_set M = true

-- premises in M and no constraint in M
abbrev pub upheld : Program → Mask → FactSet → ℕ → Bool
upheld P on M i = on i && (all M (rule P i).premises && clear M (rule P i).constraints)

-- The group of a rule in the search's order: 0 upheld, 1 the others in force, 2 those that are not in force.
abbrev pub group_for : Program → Mask → FactSet → ℕ → ℕ
group_for P on M i =
    first_case
    ((upheld P on M i, 0)
    ∷ (on i, 1)
    ∷ [])
    2

-- How many groups there are.
abbrev pub order_groups : ℕ
order_groups = 3

-- The search's order (document 01) "names, ascending, the exception rules with premises in M and no constraint in M, then the others
-- ascending"; those that are withheld come last, ascending (document 02, wish 6).
unfoldable pub order_for : Program → Mask → FactSet → List ℕ
order_for P on M = by_key (exception P) (group_for P on M) (count P) 0 order_groups
