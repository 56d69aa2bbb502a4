-- Shorter grounds for one fact (document 02, wish 1), and minimal proofs (document 004).
use Rattle.std.specs.Prelude.{ℕ, zero, suc, ◌<◌, ◌≡◌, Bool, true, false, cond, ◌&&◌, ◌||◌, List, [], ◌∷◌, map, length, take, eqb}
use Rattle.theory.specs.Rule.{all, mem, Program, Mask, FactSet, count, rule, Step}
use Rattle.theory.specs.Stable.{step_at, facts_of, used_rule, Proof}

-- A set of step numbers: the places of steps in a row.
abbrev pub StepSet : Type 0
StepSet = ℕ → Bool

-- It has the fact's own step.
abbrev pub HasOwn : List Step → ℕ → StepSet → Type 0
HasOwn row f K = (k : ℕ) → k < length row → (step_at row k).fact ≡ f → K k ≡ true

-- With a step it has the step of each premise of that step's rule.
abbrev pub Back : Program → List Step → StepSet → Type 0
Back P row K =
    (k j : ℕ) → k < length row → j < length row → K k ≡ true → mem (step_at row j).fact (used_rule P row k).premises ≡ true → K j ≡ true

-- The steps kept for f (wish 1: "keep the fact's own step, then, for each premise of its rule, the step of that premise, and so on back"): the least
-- set that has the fact's own step and goes back.
pub record Kept (P : Program) (row : List Step) (f : ℕ) (K : StepSet) : Type 0 where
  pub own : HasOwn row f K
  pub back : Back P row K
  pub below : (N : StepSet) → HasOwn row f N → Back P row N → (k : ℕ) → k < length row → K k ≡ true → N k ≡ true

-- The elements at the places of a set, in their old order.
abbrev pub select : {A : Type 0} → (ℕ → Bool) → List A → List A
select K [] = []
select K (x ∷ xs) = cond (K 0) (x ∷ select (λ k. K (suc k)) xs) (select (λ k. K (suc k)) xs)

-- xs is a subsequence of ys: its steps stand in ys at ascending places.
pub record Subsequence (xs ys : List Step) : Type 0 where
  pub place : ℕ → ℕ
  pub inside : (k : ℕ) → k < length xs → place k < length ys
  pub same : (k : ℕ) → k < length xs → step_at xs k ≡ step_at ys (place k)
  pub ascends : (j k : ℕ) → j < k → k < length xs → place j < place k

-- Some step of the row is by rule i.
abbrev pub uses : List Step → ℕ → Bool
uses row i = mem i (map (λ s. s.by) row)

-- Every rule that one row uses, another uses too.
abbrev pub UsesOnly : List Step → List Step → Type 0
UsesOnly other row = (i : ℕ) → uses other i ≡ true → uses row i ≡ true

-- A minimal proof of f (document 004): a proof of f that uses only its rules uses all of them.
pub record Minimal (P : Program) (on : Mask) (row : List Step) (f : ℕ) : Type 0 where
  pub proof : Proof P on row f
  pub minimal : (other : List Step) → Proof P on other f → UsesOnly other row → UsesOnly row other

-- The kept steps as they are computed, from the last step to the first: a step is kept where its fact is wanted, f itself or a premise of the rule
-- of a later step that is kept. `keeping_kept` says that this is `Kept`.
abbrev pub wanted : Program → ℕ → List Step → FactSet
wanted P f [] g = eqb g f
wanted P f (s ∷ row) g = wanted P f row g || (wanted P f row s.fact && mem g (rule P s.by).premises)

abbrev pub kept_steps : Program → ℕ → List Step → StepSet
kept_steps P f [] k = false
kept_steps P f (s ∷ row) zero = wanted P f row s.fact
kept_steps P f (s ∷ row) (suc k) = kept_steps P f row k

unfoldable pub grounds_of : Program → ℕ → List Step → List Step
grounds_of P f row = select (kept_steps P f row) row

-- Each fact of the row has one step.
abbrev pub Once : List Step → Type 0
Once row = (j k : ℕ) → j < length row → k < length row → (step_at row j).fact ≡ (step_at row k).fact → j ≡ k

-- What holds of the steps of every run: each step's rule is one of the program and concludes the step's fact; its premises are facts of earlier steps;
-- each fact has one step.
pub record Traced (P : Program) (row : List Step) : Type 0 where
  pub known : (k : ℕ) → k < length row → (step_at row k).by < count P
  pub concludes : (k : ℕ) → k < length row → (used_rule P row k).conclusion ≡ (step_at row k).fact
  pub founded : (k : ℕ) → k < length row → all (facts_of (take k row)) (used_rule P row k).premises ≡ true
  pub once : Once row
