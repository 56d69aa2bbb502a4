-- Forward chaining along an order: definition 3.1 of document 000, for a finite program. The plain rules are its mon(P), the exception rules
-- its nmon(P), conclusion, premises and constraints its c(C), prem(C) and cons(C). And the order of its steps, by document 01.
use Rattle.std.specs.Prelude.{ℕ, zero, suc, ◌<◌, ◌≡◌, true, false, ◌||◌, List, map, ◌⊎◌, ◌↔◌, length, get_or, take}
use Rattle.theory.specs.Rule.{all, clear, mem, how_many, Program, Mask, FactSet, Same, nothing, adjoin, count, rule, exception, Step, Least, plain_rules}
use Rattle.theory.specs.Stable.{step_at, facts_of}

-- T is cl_mon(S), the least set above S closed under the plain rules in force.
abbrev pub IsClosure : Program → Mask → FactSet → FactSet → Type 0
IsClosure P on S T = Least P (plain_rules P on) S T

-- no fact is in both
abbrev pub Disjoint : FactSet → FactSet → Type 0
Disjoint S T = (f : ℕ) → S f ≡ true → T f ≡ true → ⊥

-- cons(C): the set of the constraints of rule c
abbrev pub constraint_set : Program → ℕ → FactSet
constraint_set P c f = mem f (rule P c).constraints

-- C is a clause in force with prem(C) in D, and neither c(C) nor a constraint of C is in D.
pub record Supported (P : Program) (on : Mask) (D : FactSet) (c : ℕ) : Type 0 where
  pub known : c < count P
  pub in-force : on c ≡ true
  pub premises-in : all D (rule P c).premises ≡ true
  pub conclusion_out : D (rule P c).conclusion ≡ false
  pub constraints_out : clear D (rule P c).constraints ≡ true

-- An applicable clause (clause 2): of nmon(P), supported, and cl_mon(D ∪ {c(C)}) meets neither cons(C) nor R.
pub record Applicable (P : Program) (on : Mask) (D R : FactSet) (c : ℕ) : Type 0 where
  pub in_nmon : exception P c ≡ true
  pub supported : Supported P on D c
  pub closed : FactSet
  pub is_closure : IsClosure P on (adjoin D (rule P c).conclusion) closed
  pub spares_own : Disjoint closed (constraint_set P c)
  pub spares_rejected : Disjoint closed R

-- c stands in the order, and no rule that stands before it is applicable.
pub record First (P : Program) (on : Mask) (order : List ℕ) (D R : FactSet) (c : ℕ) : Type 0 where
  pub place : ℕ
  pub inside : place < length order
  pub is : get_or order place 0 ≡ c
  pub applicable : Applicable P on D R c
  pub none_before : (j : ℕ) → j < place → Applicable P on D R (get_or order j 0) → ⊥

-- Clause 2 where a clause is applicable: the first one, C, is taken.
pub record Takes (P : Program) (on : Mask) (order : List ℕ) (D R D' R' : FactSet) : Type 0 where
  pub taken : ℕ
  pub first : First P on order D R taken
  pub derives : IsClosure P on (adjoin D (rule P taken).conclusion) D'
  pub rejects : (f : ℕ) → R' f ≡ R f || constraint_set P taken f

-- Clause 2 where none is: both sets stay.
pub record Rests (P : Program) (on : Mask) (D R D' R' : FactSet) : Type 0 where
  pub none_applicable : (c : ℕ) → Applicable P on D R c → ⊥
  pub derived_stays : Same D' D
  pub rejected_stays : Same R' R

-- The sequences D and R of the construction.
pub record Chaining (P : Program) (on : Mask) (order : List ℕ) (D R : ℕ → FactSet) : Type 0 where
  pub derives_first : IsClosure P on nothing (D zero)
  pub rejects_first : Same (R zero) nothing
  pub goes_on : (n : ℕ) → Takes P on order (D n) (R n) (D (suc n)) (R (suc n)) ⊎ Rests P on (D n) (R n) (D (suc n)) (R (suc n))

-- X is the union of the sequence (clause 4).
abbrev pub IsUnion : (ℕ → FactSet) → FactSet → Type 0
IsUnion S X = (f : ℕ) → (X f ≡ true) ↔ ((n : ℕ) × (S n f ≡ true))

-- An inconsistent clause (clause 5): supported by the union of D, but the closure with its conclusion meets its constraints or the union of R.
pub record Inconsistent (P : Program) (on : Mask) (D R : FactSet) (c : ℕ) : Type 0 where
  pub supported : Supported P on D c
  pub closed : FactSet
  pub is_closure : IsClosure P on (adjoin D (rule P c).conclusion) closed
  pub met : ℕ
  pub met_in : closed met ≡ true
  pub met_by : (constraint_set P c met ≡ true) ⊎ (R met ≡ true)

-- The order of the steps (document 01, "The least set and its steps" and "The run").

-- A rule that is on is ready on S: its premises are in S, and its conclusion is not.
pub record ReadyOn (P : Program) (on : Mask) (S : FactSet) (c : ℕ) : Type 0 where
  pub known : c < count P
  pub is_on : on c ≡ true
  pub premises-in : all S (rule P c).premises ≡ true
  pub conclusion_out : S (rule P c).conclusion ≡ false

-- The lowest-numbered one.
pub record LowestReady (P : Program) (on : Mask) (S : FactSet) (c : ℕ) : Type 0 where
  pub ready : ReadyOn P on S c
  pub none_below : (d : ℕ) → d < c → ReadyOn P on S d → ⊥

-- The number of stages that lie behind a row of steps: of its steps by exception rules.
abbrev pub stages_behind : Program → List Step → ℕ
stages_behind P row = how_many (exception P) (map (λ s. s.by) row)

-- Rule c is the one taken at the stage that has D and R, and the facts so far, S, are those of D.
pub record TakenNext (P : Program) (on : Mask) (order : List ℕ) (D R S : FactSet) (c : ℕ) : Type 0 where
  pub reached : Same S D
  pub taken : First P on order D R c

-- A step stands in its turn behind the steps before it, for a chaining D and R along the order.
pub record InTurn (P : Program) (on : Mask) (order : List ℕ) (D R : ℕ → FactSet) (before : List Step) (step : Step) : Type 0 where
  -- Its fact has no step yet, and its rule concludes it.
  pub new : facts_of before step.fact ≡ false
  pub concludes : (rule P step.by).conclusion ≡ step.fact
  -- Where some plain rule in force is ready on the facts so far, the step is by the lowest-numbered one.
  pub plain_first : (c : ℕ) → ReadyOn P (plain_rules P on) (facts_of before) c → LowestReady P (plain_rules P on) (facts_of before) step.by
  -- Where none is, the step is by the rule taken at the next stage.
  pub else_taken : ((c : ℕ) → ReadyOn P (plain_rules P on) (facts_of before) c → ⊥) → TakenNext P on order (D (stages_behind P before)) (R (stages_behind P before)) (facts_of before) step.by

-- Each step of the row stands in its turn.
abbrev pub StepsInTurn : Program → Mask → List ℕ → (ℕ → FactSet) → (ℕ → FactSet) → List Step → Type 0
StepsInTurn P on order D R row = (k : ℕ) → k < length row → InTurn P on order D R (take k row) (step_at row k)
