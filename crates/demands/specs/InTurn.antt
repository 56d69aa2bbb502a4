-- The order of the steps, shown from the bytes of two files: what the run leaves, and rows of the same facts whose steps are not in turn.
use Rattle.std.specs.Prelude.{ℕ, List, [], ◌∷◌}
use Rattle.theory.specs.Rule.{FactSet, in_force}
use Rattle.theory.specs.Chaining.{StepsInTurn}
use Rattle.reader.specs.Questions.{program_of}
use Rattle.questions.specs.Questions.{row_of}
use Rattle.run.specs.Outcome.{done}
use Rattle.demands.specs.Starred.{Runs}

-- The bytes of the examples below: 2 facts; 0<; 1<. And 3 facts; 0<!2; 1<.
abbrev pub two_ready : List ℕ
two_ready = 0x10 ∷ 2 ∷ 0x01 ∷ 0 ∷ 0x01 ∷ 1 ∷ 0x1F ∷ 0 ∷ 2 ∷ []

abbrev pub one_ready : List ℕ
one_ready = 0x10 ∷ 3 ∷ 0x01 ∷ 0 ∷ 0x03 ∷ 2 ∷ 0x01 ∷ 1 ∷ 0x1F ∷ 0 ∷ 2 ∷ []

-- Whatever D and R are, the steps in these bytes are not in turn.
abbrev pub OutOfTurn : List ℕ → List ℕ → List ℕ → Type 0
OutOfTurn file order row = (D R : ℕ → FactSet) → StepsInTurn (program_of file) (in_force (program_of file)) order D R (row_of row) → ⊥

pub record InTurnExample : Type 0 where
  -- Two plain rules are ready at once, and the lowest-numbered one comes first: (0,0) (1,1). Neither (1,1) (0,0) nor (0,0) (0,0) (1,1) is in turn.
  pub lowest_first : Runs two_ready [] (record { answer = done 0 2; fact_marks = 1 ∷ 1 ∷ []; rule_marks = 0 ∷ 0 ∷ []; steps = 6 ∷ 0 ∷ 0 ∷ 0 ∷ 6 ∷ 1 ∷ 0 ∷ 1 ∷ [] })
  pub not_highest : OutOfTurn two_ready [] (6 ∷ 1 ∷ 0 ∷ 1 ∷ 6 ∷ 0 ∷ 0 ∷ 0 ∷ [])
  pub not_twice : OutOfTurn two_ready [] (6 ∷ 0 ∷ 0 ∷ 0 ∷ 6 ∷ 0 ∷ 0 ∷ 0 ∷ 6 ∷ 1 ∷ 0 ∷ 1 ∷ [])
  -- A plain rule that is ready comes before an exception rule with a lower number: (1,1) (0,0). The row (0,0) (1,1) is not in turn.
  pub plain_first : Runs one_ready (0 ∷ []) (record { answer = done 1 2; fact_marks = 1 ∷ 1 ∷ 2 ∷ []; rule_marks = 1 ∷ 0 ∷ []; steps = 6 ∷ 1 ∷ 0 ∷ 1 ∷ 6 ∷ 0 ∷ 0 ∷ 0 ∷ 9 ∷ 9 ∷ 9 ∷ 9 ∷ [] })
  pub not_exception : OutOfTurn one_ready (0 ∷ []) (6 ∷ 0 ∷ 0 ∷ 0 ∷ 6 ∷ 1 ∷ 0 ∷ 1 ∷ [])
