-- What the grounds for one fact answer, and leave in the buffers lent (document 02, wish 1).
use Rattle.std.specs.Prelude.{ℕ, ◌≡◌, List, length, Result, Ok, Err}
use Rattle.std.proofs.Math.Option.{Option, none, some}
use Rattle.theory.specs.Rule.{Program, in_force}
use Rattle.theory.specs.Run.{Stand, marks_of_facts, marks_of_rules}
use Rattle.theory.specs.Keeping.{StepSet, Kept, select, grounds_of}
use Rattle.items.specs.declared.refusal.Refusal.{Refusal}
use Rattle.items.specs.Question.{no_number}
use Rattle.items.specs.Answer.{answer_number, count_in}
use Rattle.items.specs.Write.{over}
use Rattle.items.specs.Item.{narrow}
use Rattle.reader.specs.Questions.{program_of}
use Rattle.questions.specs.Questions.{grounds_no, run_of}
use Rattle.closure.specs.Steps.{step_bytes}

-- The answer, and the three buffers.
pub record GroundsOutcome : Type 0 where
  pub answer : Result ℕ Refusal
  pub fact_marks : List ℕ
  pub rule_marks : List ℕ
  pub steps : List ℕ

-- Of a run that ends at s: the count of the kept steps is answered, and over the fronts of the buffers are written the run's marks and the kept steps only.
unfoldable pub grounds_written : Program → Stand → ℕ → List ℕ → List ℕ → List ℕ → GroundsOutcome
grounds_written P s fact facts rules steps =
    record {
      answer = Ok (length (grounds_of P fact s.trace));
      fact_marks = over (marks_of_facts P s) facts;
      rule_marks = over (marks_of_rules P (in_force P) s) rules;
      steps = over (step_bytes narrow (grounds_of P fact s.trace)) steps;
    }

-- A refusal alters no byte.
abbrev pub grounds_refused : Refusal → List ℕ → List ℕ → List ℕ → GroundsOutcome
grounds_refused r facts rules steps = record { answer = Err r; fact_marks = facts; rule_marks = rules; steps = steps }

-- What the operation answers and leaves.
unfoldable pub grounds_outcome : List ℕ → List ℕ → ℕ → List ℕ → List ℕ → List ℕ → GroundsOutcome
grounds_outcome file order fact facts rules steps =
    elim (grounds_no file order fact (length facts) (length rules) (length steps)) [
      | none ↦ grounds_written (program_of file) (run_of file order) fact facts rules steps
      | some r ↦ grounds_refused r facts rules steps
    ]

-- The answer's number, 0 where there is a result, and its count, 0 on a refusal.
abbrev pub grounds_number : Result ℕ Refusal → ℕ
grounds_number r = answer_number r

abbrev pub grounds_count : Result ℕ Refusal → ℕ
grounds_count r = count_in r

-- The answer in numbers, from the first no to the questions: its number, and the count of the steps in the least set that has the fact's own step and goes
-- back.
pub record GroundsNumbers (file order : List ℕ) (fact : ℕ) (no : Option Refusal) (r : Result ℕ Refusal) : Type 0 where
  pub numbered : grounds_number r ≡ no_number no
  pub counted : ◌≡◌ {A = Option Refusal} no none → (K : StepSet) → Kept (program_of file) (run_of file order).trace fact K → grounds_count r ≡ length (select K (run_of file order).trace)
