-- What a run answers and leaves in the buffers lent to it (document 01, "The run").
use Rattle.std.specs.Prelude.{ℕ, ◌≡◌, List, length, Result, Ok, Err}
use Rattle.std.proofs.Math.Option.{Option, none, some}
use Rattle.theory.specs.Rule.{Program, in_force}
use Rattle.theory.specs.Run.{Stand, marks_of_facts, marks_of_rules, stage_count, step_count}
use Rattle.items.specs.declared.refusal.Refusal.{Refusal}
use Rattle.items.specs.Question.{no_number}
use Rattle.items.specs.Answer.{answer_number}
use Rattle.reader.specs.Questions.{program_of}
use Rattle.questions.specs.Questions.{run_no, run_of}
use Rattle.items.specs.Write.{over}
use Rattle.items.specs.Item.{narrow}
use Rattle.closure.specs.Steps.{step_bytes}
use Rattle.run.specs.declared.answer.Ran.{Ran}

-- The answer of a run with so many stages and steps.
abbrev pub done : ℕ → ℕ → Result Ran Refusal
done stages steps = Ok (record { stages = stages; steps = steps })

-- The answer, and the three buffers.
pub record RunOutcome : Type 0 where
  pub answer : Result Ran Refusal
  pub fact_marks : List ℕ
  pub rule_marks : List ℕ
  pub steps : List ℕ

-- What a run that ends at s answers, and writes over the front of each buffer.
unfoldable pub run_written : Program → Stand → List ℕ → List ℕ → List ℕ → RunOutcome
run_written P s facts rules steps =
    record {
      answer = done (stage_count s) (step_count s);
      fact_marks = over (marks_of_facts P s) facts;
      rule_marks = over (marks_of_rules P (in_force P) s) rules;
      steps = over (step_bytes narrow s.trace) steps;
    }

-- What a run answers and leaves. A refusal alters no byte.
unfoldable pub run_outcome : List ℕ → List ℕ → List ℕ → List ℕ → List ℕ → RunOutcome
run_outcome file order facts rules steps =
    elim (run_no file order (length facts) (length rules) (length steps)) [
      | none ↦ run_written (program_of file) (run_of file order) facts rules steps
      | some r ↦ record { answer = Err r; fact_marks = facts; rule_marks = rules; steps = steps }
    ]

-- The answer's number, 0 where there is a result, and its counts, 0 on a refusal.
abbrev pub run_number : Result Ran Refusal → ℕ
run_number r = answer_number r

abbrev pub run_stages : Result Ran Refusal → ℕ
run_stages (Ok c) = c.stages
run_stages (Err r) = 0

abbrev pub run_steps : Result Ran Refusal → ℕ
run_steps (Ok c) = c.steps
run_steps (Err r) = 0

-- The answer in numbers, from the first no to the run's questions: its number, and the counts of the run.
pub record RunNumbers (file order : List ℕ) (no : Option Refusal) (r : Result Ran Refusal) : Type 0 where
  pub numbered : run_number r ≡ no_number no
  pub stages_counted : ◌≡◌ {A = Option Refusal} no none → run_stages r ≡ stage_count (run_of file order)
  pub steps_counted : ◌≡◌ {A = Option Refusal} no none → run_steps r ≡ step_count (run_of file order)
