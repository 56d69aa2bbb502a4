-- The outcome of a run, by what its questions came to.
use Prim.Native.Nat.{ℕ}
use mathlib.Core.Path.{◌≡◌, refl, sym}
use mathlib.Core.List.{List}
use mathlib.Core.Option.{Option, none, some}
use lib.ListN.{length}
use Rattle.theory.specs.Rule.{Program, in_force}
use Rattle.theory.specs.Run.{Stand, marks_of_facts, marks_of_rules, stage_count, step_count}
use Rattle.items.specs.declared.refusal.Refusal.{Refusal}
use Rattle.items.specs.Question.{no_number}
use Rattle.reader.specs.Questions.{program_of}
use Rattle.closure.specs.Steps.{step_bytes}
use Rattle.std.specs.Prelude.{Result, Err}
use Rattle.run.specs.declared.answer.Ran.{Ran}
use Rattle.questions.specs.Questions.{run_no, run_of}
use Rattle.run.specs.Outcome.{RunOutcome, done, run_written, run_outcome, run_number, RunNumbers}
use Rattle.items.specs.Write.{over}
use Rattle.items.specs.Item.{narrow}

module _ (file order facts rules steps : List ℕ) where
  pub outcome-refused : (r : Refusal) → run_no file order (length facts) (length rules) (length steps) ≡ some r → ◌≡◌ {A = RunOutcome} (record { answer = Err r; fact_marks = facts; rule_marks = rules; steps = steps }) (run_outcome file order facts rules steps)
  unfolding run_outcome
  outcome-refused r e = sym (rw (e, run_outcome))

  pub outcome-written : ◌≡◌ {A = Option Refusal} (run_no file order (length facts) (length rules) (length steps)) none → ◌≡◌ {A = RunOutcome} (run_written (program_of file) (run_of file order) facts rules steps) (run_outcome file order facts rules steps)
  unfolding run_outcome
  outcome-written e = sym (rw (e, run_outcome))

  run-numbers : RunNumbers file order (run_no file order (length facts) (length rules) (length steps)) (run_outcome file order facts rules steps).answer
  unfolding run_outcome run_written
  run-numbers =
      record {
        numbered = go (run_no file order (length facts) (length rules) (length steps)) refl;
        stages_counted = λ h. rw (h, run_outcome);
        steps_counted = λ h. rw (h, run_outcome);
      }
    where
      go : (o : Option Refusal) → run_no file order (length facts) (length rules) (length steps) ≡ o → run_number (run_outcome file order facts rules steps).answer ≡ no_number (run_no file order (length facts) (length rules) (length steps))
      go none e = rw (e, run_outcome)
      go (some r) e = rw (e, run_outcome)

  -- an outcome that is the one defined, with its answer in numbers
  pub run-answered : (o : RunOutcome) → o ≡ run_outcome file order facts rules steps → (o ≡ run_outcome file order facts rules steps) × RunNumbers file order (run_no file order (length facts) (length rules) (length steps)) o.answer
  run-answered o e = (e, rw e run-numbers)

  -- a refusal that is passed on
  pub refused_answered : (a : Result Ran Refusal) (r : Refusal) → a ≡ Err r → run_no file order (length facts) (length rules) (length steps) ≡ some r → (◌≡◌ {A = RunOutcome} (record { answer = a; fact_marks = facts; rule_marks = rules; steps = steps }) (run_outcome file order facts rules steps)) × RunNumbers file order (run_no file order (length facts) (length rules) (length steps)) a
  refused_answered a r p e = run-answered _ (rw p (outcome-refused r e))

-- What was written where the run ended at s.
pub written_there : (P : Program) (s : Stand) (facts rules row facts' rules' row' : List ℕ) (stages steps : ℕ) → stages ≡ stage_count s → steps ≡ step_count s → facts' ≡ over (marks_of_facts P s) facts → rules' ≡ over (marks_of_rules P (in_force P) s) rules → row' ≡ over (step_bytes narrow s.trace) row → ◌≡◌ {A = RunOutcome} (record { answer = done stages steps; fact_marks = facts'; rule_marks = rules'; steps = row' }) (run_written P s facts rules row)
unfolding run_written
written_there P s facts rules row facts' rules' row' stages steps a b c d e = rw (a, b, c, d, e)
