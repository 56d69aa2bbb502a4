-- The outcome by what the questions came to.
use Prim.Native.Nat.{ℕ}
use mathlib.Core.Path.{◌≡◌, refl, sym, ap, ◌∙◌}
use mathlib.Core.Bool.{Bool, true, false, cond}
use mathlib.Core.List.{List}
use mathlib.Core.Option.{Option, none, some}
use lib.ListN.{length}
use Rattle.std.specs.Prelude.{Result, Err}
use Rattle.theory.specs.Rule.{in_force}
use Rattle.theory.proofs.Keeping.{kept-is, run-traced}
use Rattle.items.specs.declared.refusal.Refusal.{Refusal}
use Rattle.items.specs.declared.refusal.Refusal.TheVariants.{NotDerived}
use Rattle.items.specs.Question.{no_number}
use Rattle.items.proofs.FirstNo.{first-no, first-yes}
use Rattle.tables.specs.Layout.{program_in}
use Rattle.reader.specs.Questions.{program_of}
use Rattle.reader.specs.Scanned.{Tabled}
use Rattle.questions.specs.Questions.{named_in, run_questions, run_no, grounds_questions, grounds_no, run_of}
use Rattle.run.specs.Stands.{run_in}
use Rattle.keeping.specs.Outcome.{GroundsOutcome, grounds_written, grounds_refused, grounds_outcome, grounds_number, GroundsNumbers}
use Rattle.keeping.specs.Told.{grounds_told}

module _ (file order : List ℕ) (fact : ℕ) (facts rules steps : List ℕ) where
  abbrev asked : Option Refusal
  asked = grounds_no file order fact (length facts) (length rules) (length steps)

  abbrev outcome : GroundsOutcome
  outcome = grounds_outcome file order fact facts rules steps

  pub refused-there : (r : Refusal) → asked ≡ some r → grounds_refused r facts rules steps ≡ outcome
  unfolding grounds_outcome
  refused-there r e = sym (rw (e, grounds_outcome))

  -- a no to the run's questions is one here
  pub run-refused : (r : Refusal) → run_no file order (length facts) (length rules) (length steps) ≡ some r → grounds_refused r facts rules steps ≡ outcome
  unfolding grounds_questions
  run-refused r e = refused-there r (first-no (run_questions file order (length facts) (length rules) (length steps)) _ r e)

  pub written_there : ◌≡◌ {A = Option Refusal} asked none → grounds_written (program_of file) (run_of file order) fact facts rules steps ≡ outcome
  unfolding grounds_outcome
  written_there e = sym (rw (e, grounds_outcome))

  -- behind them 50 is asked
  pub last-asked : ◌≡◌ {A = Option Refusal} (run_no file order (length facts) (length rules) (length steps)) none → asked ≡ cond ((run_of file order).derived fact) none (some NotDerived)
  unfolding grounds_questions
  last-asked e = first-yes (run_questions file order (length facts) (length rules) (length steps)) _ e

  told-there : ◌≡◌ {A = Option Refusal} (run_no file order (length facts) (length rules) (length steps)) none → grounds_told (program_of file) (run_of file order) fact facts rules steps ≡ outcome
  unfolding grounds_told
  told-there e = go ((run_of file order).derived fact) refl
    where
      go : (b : Bool) → (run_of file order).derived fact ≡ b → cond ((run_of file order).derived fact) (grounds_written (program_of file) (run_of file order) fact facts rules steps) (grounds_refused NotDerived facts rules steps) ≡ outcome
      go true d = rw d (written_there (last-asked e ∙ rw d))
      go false d = rw d (refused-there NotDerived (last-asked e ∙ rw d))

  grounds-numbers : GroundsNumbers file order fact asked outcome.answer
  unfolding grounds_outcome grounds_written
  grounds-numbers =
      record {
        numbered = go asked refl;
        counted = λ h K k. rw (h, grounds_outcome) (ap length (sym (kept-is (program_of file) (run_of file order).trace fact K (run-traced (program_of file) (in_force (program_of file)) (named_in order)) k)));
      }
    where
      go : (o : Option Refusal) → asked ≡ o → grounds_number outcome.answer ≡ no_number asked
      go none e = rw (e, grounds_outcome)
      go (some r) e = rw (e, grounds_outcome)

  -- an outcome that is the one defined, with its answer in numbers
  answered : (o : GroundsOutcome) → o ≡ outcome → (o ≡ outcome) × GroundsNumbers file order fact asked o.answer
  answered o e = (e, rw e grounds-numbers)

  pub answered_no : (a : Result ℕ Refusal) (r : Refusal) → a ≡ Err r → run_no file order (length facts) (length rules) (length steps) ≡ some r → (◌≡◌ {A = GroundsOutcome} (record { answer = a; fact_marks = facts; rule_marks = rules; steps = steps }) outcome) × GroundsNumbers file order fact asked a
  answered_no a r p e = answered _ (rw p (run-refused r e))

  -- what was told of the program in the tables
  pub answered_told : {T : List ℕ} (o : GroundsOutcome) → o ≡ grounds_told (program_in T) (run_in T order) fact facts rules steps → Tabled file T → ◌≡◌ {A = Option Refusal} (run_no file order (length facts) (length rules) (length steps)) none → (o ≡ outcome) × GroundsNumbers file order fact asked o.answer
  answered_told {T} o e t n = answered o (e ∙ same ∙ told-there n)
    where
      same : grounds_told (program_in T) (run_in T order) fact facts rules steps ≡ grounds_told (program_of file) (run_of file order) fact facts rules steps
      same = rw t.program
