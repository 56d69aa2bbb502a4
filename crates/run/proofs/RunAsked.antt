-- The questions before a run, and what a yes to all of them tells.
use Prim.Native.Nat.{ℕ, ◌*◌, ◌≤◌}
use mathlib.Core.Path.{◌≡◌, ◌∙◌}
use mathlib.Core.List.{List}
use mathlib.Core.Option.{Option, none, some}
use borrow.Author.Tests.{leb-true}
use lib.Dec.{leb}
use Rattle.theory.specs.Rule.{Program, count, exception}
use Rattle.items.specs.declared.refusal.Refusal.{Refusal}
use Rattle.items.specs.Item.{narrow, step_width, max_rules}
use Rattle.items.proofs.FirstNo.{both_yes}
use Rattle.tables.specs.Layout.{program_in}
use Rattle.reader.specs.Questions.{program_of}
use Rattle.reader.specs.Asked.{file_asked}
use Rattle.reader.specs.Scanned.{Tabled}
use Rattle.reader.proofs.Accepted.{all_asked}
use Rattle.std.specs.Prelude.{Ok, Err}
use Rattle.questions.specs.Questions.{named_in, list_questions, order_questions, order_no, buffer_questions, run_questions, run_no, run_of}
use Rattle.questions.specs.Parts.{tabled_no}
use Rattle.questions.specs.Answer.{answer_of}
use Rattle.questions.proofs.OperationAsked.{file_refused, file_accepted, yes_to_list, Passed}
use Rattle.questions.proofs.NamesAsked.{said_yes, said_no}
use Rattle.naming.proofs.FewNamed.{few_named}
use Rattle.run.specs.Outcome.{RunOutcome, run_written}
use Rattle.run.specs.Stands.{MayOrder, MayRun, run_in}

-- An order that gets yes names exception rules alone, no more than there can be.
pub may_order : (P : Program) → count P ≤ max_rules → (order : List ℕ) → ◌≡◌ {A = Option Refusal} (order_no (exception P) (count P) order) none → MayOrder P (named_in order)
unfolding order_questions
may_order P few order e =
    let l = both_yes (list_questions (exception P) order) _ e in
    (yes_to_list (exception P) order l.0, few_named P few order l.0)

module _ (P : Program) (few : count P ≤ max_rules) (order : List ℕ) (facts rules steps : ℕ) where
  -- what a run may rely on where all of them got yes
  pub may_run : Ok tt ≡ answer_of (tabled_no P order facts rules steps) → MayRun P (named_in order) facts rules steps
  unfolding buffer_questions
  may_run e =
      let a = both_yes (order_questions (exception P) (count P) order) _ (said_yes (tabled_no P order facts rules steps) e) in
      let f = all_asked _ (leb P.facts facts) _ a.1 in
      let r = all_asked _ (leb (count P) rules) _ f.1 in
      let s = all_asked _ (leb (step_width narrow * P.facts) steps) _ r.1 in
      record {
        order_fits = may_order P few order a.0;
        facts_fit = leb-true _ _ f.0;
        rules_fit = leb-true _ _ r.0;
        steps_fit = leb-true _ _ s.0;
      }

-- The ways of the questions before a run.
module _ (file order : List ℕ) (facts rules steps : ℕ) where
  pub run-file_no : (r : Refusal) → file_asked file ≡ Err r → run_no file order facts rules steps ≡ some r
  unfolding run_questions
  run-file_no r e = file_refused file _ r e

  module _ {T : List ℕ} (p : Passed file T) where
    same_no : ◌≡◌ {A = Option Refusal} (run_no file order facts rules steps) (tabled_no (program_in T) order facts rules steps)
    unfolding run_questions
    same_no = rw p.tabled.program (file_accepted file _ p.accepted)

    pub run-no : (r : Refusal) → Err r ≡ answer_of (tabled_no (program_in T) order facts rules steps) → run_no file order facts rules steps ≡ some r
    run-no r e = same_no ∙ said_no _ r e

    pub run-yes : Ok tt ≡ answer_of (tabled_no (program_in T) order facts rules steps) → ◌≡◌ {A = Option Refusal} (run_no file order facts rules steps) none
    run-yes e = same_no ∙ said_yes _ e

-- The run of the program in the tables is the run of the file.
pub run-there : {file T : List ℕ} → Tabled file T → (order facts rules steps : List ℕ) → ◌≡◌ {A = RunOutcome} (run_written (program_in T) (run_in T order) facts rules steps) (run_written (program_of file) (run_of file order) facts rules steps)
run-there t order facts rules steps = rw t.program
