-- The run under the order for a set.
use Prim.Native.Nat.{ℕ, ◌≤◌}
use native.Mathlib.Omega.{arith}
use mathlib.Core.Path.{◌≡◌, sym, ap, ap₂, ◌∙◌}
use mathlib.Core.List.{List}
use mathlib.Core.Option.{Option, none}
use lib.ListN.{length, take, drop, length-append}
use lib.Seq.{take-append_seam}
use Rattle.std.specs.Prelude.{Ok}
use Rattle.theory.specs.Rule.{Program, FactSet, in_force, count, exception}
use Rattle.theory.specs.Run.{run}
use Rattle.theory.specs.Stable.{order_for}
use Rattle.theory.proofs.Search.{order-once, order-only}
use Rattle.items.specs.declared.refusal.Refusal.{Refusal}
use Rattle.tables.specs.Layout.{program_in}
use Rattle.tables.proofs.ProgramHeld.{rules-below}
use Rattle.reader.specs.Questions.{program_of}
use Rattle.reader.specs.Scanned.{Tabled}
use Rattle.questions.specs.Questions.{order_questions, order_no, buffer_questions, naming, named_in, run_of}
use Rattle.questions.specs.Parts.{tabled_no}
use Rattle.questions.specs.Answer.{answer_of}
use Rattle.items.proofs.FirstNo.{all_yes}
use Rattle.questions.proofs.Orders.{naming-names, once-yes}
use Rattle.run.specs.declared.answer.Ran.{Ran}
use Rattle.run.specs.Outcome.{RunOutcome, run_written}
use Rattle.run.specs.Stands.{MayRun}
use Rattle.items.specs.Write.{over}
use Rattle.items.specs.Item.{narrow}
use Rattle.run.proofs.RunAsked.{may_run}
use Rattle.search.specs.Outcome.{SearchOutcome, search_written, found_at}
use Rattle.search.proofs.SearchAsked.{AllYesses}

-- The order for a set gets yes to 11 to 14.
pub search-order_yes : (P : Program) (M : FactSet) → ◌≡◌ {A = Option Refusal} (order_no (exception P) (count P) (naming (order_for P (in_force P) M))) none
search-order_yes P M =
    once-yes (exception P) (count P) (order_for P (in_force P) M) (order-once P (in_force P) M) (order-only P (in_force P) M)

-- What is written over the front of a buffer lies inside it.
pub front-inside : (bytes before after : List ℕ) (n : ℕ) → (after ≡ over bytes before) × (n ≡ length bytes) → n ≤ length after
front-inside bytes before after n o =
    omega (arith, ap length o.0, o.1, length-append bytes (drop (length bytes) before))

-- So the run under it may be made, and what it leaves is what the search leaves.
module _ (file facts rules steps order : List ℕ) (y : AllYesses file (length facts) (length rules) (length steps) (length order)) (M : FactSet) where
  tabled_yes : ◌≡◌ {A = Option Refusal} (tabled_no (program_of file) (naming (order_for (program_of file) (in_force (program_of file)) M)) (length facts) (length rules) (length steps)) none
  tabled_yes =
      let P = program_of file in
      all_yes (order_questions (exception P) (count P) (naming (order_for P (in_force P) M))) (buffer_questions narrow P (length facts) (length rules) (length steps)) (search-order_yes P M) y.buffers_fit

  -- the order as it was written; then the counts and the buffers as the run left them
  module _ (order' : List ℕ) (n : ℕ) (o : (order' ≡ over (naming (order_for (program_of file) (in_force (program_of file)) M)) order) × (n ≡ length (naming (order_for (program_of file) (in_force (program_of file)) M)))) where
    front : take n order' ≡ naming (order_for (program_of file) (in_force (program_of file)) M)
    front =
        let row = naming (order_for (program_of file) (in_force (program_of file)) M) in
        ap₂ take o.1 o.0 ∙ take-append_seam row (drop (length row) order)

    pub may_run_to : {T : List ℕ} → Tabled file T → MayRun (program_in T) (named_in (take n order')) (length facts) (length rules) (length steps)
    may_run_to t =
        may_run _ (rules-below t.well_formed) (take n order') (length facts) (length rules) (length steps)
        (ap answer_of (sym tabled_yes)
        ∙ ap₂ (λ (bytes : List ℕ) (P : Program). answer_of (tabled_no P bytes (length facts) (length rules) (length steps))) (sym front) (sym t.program))

    module _ (ran : Ran) (facts' rules' steps' : List ℕ) (e : ◌≡◌ {A = RunOutcome} (record { answer = Ok ran; fact_marks = facts'; rule_marks = rules'; steps = steps' }) (run_written (program_of file) (run_of file (take n order')) facts rules steps)) where
      ended : ◌≡◌ {A = RunOutcome} (record { answer = Ok ran; fact_marks = facts'; rule_marks = rules'; steps = steps' }) (run_written (program_of file) (run (program_of file) (in_force (program_of file)) (order_for (program_of file) (in_force (program_of file)) M)) facts rules steps)
      ended =
          let row = order_for (program_of file) (in_force (program_of file)) M in
          e
          ∙ ap (λ (bytes : List ℕ). run_written (program_of file) (run_of file bytes) facts rules steps) front
          ∙ ap (λ (rs : List ℕ). run_written (program_of file) (run (program_of file) (in_force (program_of file)) rs) facts rules steps) (naming-names row)

      pub found_there : ◌≡◌ {A = SearchOutcome} (record { answer = Ok ran; fact_marks = facts'; rule_marks = rules'; steps = steps'; order = order' }) (found_at (program_of file) M facts rules steps order)
      unfolding run_written search_written
      found_there = λ j.
          record {
            answer = (ended j).answer;
            fact_marks = (ended j).fact_marks;
            rule_marks = (ended j).rule_marks;
            steps = (ended j).steps;
            order = o.0 j;
          }
