-- The questions on two orders, and what a yes to all of them tells.
use Prim.Native.Nat.{ℕ}
use mathlib.Core.Path.{◌≡◌, sym, ap, ◌∙◌}
use mathlib.Core.List.{List}
use mathlib.Core.Option.{Option, none}
use Rattle.theory.specs.Rule.{Program, count, exception}
use Rattle.items.specs.declared.refusal.Refusal.{Refusal}
use Rattle.items.proofs.FirstNo.{both_yes, all_yes}
use Rattle.tables.specs.Layout.{program_in}
use Rattle.tables.proofs.ProgramHeld.{rules-below}
use Rattle.reader.specs.Questions.{program_of, file_questions, file_no}
use Rattle.reader.specs.Asked.{file_asked}
use Rattle.reader.specs.Scanned.{Tabled}
use Rattle.std.specs.Prelude.{Result, Ok, Err, ⊤}
use Rattle.questions.specs.Answer.{answer_of}
use Rattle.questions.specs.Questions.{named_in, order_questions, order_no, both_questions, better_questions, better_no}
use Rattle.questions.specs.Parts.{both_no}
use Rattle.questions.proofs.OperationAsked.{Passed, file_refused, file_accepted, order-no, order-yes}
use Rattle.run.specs.Stands.{MayOrder}
use Rattle.run.proofs.RunAsked.{may_order}

module _ (file first second : List ℕ) where
  -- The answer to all, by those to the file and to each order.
  pub refused-by_file : (r : Refusal) → file_asked file ≡ Err r → Err r ≡ answer_of (better_no file first second)
  unfolding better_questions
  refused-by_file r e = sym (ap answer_of (file_refused file _ r e))

  module _ {T : List ℕ} (p : Passed file T) where
    both_left : ◌≡◌ {A = Option Refusal} (both_no (program_in T) first second) (better_no file first second)
    unfolding better_questions
    both_left = sym (rw p.tabled.program (file_accepted file _ p.accepted))

    pub refused-by_first : (r : Refusal) → Err r ≡ answer_of (order_no (exception (program_in T)) (count (program_in T)) first) → Err r ≡ answer_of (better_no file first second)
    unfolding both_questions
    refused-by_first r e = order-no (program_in T) first _ r e ∙ ap answer_of both_left

    pub told-by_second : Ok tt ≡ answer_of (order_no (exception (program_in T)) (count (program_in T)) first) → (answer : Result ⊤ Refusal) → answer ≡ answer_of (order_no (exception (program_in T)) (count (program_in T)) second) → answer ≡ answer_of (better_no file first second)
    unfolding both_questions
    told-by_second e answer q = order-yes (program_in T) first _ e answer q ∙ ap answer_of both_left

  -- Every question gets yes exactly where the file's do and those of both orders.
  pub record BothRight : Type 0 where
    pub accepted : file_no file ≡ none
    pub first_right : order_no (exception (program_of file)) (count (program_of file)) first ≡ none
    pub second_right : order_no (exception (program_of file)) (count (program_of file)) second ≡ none

  pub both_right : ◌≡◌ {A = Option Refusal} (better_no file first second) none → BothRight
  unfolding better_questions both_questions
  both_right e =
      let f = both_yes (file_questions file) _ e in
      let o = both_yes (order_questions (exception (program_of file)) (count (program_of file)) first) _ f.1 in
      record { accepted = f.0; first_right = o.0; second_right = o.1 }

  pub right_both : BothRight → ◌≡◌ {A = Option Refusal} (better_no file first second) none
  unfolding better_questions both_questions
  right_both b =
      all_yes (file_questions file) _ b.accepted
      (all_yes (order_questions (exception (program_of file)) (count (program_of file)) first) _ b.first_right b.second_right)

  -- Then both name exception rules alone, no more than there can be.
  pub both_may : {T : List ℕ} → Tabled file T → BothRight → MayOrder (program_in T) (named_in first) × MayOrder (program_in T) (named_in second)
  both_may {T} t b = (may first b.first_right, may second b.second_right)
    where
      may : (order : List ℕ) → ◌≡◌ {A = Option Refusal} (order_no (exception (program_of file)) (count (program_of file)) order) none → MayOrder (program_in T) (named_in order)
      may order e = may_order (program_in T) (rules-below t.well_formed) order (ap (λ (P : Program). order_no (exception P) (count P) order) t.program ∙ e)
