-- The questions before the proof check, and the answer after them.
use Prim.Native.Nat.{ℕ, ◌<◌}
use mathlib.Core.Path.{◌≡◌, sym, ap, ◌∙◌}
use mathlib.Core.Bool.{Bool}
use mathlib.Core.List.{List, ◌++◌}
use mathlib.Core.Option.{Option, none, some}
use borrow.Author.Tests.{ltb-true}
use lib.Dec.{ltb}
use Rattle.theory.specs.Rule.{in_force}
use Rattle.theory.specs.Check.{is_proof}
use Rattle.items.specs.declared.refusal.Refusal.{Refusal}
use Rattle.reader.specs.Questions.{program_of, file_no}
use Rattle.items.specs.Question.{first_no}
use Rattle.reader.specs.Asked.{file_asked}
use Rattle.items.proofs.FirstNo.{first-no, first-yes}
use Rattle.reader.proofs.Accepted.{all_asked}
use Rattle.items.specs.Item.{has}
use Rattle.questions.specs.Questions.{row_of, set_questions, row_questions, check_questions, check_no}
use Rattle.questions.specs.Parts.{set_no, row_no}
use Rattle.questions.proofs.OperationAsked.{file_refused, file_accepted}
use Rattle.std.specs.Prelude.{Ok, Err}
use Rattle.proofcheck.specs.Checked.{checked}

pub asked-below : (n fact : ℕ) (row : List ℕ) → ◌≡◌ {A = Option Refusal} (row_no n fact row) none → fact < n
unfolding row_questions
asked-below n fact row e = ltb-true fact n (all_asked _ (ltb fact n) _ e).0

module _ (file set : List ℕ) (fact : ℕ) (row : List ℕ) where
  a_no : (r : Refusal) → check_no file set fact row ≡ some r → Err r ≡ checked file set fact row
  unfolding checked
  a_no r e = sym (rw (e, checked))

  pub check_file_no : (r : Refusal) → file_asked file ≡ Err r → Err r ≡ checked file set fact row
  unfolding check_questions
  check_file_no r e = a_no r (file_refused file _ r e)

  -- of an accepted file with n facts
  module _ (y : ◌≡◌ {A = Option Refusal} (file_no file) none) (n : ℕ) (c : n ≡ (program_of file).facts) where
    asks : check_no file set fact row ≡ first_no (set_questions n set ++ row_questions n fact row)
    unfolding check_questions
    asks = file_accepted file _ y ∙ ap (λ (m : ℕ). first_no (set_questions m set ++ row_questions m fact row)) (sym c)

    pub check_set_no : (r : Refusal) → set_no n set ≡ some r → Err r ≡ checked file set fact row
    check_set_no r s = a_no r (asks ∙ first-no (set_questions n set) (row_questions n fact row) r s)

    module _ (s : ◌≡◌ {A = Option Refusal} (set_no n set) none) where
      left : check_no file set fact row ≡ row_no n fact row
      left = asks ∙ first-yes (set_questions n set) (row_questions n fact row) s

      pub check_row_no : (r : Refusal) → row_no n fact row ≡ some r → Err r ≡ checked file set fact row
      check_row_no r q = a_no r (left ∙ q)

      pub all-asked_yes : ◌≡◌ {A = Option Refusal} (row_no n fact row) none → (b : Bool) → b ≡ is_proof (program_of file) (in_force (program_of file)) (has set) (row_of row) fact → Ok b ≡ checked file set fact row
      unfolding checked
      all-asked_yes q b e =
          let yes_all : ◌≡◌ {A = Option Refusal} (check_no file set fact row) none = left ∙ q in
          rw (yes_all, checked) (ap (λ (x : Bool). Ok x) e)
