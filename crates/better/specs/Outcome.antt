-- Which of two orders is the better, and what is handed back (document 02, wish 7).
use Rattle.std.specs.Prelude.{ℕ, ◌≤◌, ◌<◌, ◌≡◌, cond, List, [], ◌↔◌, Result, Ok, Err}
use Rattle.std.proofs.Math.Option.{none, some}
use Rattle.std.specs.Borrow.{Bor}
use Rattle.theory.specs.Rule.{in_force}
use Rattle.theory.specs.Better.{aside_count, second_preferred}
use Rattle.items.specs.declared.refusal.Refusal.{Refusal}
use Rattle.items.specs.Question.{no_number}
use Rattle.items.specs.Answer.{answer_number}
use Rattle.reader.specs.Questions.{program_of}
use Rattle.questions.specs.Questions.{named_in, better_no}
use Rattle.better.specs.declared.answer.Choice.{Choice}
use Rattle.better.specs.declared.answer.Choice.TheVariants.{First, Second}

-- How many rules the run of a file sets aside under an order.
abbrev pub aside_of : List ℕ → List ℕ → ℕ
aside_of file order = aside_count (program_of file) (in_force (program_of file)) (named_in order)

-- Which of two orders that set aside so many rules.
abbrev pub preferred : ℕ → ℕ → Choice
preferred first second = cond (second_preferred first second) Second First

-- What the choice answers.
unfoldable pub choice_of : List ℕ → List ℕ → List ℕ → Result Choice Refusal
choice_of file first second =
    elim (better_no file first second) [
      | none ↦ Ok (preferred (aside_of file first) (aside_of file second))
      | some r ↦ Err r
    ]

-- The answer's number, 0 where there is a result, and which of the two it is, 1 or 2, 0 on a refusal.
abbrev pub choice_number : Result Choice Refusal → ℕ
choice_number r = answer_number r

abbrev pub which : Result Choice Refusal → ℕ
which (Ok First) = 1
which (Ok Second) = 2
which (Err r) = 0

-- The bytes that are handed back: those of the order chosen, none on a refusal.
abbrev pub handed : Result Choice Refusal → List ℕ → List ℕ → List ℕ
handed (Ok First) first second = first
handed (Ok Second) first second = second
handed (Err r) first second = []

abbrev pub better_of : List ℕ → List ℕ → List ℕ → List ℕ
better_of file first second = handed (choice_of file first second) first second

-- What is handed back of two slices that are lent: the slice of the order chosen, as it was lent; on a refusal a part of the first, which begins where the first does
-- and has no byte.
pub record HandedBack (choice : Result Choice Refusal) (first second back : Bor (List ℕ)) : Type 0 where
  pub first_itself : choice ≡ Ok First → back ≡ first
  pub second_itself : choice ≡ Ok Second → back ≡ second
  pub part_of_first : (r : Refusal) → choice ≡ Err r → back.ref_ptr ≡ first.ref_ptr
  pub empty : (r : Refusal) → choice ≡ Err r → back.now ≡ []

-- What an answer means: its number is that of the first no; else it is the second order exactly where that sets aside fewer rules, and the first where it sets
-- aside no more.
pub record ChoiceMeans (file first second : List ℕ) (r : Result Choice Refusal) : Type 0 where
  pub numbered : choice_number r ≡ no_number (better_no file first second)
  pub first_chosen : better_no file first second ≡ none → (which r ≡ 1) ↔ (aside_of file first ≤ aside_of file second)
  pub second_chosen : better_no file first second ≡ none → (which r ≡ 2) ↔ (aside_of file second < aside_of file first)
