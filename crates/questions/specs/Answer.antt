-- An answer and its number.
use Rattle.std.specs.Prelude.{◌≡◌, List, Result, Ok, Err, ⊤}
use Rattle.std.proofs.Math.Option.{Option, none, some}
use Rattle.items.specs.declared.refusal.Refusal.{Refusal}
use Rattle.items.specs.Answer.{answer_number}
use Rattle.items.specs.Question.{Question, first_no, no_number}

-- The answer for the first no, where there is one.
abbrev pub answer_of : Option Refusal → Result ⊤ Refusal
answer_of none = Ok tt
answer_of (some r) = Err r

-- An answer in numbers: the number of the first no.
pub record AnswerNumbers (qs : List Question) (r : Result ⊤ Refusal) : Type 0 where
  pub numbered : answer_number r ≡ no_number (first_no qs)
