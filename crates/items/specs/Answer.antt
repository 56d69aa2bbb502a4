-- An answer of an operation: its result, or the refusal that its first no gives (document 01, "Questions before a result").
use Rattle.std.specs.Prelude.{ℕ, Bool, cond, Result, Ok, Err}
use Rattle.items.specs.declared.refusal.Refusal.{Refusal}
use Rattle.items.specs.Question.{number}

-- The answer's number, 0 where it is a result.
abbrev pub answer_number : {A : Type 0} → Result A Refusal → ℕ
answer_number (Ok a) = 0
answer_number (Err r) = number r

-- The verdict of an answer that says yes or no: 1 for yes, 0 for no and on a refusal.
abbrev pub verdict_in : Result Bool Refusal → ℕ
verdict_in (Ok b) = cond b 1 0
verdict_in (Err r) = 0

-- The count that is answered, 0 on a refusal.
abbrev pub count_in : Result ℕ Refusal → ℕ
count_in (Ok n) = n
count_in (Err r) = 0
