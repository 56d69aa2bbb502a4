-- Internal: what the judge answers once the file is accepted.
use Rattle.std.specs.Prelude.{List, ◌++◌, ℕ, Result, Ok, Err, Bool}
use Rattle.std.proofs.Math.Option.{Option, none, some}
use Rattle.theory.specs.Rule.{Program, exception}
use Rattle.theory.specs.Check.{is_stable}
use Rattle.items.specs.declared.refusal.Refusal.{Refusal}
use Rattle.items.specs.Question.{first_no}
use Rattle.items.specs.Item.{has}
use Rattle.questions.specs.Questions.{list_questions, set_questions}
use Rattle.judge.specs.Judged.{unlisted}

-- the first no on the list and on the set
abbrev pub later_no : Program → List ℕ → List ℕ → Option Refusal
later_no P list set = first_no (list_questions (exception P) list ++ set_questions P.facts set)

unfoldable pub judged_of : Program → List ℕ → List ℕ → Result Bool Refusal
judged_of P list set =
    elim (later_no P list set) [
      | none ↦ Ok (is_stable P (unlisted P list) (has set))
      | some r ↦ Err r
    ]
