-- What the proof check answers (document 01, "Judge and proof check").
use Rattle.std.specs.Prelude.{ℕ, ◌≡◌, List, ◌↔◌, Result, Ok, Err, Bool}
use Rattle.std.proofs.Math.Option.{none, some}
use Rattle.theory.specs.Rule.{in_force}
use Rattle.theory.specs.Stable.{Proof, Admits}
use Rattle.theory.specs.Check.{is_proof}
use Rattle.items.specs.declared.refusal.Refusal.{Refusal}
use Rattle.items.specs.Question.{no_number}
use Rattle.items.specs.Answer.{answer_number, verdict_in}
use Rattle.reader.specs.Questions.{program_of}
use Rattle.items.specs.Item.{has}
use Rattle.questions.specs.Questions.{check_no, row_of}

-- Is the row a proof of the asked fact that the set admits?
unfoldable pub checked : List ℕ → List ℕ → ℕ → List ℕ → Result Bool Refusal
checked file set fact row =
    elim (check_no file set fact row) [
      | none ↦ Ok (is_proof (program_of file) (in_force (program_of file)) (has set) (row_of row) fact)
      | some r ↦ Err r
    ]

-- The answer's number, 0 where there is none, and its verdict, 1 for yes.
abbrev pub checked_number : Result Bool Refusal → ℕ
checked_number r = answer_number r

abbrev pub checked_verdict : Result Bool Refusal → ℕ
checked_verdict r = verdict_in r

-- What an answer means: its number is that of the first no; where no question got no, the verdict is yes exactly where the row is a proof of the
-- asked fact that the set admits.
pub record CheckMeans (file set : List ℕ) (fact : ℕ) (row : List ℕ) (r : Result Bool Refusal) : Type 0 where
  pub numbered : checked_number r ≡ no_number (check_no file set fact row)
  pub yes_exactly : checked_number r ≡ 0 → (checked_verdict r ≡ 1) ↔ (Proof (program_of file) (in_force (program_of file)) (row_of row) fact × Admits (program_of file) (has set) (row_of row))
