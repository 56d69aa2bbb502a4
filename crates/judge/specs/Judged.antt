-- What the judge answers (document 01, "Judge and proof check").
use Rattle.std.specs.Prelude.{ℕ, ◌≡◌, not, ◌&&◌, List, ◌↔◌, Result, Ok, Err, Bool}
use Rattle.std.proofs.Math.Option.{none, some}
use Rattle.theory.specs.Rule.{mem, Program, Mask, in_force}
use Rattle.theory.specs.Stable as theory
use Rattle.theory.specs.Check.{is_stable}
use Rattle.items.specs.declared.refusal.Refusal.{Refusal}
use Rattle.items.specs.Question.{no_number}
use Rattle.items.specs.Answer.{answer_number, verdict_in}
use Rattle.reader.specs.Questions.{program_of}
use Rattle.items.specs.Item.{has}
use Rattle.questions.specs.Questions.{judge_no, named_in}

-- The rules in force, less the listed ones.
abbrev pub unlisted : Program → List ℕ → Mask
unlisted P list i = in_force P i && not (mem i (named_in list))

-- Is the set stable for the file less the listed rules?
unfoldable pub judged : List ℕ → List ℕ → List ℕ → Result Bool Refusal
judged file list set =
    elim (judge_no file list set) [
      | none ↦ Ok (is_stable (program_of file) (unlisted (program_of file) list) (has set))
      | some r ↦ Err r
    ]

-- The answer's number, 0 where there is none, and its verdict, 1 where the set is stable.
abbrev pub judged_number : Result Bool Refusal → ℕ
judged_number r = answer_number r

abbrev pub judged_verdict : Result Bool Refusal → ℕ
judged_verdict r = verdict_in r

-- What an answer means: its number is that of the first no; where no question got no, the verdict is stable exactly where the set is stable for
-- the file less the listed rules.
pub record JudgeMeans (file list set : List ℕ) (r : Result Bool Refusal) : Type 0 where
  pub numbered : judged_number r ≡ no_number (judge_no file list set)
  pub stable_exactly : judged_number r ≡ 0 → (judged_verdict r ≡ 1) ↔ theory.Stable (program_of file) (unlisted (program_of file) list) (has set)
