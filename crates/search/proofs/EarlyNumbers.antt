-- No question before the last has number 41, so 41 tells of the last one alone.
use Prim.Native.Nat.{ℕ, ◌<◌}
use native.Mathlib.Omega.{arith}
use mathlib.Core.Path.{◌≡◌}
use mathlib.Core.List.{List}
use mathlib.Core.Option.{some}
use Rattle.items.specs.declared.refusal.Refusal.{Refusal}
use Rattle.items.specs.Question as refusal
use Rattle.items.specs.Item.{narrow}
use Rattle.reader.specs.Questions.{program_of, file_questions}
use Rattle.reader.proofs.FileRefusals.{each_first, each_append, FileRefusals, each-file}
use Rattle.questions.specs.Questions.{buffer_questions, limit_questions, early_questions}
use Rattle.questions.specs.Parts.{early_no}

-- a number, and not that of the last question
abbrev pub Early : Refusal → Type 0
Early r = (0 < refusal.number r) × (refusal.number r ≡ 41 → ⊥)

file_early : FileRefusals Early
file_early =
    record {
      one = (omega arith, λ e. omega arith);
      two = (omega arith, λ e. omega arith);
      three = (omega arith, λ e. omega arith);
      four = (omega arith, λ e. omega arith);
      five = (omega arith, λ e. omega arith);
      six = (omega arith, λ e. omega arith);
      seven = (omega arith, λ e. omega arith);
      eight = (omega arith, λ e. omega arith);
      nine = (omega arith, λ e. omega arith);
      ten = (omega arith, λ e. omega arith);
      fifty_one = (omega arith, λ e. omega arith);
      fifty_six = (omega arith, λ e. omega arith);
    }

pub early_numbers : (file : List ℕ) (facts rules steps order : ℕ) (r : Refusal) → early_no file facts rules steps order ≡ some r → Early r
unfolding early_questions buffer_questions limit_questions
early_numbers file facts rules steps order r e =
    each_first Early (early_questions file facts rules steps order) r
    (each_append Early (file_questions file) _ (each-file Early file_early file)
    (each_append Early (buffer_questions narrow (program_of file) facts rules steps) (limit_questions (program_of file) order)
    ((omega arith, λ e. omega arith), ((omega arith, λ e. omega arith), ((omega arith, λ e. omega arith), tt)))
    ((omega arith, λ e. omega arith), ((omega arith, λ e. omega arith), tt))))
    e
