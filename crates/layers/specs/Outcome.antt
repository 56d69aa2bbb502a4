-- What asking for the order by rank answers and leaves in the buffer lent to it (document 02, wish 4).
use Rattle.std.specs.Prelude.{ℕ, ◌*◌, ◌≡◌, List, length, take, Result, Ok, Err}
use Rattle.std.proofs.Math.Option.{Option, none, some}
use Rattle.theory.specs.Rule.{in_force}
use Rattle.theory.specs.Layers.{LeastRanks, Cycle, ByRank, layered_order}
use Rattle.items.specs.declared.refusal.Refusal.{Refusal}
use Rattle.items.specs.Question.{no_number}
use Rattle.items.specs.Answer.{answer_number, count_in}
use Rattle.items.specs.Item.{name_width}
use Rattle.items.specs.Write.{over}
use Rattle.reader.specs.Questions.{program_of}
use Rattle.questions.specs.Questions.{named_in, naming, layered_no}

-- The answer, and the buffer.
pub record LayeredOutcome : Type 0 where
  pub answer : Result ℕ Refusal
  pub order : List ℕ

-- The order by rank is written over the front of the buffer, and its rules are counted.
unfoldable pub ordered_by : List ℕ → List ℕ → LayeredOutcome
ordered_by row order = record { answer = Ok (length row); order = over (naming row) order }

-- A refusal alters no byte.
abbrev pub refused_with : Refusal → List ℕ → LayeredOutcome
refused_with r order = record { answer = Err r; order = order }

-- What the operation answers and leaves.
unfoldable pub layered_outcome : List ℕ → List ℕ → LayeredOutcome
layered_outcome file order =
    elim (layered_no file (length order)) [
      | none ↦ ordered_by (layered_order (program_of file) (in_force (program_of file))) order
      | some r ↦ refused_with r order
    ]

-- The answer's number, 0 where there is a result, and its count, 0 on a refusal.
abbrev pub layered_number : Result ℕ Refusal → ℕ
layered_number r = answer_number r

abbrev pub layered_count : Result ℕ Refusal → ℕ
layered_count r = count_in r

-- The rules that the order names, as many as are counted.
abbrev pub named_rules : LayeredOutcome → List ℕ
named_rules o = named_in (take (name_width * layered_count o.answer) o.order)

-- What an answer means: its number is that of the first no; a result names rules by the least rank of their conclusions, then by number, and those that are
-- withheld come last, ascending (document 02, wish 6); and 52 says that a cycle of dependencies goes through a constraint.
pub record LayeredMeans (file : List ℕ) (no : Option Refusal) (o : LayeredOutcome) : Type 0 where
  pub numbered : layered_number o.answer ≡ no_number no
  pub by_rank : layered_number o.answer ≡ 0 → (rank : ℕ → ℕ) × (LeastRanks (program_of file) (in_force (program_of file)) rank × ByRank (program_of file) (in_force (program_of file)) rank (named_rules o))
  pub cyclic : layered_number o.answer ≡ 52 → Cycle (program_of file) (in_force (program_of file))
