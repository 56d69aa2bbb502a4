-- Internal: what is answered and left once the file is accepted.
use Rattle.std.specs.Prelude.{ℕ, List, [], ◌∷◌, length}
use Rattle.std.proofs.Math.Option.{Option, none, some}
use Rattle.theory.specs.Rule.{Program, in_force}
use Rattle.theory.specs.Layers.{layered_order}
use Rattle.items.specs.declared.refusal.Refusal.{Refusal}
use Rattle.items.specs.Question.{first_no}
use Rattle.questions.specs.Questions.{order_room_question, layered_question}
use Rattle.layers.specs.Outcome.{LayeredOutcome, ordered_by, refused_with}

-- the first no on the buffer and on the program
abbrev pub later_no : Program → ℕ → Option Refusal
later_no P order = first_no (order_room_question P order ∷ layered_question P ∷ [])

unfoldable pub layered_of : Program → List ℕ → LayeredOutcome
layered_of P order =
    elim (later_no P (length order)) [
      | none ↦ ordered_by (layered_order P (in_force P)) order
      | some r ↦ refused_with r order
    ]
