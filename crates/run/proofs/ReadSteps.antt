-- The steps that a run writes stand in front of its buffer, and so does the row up to a fact's own step.
use Prim.Native.Nat.{ℕ, ◌*◌}
use mathlib.Core.Path.{◌≡◌, refl, ap, ◌∙◌}
use mathlib.Core.Bool.{Bool, true, false, cond}
use mathlib.Core.List.{List, [], ◌∷◌, ◌++◌, append_assoc}
use lib.ListN.{length, take, drop}
use lib.Seq.{take_at}
use lib.Dec.{eqb}
use Rattle.theory.specs.Rule.{Step as Taken}
use Rattle.theory.specs.Stable.{row_to}
use Rattle.items.specs.Item.{narrow, step_width}
use Rattle.cursors.specs.Cursor.{items_at, steps_start}
use Rattle.cursors.proofs.ReadBack.{step-item_first}
use Rattle.closure.specs.Steps.{step_bytes}
use Rattle.items.specs.Write.{over}
use Rattle.questions.specs.Questions.{whole, steps_of, row_of}
use Rattle.results.proofs.StepsWritten.{step-bytes_append, step-bytes_length}

pub steps_front : (row : List Taken) (room : List ℕ) → take (step_width narrow * length row) (over (step_bytes narrow row) room) ≡ step_bytes narrow row
steps_front row room =
    take_at (step_bytes narrow row) (drop (length (step_bytes narrow row)) room) (step_width narrow * length row) (step-bytes_length row)

-- the row up to a fact's own step stands in front
rest-after : (f : ℕ) (row : List Taken) → (rest : List Taken) × (row ≡ row_to f row ++ rest)
rest-after f [] = ([], refl)
rest-after f (s ∷ row) = go (eqb f s.fact) (rest-after f row)
  where
    go : (b : Bool) → (rest : List Taken) × (row ≡ row_to f row ++ rest) → (rest : List Taken) × (s ∷ row ≡ s ∷ (cond b [] (row_to f row) ++ rest))
    go true t = (row, refl)
    go false t = (t.0, ap (λ (r : List Taken). s ∷ r) t.1)

pub row-front : (f : ℕ) (row : List Taken) (room : List ℕ) → take (step_width narrow * length (row_to f row)) (over (step_bytes narrow row) room) ≡ step_bytes narrow (row_to f row)
row-front f row room =
    ap (λ (bs : List ℕ). take (step_width narrow * length (row_to f row)) (bs ++ drop (length (step_bytes narrow row)) room)) (ap (step_bytes narrow) t.1 ∙ step-bytes_append (row_to f row) t.0)
    ∙ (ap (take (step_width narrow * length (row_to f row))) (append_assoc (step_bytes narrow (row_to f row)) (step_bytes narrow t.0) (drop (length (step_bytes narrow row)) room))
    ∙ take_at (step_bytes narrow (row_to f row)) (step_bytes narrow t.0 ++ drop (length (step_bytes narrow row)) room) (step_width narrow * length (row_to f row)) (step-bytes_length (row_to f row)))
  where
    t : (rest : List Taken) × (row ≡ row_to f row ++ rest)
    t = rest-after f row

-- The steps that were written are read, and are whole items.
pub steps-read : (row : List Taken) → row_of (step_bytes narrow row) ≡ row
unfolding items_at
steps-read [] = refl
steps-read (s ∷ row) =
    ap steps_of (step-item_first s.fact s.by (step_bytes narrow row)) ∙ ap (λ (r : List Taken). s ∷ r) (steps-read row)

pub steps-whole : (row : List Taken) → whole (items_at (step_bytes narrow row) steps_start) ≡ true
unfolding items_at
steps-whole [] = refl
steps-whole (s ∷ row) = ap whole (step-item_first s.fact s.by (step_bytes narrow row)) ∙ steps-whole row
