-- A line written for each step of a row, item by item.
use Prim.Native.Nat.{ℕ}
use mathlib.Core.Path.{◌≡◌, refl, ap}
use mathlib.Core.List.{List, ◌++◌}
use Rattle.items.specs.declared.item.FactId.{FactId}
use Rattle.items.specs.declared.item.RuleId.{RuleId}
use Rattle.items.specs.declared.item.Item.{Item}
use Rattle.items.specs.declared.item.Item.TheVariants.{Step}
use Rattle.cursors.specs.declared.cursor.Cursor.{Cursor}
use Rattle.cursors.specs.declared.cursor.Read.{Read}
use Rattle.cursors.specs.declared.cursor.Read.TheVariants.{Found}
use Rattle.cursors.specs.Cursor.{next_at}
use Rattle.cursors.proofs.NoItemRead.{NotFound, nothing_read}
use Rattle.questions.proofs.Rows.{steps_from, NotStep, other_item, step-read}
use Rattle.questions.specs.Questions.{each, step_of, steps_of, row_of}
use Rattle.panel_lines.specs.Text.{step_line}
use Rattle.questions.specs.Put.{Fits, Put}
use Rattle.questions.proofs.BytesPut.{Putting, ended, nothing_put, next_fits, one_put}

-- the lines of the steps from a cursor on
abbrev to_come : List ℕ → Cursor → List ℕ
to_come row c = each step_line (steps_from row c)

-- The steps before the cursor are written.
abbrev pub Stepping : List ℕ → ℕ → List ℕ → Cursor → ℕ → List ℕ → Type 0
Stepping row from before c at now = Putting (each step_line (row_of row)) from before (to_come row c) at now

module _ (row : List ℕ) (from : ℕ) (before : List ℕ) (c : Cursor) (at : ℕ) (now : List ℕ) (w : Stepping row from before c at now) where
  pub all-put : (r : Read) → next_at row c ≡ r → NotFound r → Put (each step_line (row_of row)) from before at now
  all-put r e k = ended w (ap (each step_line) (nothing_read steps_of (λ fault. refl) row c r e k))

  module _ (d : Cursor) (i : Item) (e : next_at row c ≡ Found i d) where
    pub other_passed : NotStep i → Stepping row from before d at now
    other_passed k = nothing_put w (to_come row d) (ap (each step_line) (other_item row c d i e k))

    module _ (f : FactId) (r : RuleId) (q : i ≡ Step f r) where
      split : to_come row c ≡ step_line (step_of f r) ++ to_come row d
      split = ap (each step_line) (step-read row c d i e f r q)

      pub step_fits : Fits (step_line (step_of f r)) at now
      step_fits = next_fits w (step_line (step_of f r)) (to_come row d) split

      pub step-put : (next : ℕ) (after : List ℕ) → Put (step_line (step_of f r)) at now next after → Stepping row from before d next after
      step-put next after p = one_put w (step_line (step_of f r)) (to_come row d) split next after p
