-- `whole_items`: what is to come is whole where all is.
use Prim.Native.Nat.{◌-◌}
use mathlib.Core.Path.{◌≡◌}
use lib.ListN.{length}
use Rattle.cursors.specs.Cursor.{items_at, start_of}
use Rattle.questions.specs.Questions.{whole}
use Rattle.questions.proofs.whole.whole_items.Given as goal

abbrev pub invariant-loop-next : goal.invariant-loop-next
invariant-loop-next l = (l.cursor.row ≡ l.fn.row) × (whole (items_at l.bytes (start_of l.fn.row)) ≡ whole (items_at l.bytes l.cursor))

abbrev pub decreases-loop-next : goal.decreases-loop-next
decreases-loop-next l = length l.bytes - l.cursor.at
