-- `order_row`: the names read so far stand at the front of the row, in their order.
use Prim.Native.Nat.{◌-◌}
use mathlib.Core.Path.{◌≡◌}
use lib.ListN.{length}
use Rattle.cursors.specs.declared.cursor.Row.TheVariants.{Order}
use Rattle.cursors.specs.Cursor.{items_at}
use Rattle.questions.specs.Questions.{names_of, named_in}
use Rattle.naming.proofs.RowFilled.{Filling}
use Rattle.naming.proofs.row.order_row.Given as goal

abbrev pub invariant-loop-item : goal.invariant-loop-item
invariant-loop-item l = (l.cursor.row ≡ Order) × Filling (named_in l.order) l.row (names_of (items_at l.order l.cursor)) l.n

abbrev pub decreases-loop-item : goal.decreases-loop-item
decreases-loop-item l = length l.order - l.cursor.at
