-- `tell`: the rules in the row are still to be told; each one taken leaves fewer.
use Rattle.tables.specs.Held.{held}
use Rattle.bits.specs.Flags.{total, NoneBefore}
use Rattle.index.specs.Cells.{on_in}
use Rattle.propagation.specs.State.{Onward}
use Rattle.propagation.proofs.LiteralsTold.{Telling}
use Rattle.propagation.proofs.spread.tell.Given as goal

abbrev pub invariant-loop-rule : goal.invariant-loop-rule
invariant-loop-rule l = Telling (held l.tables) (on_in l.index) l.left l.marks l.missing l.stack l.top × Onward l.initial.marks l.top-2 l.marks l.top × NoneBefore l.from l.left

abbrev pub decreases-loop-rule : goal.decreases-loop-rule
decreases-loop-rule l = total l.left
