-- `settle`: some places wait, and the rules of the others derive nothing new.
use Rattle.tables.specs.Held.{held}
use Rattle.blocks.proofs.LanesSettled.{Settling}
use Rattle.blocks.proofs.LanesRoom.{room_left}
use Rattle.blocks.proofs.settle.settle.Given as goal

abbrev pub invariant-loop-place : goal.invariant-loop-place
invariant-loop-place l = Settling (held l.tables) l.order l.outs l.derived l.pending

abbrev pub decreases-loop-place : goal.decreases-loop-place
decreases-loop-place l = room_left l.derived l.pending
