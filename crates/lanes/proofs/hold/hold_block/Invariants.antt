-- `hold_block`: place by place.
use Rattle.lanes.proofs.FactsHeld.{Holding}
use Rattle.lanes.proofs.hold.hold_block.Given as goal

abbrev pub invariant-loop-place : goal.invariant-loop-place
invariant-loop-place l = Holding l.row l.block l.initial.outs l.outs l.place
