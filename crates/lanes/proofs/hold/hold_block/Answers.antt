-- `hold_block`: place by place.
use Rattle.lanes.proofs.FactsHeld.{one_held}
use Rattle.lanes.proofs.hold.hold_block.Goals as goal

pub loop-place-preserved : goal.loop-place-preserved
loop-place-preserved c = one_held c.loop-place.invariant c.requires.2 c.loop-place-test.true c.hold_fact.ensures
