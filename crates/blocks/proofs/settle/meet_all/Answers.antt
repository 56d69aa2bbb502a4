-- `meet_all`: the facts before a place are met.
use Rattle.blocks.proofs.LanesFired.{one_met}
use Rattle.blocks.proofs.settle.meet_all.Goals as goal

pub loop-fact-preserved : goal.loop-fact-preserved
loop-fact-preserved c = one_met c.loop-fact.invariant c.loop-fact-test.true c.wide.ensures c.meet.ensures
