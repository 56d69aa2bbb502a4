-- `hold_fact`: its words one after the other.
use Rattle.lanes.proofs.FactsHeld.{one_lacking}
use Rattle.lanes.proofs.hold.hold_fact.Goals as goal

pub loop-w-preserved : goal.loop-w-preserved
loop-w-preserved c = one_lacking c.loop-w.invariant _ c.loop-w-test.true c.guess_word.ensures
