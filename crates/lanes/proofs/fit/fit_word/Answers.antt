-- `fit_word`: fact by fact, the lanes in which it is derived or held out, and not both.
use Rattle.lanes.proofs.LanesFit.{every_fits, one_fits}
use Rattle.lanes.proofs.fit.fit_word.Goals as goal

pub loop-fact-init : goal.loop-fact-init
loop-fact-init c = every_fits _ _ _ _

pub loop-fact-preserved : goal.loop-fact-preserved
loop-fact-preserved c = one_fits c.loop-fact.invariant c.loop-fact-test.true
