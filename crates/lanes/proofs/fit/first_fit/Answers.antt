-- `first_fit`: the first word that has a lane has the first of all as its lowest.
use native.Mathlib.Omega.{arith}
use Rattle.lanes.proofs.LanesFit.{one_unfit, first_found}
use Rattle.lanes.proofs.fit.first_fit.Goals as goal

pub returns-then-fits-ne0 : goal.returns-then-fits-ne0
returns-then-fits-ne0 c = first_found c.loop-w.invariant _ c.fit_word-fits.ensures c.loop-w-test.true _ c.lowest_bit.ensures.0 c.lowest_bit.ensures.1

pub loop-w-preserved : goal.loop-w-preserved
loop-w-preserved c = one_unfit c.loop-w.invariant _ c.fit_word-fits.ensures (omega (arith, c.if-fits-ne0.false))
