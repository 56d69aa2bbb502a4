-- `first_fit`: the first word that has a lane has the first of all as its lowest.
use Rattle.lanes.proofs.LanesFit.{Unfit}
use Rattle.lanes.proofs.fit.first_fit.Given as goal

abbrev pub invariant-loop-w : goal.invariant-loop-w
invariant-loop-w l = Unfit l.row l.derived l.outs l.w
