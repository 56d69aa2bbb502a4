-- `fit_word`: fact by fact, the lanes in which it is derived or held out, and not both.
use Rattle.lanes.proofs.LanesFit.{Fitting}
use Rattle.lanes.proofs.fit.fit_word.Given as goal

abbrev pub invariant-loop-fact : goal.invariant-loop-fact
invariant-loop-fact l = Fitting l.row l.derived l.outs l.word l.fits l.fact-index
