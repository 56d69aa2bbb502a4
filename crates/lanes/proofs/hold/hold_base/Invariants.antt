-- `hold_base`: fact by fact.
use Rattle.lanes.proofs.FactsHeld.{BaseBelow}
use Rattle.lanes.proofs.hold.hold_base.Given as goal

abbrev pub invariant-loop-fact : goal.invariant-loop-fact
invariant-loop-fact l = BaseBelow l.base l.outs l.fact
