-- `hold_fact`: its words one after the other.
use Rattle.lanes.proofs.FactsHeld.{Lacking}
use Rattle.lanes.proofs.hold.hold_fact.Given as goal

abbrev pub invariant-loop-w : goal.invariant-loop-w
invariant-loop-w l = Lacking l.block l.place l.own l.w
