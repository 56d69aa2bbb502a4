-- `hold_base`: fact by fact.
use Rattle.lanes.proofs.FactsHeld.{every_based, none_in_base}
use Rattle.lanes.proofs.hold.hold_base.Goals as goal
use Rattle.lanes.proofs.hold.hold_base.Goals.{then-base-fact-eq1, else-base-fact-eq1}

pub loop-fact-preserved : goal.loop-fact-preserved
loop-fact-preserved c = elim c.if-base-fact-eq1.branch [
  | then-base-fact-eq1 w ↦ let p = rw w.word-is at c.put.ensures in every_based c.loop-fact.invariant p w.if-base-fact-eq1.true
  | else-base-fact-eq1 w ↦ let p = rw w.word-is at c.put.ensures in none_in_base c.loop-fact.invariant p w.if-base-fact-eq1.false
]
