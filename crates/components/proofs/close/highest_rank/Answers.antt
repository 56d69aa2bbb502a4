-- `highest_rank`: so far it is the rank of a fact there, and none passed has a higher one.
use native.Mathlib.Omega.{arith}
use Rattle.components.proofs.ComponentClosed.{one_more}
use Rattle.components.proofs.close.highest_rank.Goals as goal

pub loop-a-preserved : goal.loop-a-preserved
loop-a-preserved c = one_more c.loop-a.invariant c.loop-a-test.true _ c.fact_at-in-loop-a.ensures.0 _ (omega arith)
