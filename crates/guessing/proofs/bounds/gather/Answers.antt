-- `gather`: fact by fact, the first as the highest bit.
use Rattle.guessing.proofs.BoundsNarrowed.{one_gathered}
use Rattle.guessing.proofs.bounds.gather.Goals as goal

pub loop-fact-preserved : goal.loop-fact-preserved
loop-fact-preserved c = rw (c.from-in-loop-fact.ensures, c.from.ensures) (one_gathered c.loop-fact.invariant c.loop-fact-test.true)
