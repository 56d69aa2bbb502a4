-- `gather`: fact by fact, the first as the highest bit.
use Rattle.guessing.proofs.BoundsNarrowed.{Gathering}
use Rattle.guessing.proofs.bounds.gather.Given as goal

abbrev pub invariant-loop-fact : goal.invariant-loop-fact
invariant-loop-fact l = Gathering l.row l.marks l.number l.fact-index
