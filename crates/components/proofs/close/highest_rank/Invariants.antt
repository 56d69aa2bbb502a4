-- `highest_rank`: so far it is the rank of a fact there, and none passed has a higher one.
use Rattle.components.proofs.ComponentClosed.{HighestYet}
use Rattle.components.proofs.close.highest_rank.Given as goal

abbrev pub invariant-loop-a : goal.invariant-loop-a
invariant-loop-a l = HighestYet l.stack l.ranks l.from l.to l.a l.high
