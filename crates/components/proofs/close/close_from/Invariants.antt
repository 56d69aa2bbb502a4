-- `close_from`: the facts passed are closed, and have the rank.
use Rattle.components.specs.Open.{closed}
use Rattle.components.proofs.ComponentClosed.{Written}
use Rattle.components.proofs.close.close_from.Given as goal

abbrev pub invariant-loop-a : goal.invariant-loop-a
invariant-loop-a l = Written l.stack l.from l.a closed l.initial.seen l.seen × Written l.stack l.from l.a l.high l.initial.ranks l.ranks
