-- Of the rules before rule i, those that ask nothing have their conclusions.
use Rattle.tables.specs.Held.{held}
use Rattle.index.specs.Cells.{on_in}
use Rattle.propagation.proofs.FactsHeldOut.{Starting}
use Rattle.propagation.proofs.none.hold_none.Given as goal

abbrev pub invariant-loop-i : goal.invariant-loop-i
invariant-loop-i l = Starting (held l.tables) (on_in l.index) l.i l.marks l.missing l.stack l.top
