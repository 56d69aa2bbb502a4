-- The facts of the row from place n on are still to be held out.
use lib.ListN.{take, drop}
use Rattle.tables.specs.Held.{held}
use Rattle.index.specs.Cells.{on_in}
use Rattle.propagation.proofs.FactsHeldOut.{Holding}
use Rattle.propagation.proofs.hold.hold_out.Given as goal

abbrev pub invariant-loop-n : goal.invariant-loop-n
invariant-loop-n l = Holding (held l.tables) (on_in l.index) l.initial.marks (drop l.from (take l.to l.facts)) (drop l.n (take l.to l.facts)) l.marks l.missing l.stack l.top
