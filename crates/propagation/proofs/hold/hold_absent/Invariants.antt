-- `hold_absent`: the facts from f on that are not in the set are still to be held out.
use mathlib.Core.Bool.{not}
use Rattle.tables.specs.Held.{held}
use Rattle.theory.specs.Rule.{keep, up_to}
use Rattle.items.specs.Item.{has}
use Rattle.index.specs.Cells.{on_in}
use Rattle.propagation.proofs.FactsHeldOut.{Holding, absent_from}
use Rattle.propagation.proofs.hold.hold_absent.Given as goal

abbrev pub invariant-loop-f : goal.invariant-loop-f
invariant-loop-f l = Holding (held l.tables) (on_in l.index) l.initial.marks (keep (λ k. not (has l.set k)) (up_to (held l.tables).facts)) (absent_from l.set (held l.tables).facts l.f) l.marks l.missing l.stack l.top
