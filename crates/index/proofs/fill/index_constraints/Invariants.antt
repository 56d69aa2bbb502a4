-- `index_constraints`: the constraints before a place are marked.
use mathlib.Core.List.{map}
use Rattle.premises.proofs.PremisesEntered.{Entering}
use Rattle.index.specs.Literal.{outside, literals}
use Rattle.index.specs.Cells.{marks_from}
use Rattle.index.proofs.fill.index_constraints.Given as goal

abbrev pub invariant-loop-constraint : goal.invariant-loop-constraint
invariant-loop-constraint l = Entering literals marks_from (map outside l.constraint-items) l.place l.initial.index l.index l.distinct l.constraint-index
