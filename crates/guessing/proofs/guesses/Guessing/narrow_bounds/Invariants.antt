-- `narrow_bounds`: every guess that fits lies between, and the one bound derives the other.
use Rattle.tables.specs.Held.{held}
use Rattle.guessing.specs.Bounds.{Responds, Between}
use Rattle.guessing.proofs.guesses.Guessing.narrow_bounds.Given as goal

abbrev pub invariant-loop-round : goal.invariant-loop-round
invariant-loop-round l = let p = l.self in
    Between (held p.tables.now) p.row.now p.base.now l.low l.high × Responds (held p.tables.now) p.row.now p.base.now l.low l.high
