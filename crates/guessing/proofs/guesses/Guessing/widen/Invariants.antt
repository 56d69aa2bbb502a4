-- `widen`: the conflict stays with each bit that is turned over.
use Rattle.tables.specs.Held.{held}
use Rattle.guessing.specs.Guessing.{Conflict}
use Rattle.guessing.proofs.guesses.Guessing.widen.Given as goal

abbrev pub invariant-loop-place : goal.invariant-loop-place
invariant-loop-place l = Conflict (held l.self.tables.now) l.self.row.now l.self.base.now l.wide l.conflict
