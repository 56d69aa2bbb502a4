-- `descend`: the places before the one at hand are decided, and the others stand as in.
use Rattle.tables.specs.Held.{held}
use Rattle.guessing.proofs.PathDescended.{Descending}
use Rattle.guessing.proofs.guesses.Guessing.descend.Given as goal

abbrev pub invariant-loop-n : goal.invariant-loop-n
invariant-loop-n l = Descending (held l.self.tables.now) l.self.index.now l.self.row.now l.self.base.now l.from l.n l.guess l.marks l.left
