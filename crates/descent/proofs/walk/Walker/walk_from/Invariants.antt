-- `walk_from`: the invariant says where the walk stands and that what was met stays so; what is left to be done falls.
use Rattle.tables.specs.Held.{held}
use Rattle.descent.specs.Standing.{turns_left, StaysMet, WalkStands}
use Rattle.descent.proofs.walk.Walker.walk_from.Given as goal

abbrev pub invariant-loop-self : goal.invariant-loop-self
invariant-loop-self l = WalkStands (held l.tables) l.next l.self × StaysMet l.initial.self.seen l.self.seen

abbrev pub decreases-loop-self : goal.decreases-loop-self
decreases-loop-self l = turns_left (held l.tables) l.self.seen l.self.todo l.self.standing.height l.self.standing.at
