-- `merge_roots`: the roots passed are behind the place, and none of them was met by a constraint.
use Rattle.components.specs.Open.{Gone}
use Rattle.components.proofs.open.merge_roots.Given as goal

abbrev pub invariant-loop-root : goal.invariant-loop-root
invariant-loop-root l = Gone l.roots l.count l.low l.root
