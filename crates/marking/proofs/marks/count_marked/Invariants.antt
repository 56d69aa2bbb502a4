-- `count_marked`: those counted and those to come are all.
use Rattle.theory.proofs.ListWalks.{Counting}
use Rattle.items.specs.Item.{has}
use Rattle.marking.proofs.marks.count_marked.Given as goal

abbrev pub invariant-loop-f : goal.invariant-loop-f
invariant-loop-f l = Counting (has l.marks) l.facts l.n l.f
