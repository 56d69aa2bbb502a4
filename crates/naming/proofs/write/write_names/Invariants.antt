-- `write_names`: the items of the rules passed are written.
use Rattle.items.specs.Write.{rule_item}
use Rattle.questions.proofs.MarkedPut.{Passing}
use Rattle.naming.proofs.write.write_names.Given as goal

abbrev pub invariant-loop-i : goal.invariant-loop-i
invariant-loop-i l = Passing rule_item l.mark l.marks l.count l.from l.initial.out l.at l.out l.i
