-- `write_fact_marks`: the marks of the facts passed are written.
use Rattle.items.specs.Item.{has}
use Rattle.marking.specs.Marks.{barred_in}
use Rattle.results.proofs.MarksWritten.{Marking, fact_mark_by}
use Rattle.results.proofs.marks.write_fact_marks.Given as goal

abbrev pub invariant-loop-f : goal.invariant-loop-f
invariant-loop-f l = Marking (fact_mark_by (has l.marks) (barred_in l.marks)) l.facts l.initial.out l.out l.f
