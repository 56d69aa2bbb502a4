-- `mark_own`: the elements to come from here give what all give from the start.
use Rattle.marking.proofs.RulesMarked.{MarkingOwn}
use Rattle.marking.proofs.marks.mark_own.Given as goal

abbrev pub invariant-loop-fact : goal.invariant-loop-fact
invariant-loop-fact l = MarkingOwn l.fact-items l.mark l.initial.marks l.marks l.fact-index
