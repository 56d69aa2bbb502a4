-- `mark_constraint_facts`: the rules to come from here give what all give from the start.
use mathlib.Core.Path.{◌≡◌}
use Rattle.tables.specs.Held.{held}
use Rattle.theory.specs.Rule.{count}
use Rattle.marking.proofs.RulesMarked.{MarkingRules}
use Rattle.marking.proofs.marks.mark_constraint_facts.Given as goal

abbrev pub invariant-loop-i : goal.invariant-loop-i
invariant-loop-i l = (l.i-end ≡ count (held l.tables)) × MarkingRules (held l.tables) l.initial.marks l.marks l.i
