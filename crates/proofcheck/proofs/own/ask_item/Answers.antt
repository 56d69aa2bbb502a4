-- `ask_item`: each way through its code.
use mathlib.Core.Path.{sym, ◌∙◌}
use Rattle.proofcheck.proofs.ItemAsked.{premise_asked, constraint_among, constraint_in_set, constraint_barred}
use Rattle.proofcheck.proofs.own.ask_item.Goals as goal

pub bounds-marks-number : goal.bounds-marks-number
bounds-marks-number c = c.requires.below _ c.in-Constraint.is

pub returns-then-before : goal.returns-then-before
returns-then-before c = constraint_among _ _ _ _ c.in-Constraint.is c.if-before.true

pub returns-then-in_set : goal.returns-then-in_set
returns-then-in_set c = constraint_in_set _ _ _ _ c.in-Constraint.is (sym c.in_set-in-Constraint.ensures ∙ c.if-in_set.true)

pub bounds-marks-number-in-Constraint : goal.bounds-marks-number-in-Constraint
bounds-marks-number-in-Constraint c = c.requires.below _ c.in-Constraint.is

pub returns-in-Premise : goal.returns-in-Premise
returns-in-Premise c = premise_asked _ _ _ _ _ c.in-Premise.is c.in_set.ensures

pub returns-else-in_set : goal.returns-else-in_set
returns-else-in_set c = constraint_barred _ _ _ _ c.in-Constraint.is c.if-before.false (sym c.in_set-in-Constraint.ensures ∙ c.if-in_set.false)
