-- `take_item`: each way of the read at the front is a law of `RangeItems`.
use mathlib.Core.Path.{sym, ◌∙◌}
use borrow.Author.Rules.{rules}
use borrow.Enum.Refused.{opened}
use Rattle.view.proofs.RangeItems.{empty-range, none_taken, other_there, premise_taken, constraint_taken}
use Rattle.view.proofs.range.take_item.Goals as goal

pub returns-then-end-at : goal.returns-then-end-at
returns-then-end-at c = empty-range _ _ _ c.if-end-at.true

pub returns-in-Found-Premise-default : goal.returns-in-Found-Premise-default
returns-in-Found-Premise-default c = premise_taken _ _ _ c.if-end-at.false _ _ (sym c.next_in_body.ensures ∙ c.in-Found-Premise-default.is) _ c.in-Found-Premise-default.field-0-is

pub returns-in-Found-Constraint-default : goal.returns-in-Found-Constraint-default
returns-in-Found-Constraint-default c = constraint_taken _ _ _ c.if-end-at.false _ _ (sym c.next_in_body.ensures ∙ c.in-Found-Constraint-default.is) _ c.in-Found-Constraint-default.field-0-is

pub returns-in_default : goal.returns-in_default
returns-in_default c = other_there _ _ _ c.if-end-at.false _ _ (sym c.next_in_body.ensures ∙ c.in_default.is) (search (rules, opened))

pub returns-in_default-2 : goal.returns-in_default-2
returns-in_default-2 c = none_taken _ _ _ c.if-end-at.false _ (sym c.next_in_body.ensures) (search (rules, opened))
