-- `ask_order_of`: 11 to 13 as of a list, then 14.
use mathlib.Core.Path.{sym, ◌∙◌}
use Rattle.items.proofs.Passed.{passed}
use Rattle.questions.proofs.OperationAsked.{order-refused, order-answered}
use Rattle.naming.proofs.order.ask_order_of.Goals as goal

pub returns-in_err-ask_listed : goal.returns-in_err-ask_listed
returns-in_err-ask_listed c = passed c.from_residual.ensures ∙ order-refused _ _ _ _ (sym c.in_err-ask_listed.was ∙ c.ask_listed.ensures.value)

pub returns-then-all_named : goal.returns-then-all_named
returns-then-all_named c = order-answered _ _ _ _ _ _ c.ask_listed.ensures.value (sym c.in_ok-ask_listed.was) c.ask_listed.ensures.listed (sym c.if-all_named.true ∙ c.all_named.ensures)

pub returns-else-all_named : goal.returns-else-all_named
returns-else-all_named c = order-answered _ _ _ _ _ _ c.ask_listed.ensures.value (sym c.in_ok-ask_listed.was) c.ask_listed.ensures.listed (sym c.if-all_named.false ∙ c.all_named.ensures)
