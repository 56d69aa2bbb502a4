-- `ask_tabled`: the order first, then the buffers.
use mathlib.Core.Path.{sym, ◌∙◌}
use Rattle.tables.specs.Held.{held}
use Rattle.items.proofs.Passed.{passed}
use Rattle.questions.proofs.OperationAsked.{order-no, order-yes}
use Rattle.naming.proofs.asked.ask_tabled.Goals as goal

pub returns-in_err-ask_order_of : goal.returns-in_err-ask_order_of
returns-in_err-ask_order_of c = passed c.from_residual.ensures ∙ order-no (held c.args.tables.now) _ _ _ (sym c.in_err-ask_order_of.was ∙ c.ask_order_of.ensures)

pub returns : goal.returns
returns c = order-yes (held c.args.tables.now) _ _ (sym c.in_ok-ask_order_of.was ∙ c.ask_order_of.ensures) _ c.ask_buffers.ensures
