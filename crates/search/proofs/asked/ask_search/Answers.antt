-- `ask_search`: the buffers, then the limits.
use mathlib.Core.Path.{sym, ◌∙◌}
use Rattle.items.proofs.Passed.{passed}
use Rattle.search.proofs.SearchAsked.{buffers_refuse, limits_decide}
use Rattle.search.proofs.asked.ask_search.Goals as goal

pub returns-in_err-ask_buffers : goal.returns-in_err-ask_buffers
returns-in_err-ask_buffers c = passed c.from_residual.ensures ∙ buffers_refuse _ _ _ _ _ _ (sym c.in_err-ask_buffers.was ∙ c.ask_buffers.ensures)

pub returns : goal.returns
returns c = c.ask_limits.ensures ∙ limits_decide _ _ _ _ _ (sym c.in_ok-ask_buffers.was ∙ c.ask_buffers.ensures)
