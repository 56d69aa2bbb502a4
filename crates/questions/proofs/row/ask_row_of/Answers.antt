-- `ask_row_of`: each way through the tests is a law of `OperationAsked`.
use native.Mathlib.Omega.{arith}
use mathlib.Core.Path.{sym, ap, ◌∙◌}
use Rattle.questions.specs.Answer.{answer_of}
use Rattle.questions.proofs.OperationAsked.{fact_too_high, not-steps, steps}
use Rattle.questions.proofs.row.ask_row_of.Goals as goal

pub returns-then-facts-fact : goal.returns-then-facts-fact
returns-then-facts-fact c = sym (ap answer_of (fact_too_high c.args.facts c.args.fact _ (omega arith)))

pub returns-then-whole_items : goal.returns-then-whole_items
returns-then-whole_items c = sym (ap answer_of (steps c.args.facts c.args.fact _ (omega arith) (sym c.whole_items.ensures ∙ c.if-whole_items.true)))

pub returns-else-whole_items : goal.returns-else-whole_items
returns-else-whole_items c = sym (ap answer_of (not-steps c.args.facts c.args.fact _ (omega arith) (sym c.whole_items.ensures ∙ c.if-whole_items.false)))
