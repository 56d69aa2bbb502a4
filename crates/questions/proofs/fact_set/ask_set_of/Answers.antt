-- `ask_set_of`: each way through the tests is a law of `OperationAsked`.
use native.Mathlib.Omega.{arith}
use mathlib.Core.Path.{sym, ap, ◌∙◌}
use Rattle.questions.specs.Answer.{answer_of}
use Rattle.questions.proofs.OperationAsked.{wrong_length, not-bits, bits}
use Rattle.questions.proofs.fact_set.ask_set_of.Goals as goal

pub returns-then-set-facts : goal.returns-then-set-facts
returns-then-set-facts c = sym (ap answer_of (wrong_length c.args.facts c.args.set.now (λ e. omega arith)))

pub returns-then-zero_or_one : goal.returns-then-zero_or_one
returns-then-zero_or_one c = sym (ap answer_of (bits c.args.facts c.args.set.now (omega arith) (sym c.zero_or_one.ensures ∙ c.if-zero_or_one.true)))

pub returns-else-zero_or_one : goal.returns-else-zero_or_one
returns-else-zero_or_one c = sym (ap answer_of (not-bits c.args.facts c.args.set.now (omega arith) (sym c.zero_or_one.ensures ∙ c.if-zero_or_one.false)))
