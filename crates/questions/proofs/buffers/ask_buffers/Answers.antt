-- `ask_buffers`: one question after the other.
use mathlib.Core.Path.{sym, ap}
use native.Mathlib.Omega.{arith}
use Rattle.tables.specs.Held.{held}
use Rattle.tables.proofs.ProgramHeld.{facts_below}
use Rattle.questions.specs.Answer.{answer_of}
use Rattle.questions.proofs.OperationAsked.{facts-short, rules-short, steps-short, large_enough}
use Rattle.questions.proofs.buffers.ask_buffers.Goals as goal

pub returns-then-facts-count : goal.returns-then-facts-count
returns-then-facts-count c = sym (ap answer_of (facts-short (held c.args.tables.now) _ _ _ (omega (arith, c.facts-count.ensures))))

pub returns-then-rules : goal.returns-then-rules
returns-then-rules c = sym (ap answer_of (rules-short (held c.args.tables.now) _ _ _ (omega (arith, c.facts-count.ensures, c.if-facts-count.false)) (omega (arith, c.rules.ensures))))

pub overflow_mul-count : goal.overflow_mul-count
overflow_mul-count c = omega (arith, c.facts-count.ensures, facts_below c.args.tables.now.well_formed)

pub returns-then-steps-count : goal.returns-then-steps-count
returns-then-steps-count c = sym (ap answer_of (steps-short (held c.args.tables.now) _ _ _ (omega (arith, c.facts-count.ensures, c.if-facts-count.false)) (omega (arith, c.rules.ensures, c.if-rules.false)) (omega (arith, c.facts-count.ensures))))

pub returns : goal.returns
returns c = sym (ap answer_of (large_enough (held c.args.tables.now) _ _ _ (omega (arith, c.facts-count.ensures, c.if-facts-count.false)) (omega (arith, c.rules.ensures, c.if-rules.false)) (omega (arith, c.facts-count.ensures))))
