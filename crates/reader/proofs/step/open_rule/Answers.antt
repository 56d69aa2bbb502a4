-- `open_rule`: questions 6 and 8, then the rule.
use native.Mathlib.Omega.{arith}
use Rattle.cursors.proofs.Items.{found}
use Rattle.reader.proofs.BodyAsked.{conclusion_too_high, too_many_rules}
use Rattle.reader.proofs.BodyRead.{goes_on, refuses, rule-scanned}
use Rattle.reader.proofs.step.open_rule.Goals as goal

pub returns-then-facts-f : goal.returns-then-facts-f
returns-then-facts-f c = λ s marks c₀ here short small w e. refuses w (conclusion_too_high w.verdict (found _ _ _ _ e) c.if-facts-f.true)

pub returns-then-before-ge-MAX_RULES : goal.returns-then-before-ge-MAX_RULES
returns-then-before-ge-MAX_RULES c = λ s marks c₀ here short small w e. refuses w (too_many_rules w.verdict (found _ _ _ _ e) c.if-facts-f.false c.if-before-ge-MAX_RULES.true)

pub returns : goal.returns
returns c = λ s marks c₀ here short small w e. goes_on (λ z. omega arith) (rule-scanned w small (found _ _ _ _ e) c.if-facts-f.false c.if-before-ge-MAX_RULES.false _ c.store_rule.ensures)
