-- `rule_key`: by the mark of a withheld rule.
use mathlib.Core.Path.{sym, ap, ◌∙◌}
use Rattle.items.specs.declared.item.FactId.{FactId}
use Rattle.descent.proofs.ThreadsBegun.{withheld-key, read_key}
use Rattle.descent.proofs.walk.rule_key.Goals as goal

pub returns-then-is_withheld : goal.returns-then-is_withheld
returns-then-is_withheld c = withheld-key _ _ (sym c.is_withheld.ensures ∙ c.if-is_withheld.true)

pub returns-else-is_withheld : goal.returns-else-is_withheld
returns-else-is_withheld c = ap (λ (f : FactId). f.0) c.conclusion-fact.ensures ∙ read_key _ _ (sym c.is_withheld.ensures ∙ c.if-is_withheld.false)
