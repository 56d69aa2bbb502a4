-- `is_left_out`: off, or withheld.
use mathlib.Core.Path.{◌∙◌}
use borrow.Author.Tests.{eq-eqb}
use Rattle.tables.proofs.ProgramHeld.{in_table}
use Rattle.index.proofs.RulesIndexed.{off_left_out, withheld-left_out}
use Rattle.index.proofs.fill.is_left_out.Goals as goal

pub bounds-off-rule : goal.bounds-off-rule
bounds-off-rule c = in_table c.args.tables.now.well_formed c.requires

pub returns-then-off-rule-eq1 : goal.returns-then-off-rule-eq1
returns-then-off-rule-eq1 c = eq-eqb _ _ c.if-off-rule-eq1.true ∙ off_left_out _ _ _ c.if-off-rule-eq1.true

pub returns-else-off-rule-eq1 : goal.returns-else-off-rule-eq1
returns-else-off-rule-eq1 c = c.is_withheld.ensures ∙ withheld-left_out _ _ _ c.if-off-rule-eq1.false
