-- `is_set_aside`: each test that fails tells no, and the last one tells.
use mathlib.Core.Path.{sym, ◌∙◌}
use Rattle.tables.specs.Held.{held}
use Rattle.items.specs.Item.{has}
use Rattle.results.proofs.MarksWritten.{a_premise_out, a_constraint_in, a_test_left}
use Rattle.results.proofs.marks.is_set_aside.Goals as goal

pub returns-then-not-premises_in : goal.returns-then-not-premises_in
returns-then-not-premises_in c = a_premise_out (held c.args.tables.now) _ c.requires.rule_known c.requires.rule_value (has c.args.derived.now) (sym c.premises_in.ensures ∙ c.if-not-premises_in.true)

pub returns-then-not-constraints_clear : goal.returns-then-not-constraints_clear
returns-then-not-constraints_clear c = a_constraint_in (held c.args.tables.now) _ c.requires.rule_known c.requires.rule_value (has c.args.derived.now) (sym c.premises_in.ensures ∙ c.if-not-premises_in.false) (sym c.constraints_clear.ensures ∙ c.if-not-constraints_clear.true)

pub returns : goal.returns
returns c = a_test_left (held c.args.tables.now) _ c.requires.rule_known c.requires.rule_value (has c.args.derived.now) (sym c.premises_in.ensures ∙ c.if-not-premises_in.false) (sym c.constraints_clear.ensures ∙ c.if-not-constraints_clear.false) _ c.conclusion_in.ensures
