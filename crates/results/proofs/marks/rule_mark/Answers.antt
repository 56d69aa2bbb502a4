-- `rule_mark`: the first test that holds tells the mark.
use mathlib.Core.Path.{◌≡◌, sym, ◌∙◌}
use mathlib.Core.Bool.{true}
use Rattle.tables.specs.Held.{held}
use Rattle.theory.specs.Rule.{exception, in_force}
use Rattle.theory.proofs.Withheld.{withheld-off, read_on}
use Rattle.results.proofs.MarksWritten.{a_plain, an_applied, a_withheld, an_aside, an_other}
use Rattle.results.proofs.marks.rule_mark.Goals as goal
use Rattle.results.proofs.marks.rule_mark.Goals.{Else-is_withheld, Else-not-is_exception}

-- what is known past the first test, and past the third
is_one : (c : Else-not-is_exception) → exception (held c.args.tables.now) c.args.rule.0 ≡ true
is_one c = sym c.is_exception.ensures ∙ c.if-not-is_exception.false

read : (c : Else-is_withheld) → in_force (held c.args.tables.now) c.args.rule.0 ≡ true
read c = read_on _ _ (sym c.is_withheld.ensures ∙ c.if-is_withheld.false)

pub returns-then-not-is_exception : goal.returns-then-not-is_exception
returns-then-not-is_exception c = λ s a d. a_plain (held c.args.tables.now) s _ c.requires.rule_known _ a _ d (sym c.is_exception.ensures ∙ c.if-not-is_exception.true)

pub returns-then-applied : goal.returns-then-applied
returns-then-applied c = λ s a d. an_applied (held c.args.tables.now) s _ c.requires.rule_known _ a _ d (is_one (goal.at.returns-then-applied c).Else-not-is_exception) c.if-applied.true

pub returns-then-is_withheld : goal.returns-then-is_withheld
returns-then-is_withheld c = λ s a d. a_withheld (held c.args.tables.now) s _ c.requires.rule_known _ a _ d (is_one (goal.at.returns-then-is_withheld c).Else-not-is_exception) c.if-applied.false (withheld-off _ _ (sym c.is_withheld.ensures ∙ c.if-is_withheld.true))

pub is_set_aside-requires : goal.is_set_aside-requires
is_set_aside-requires c = record {
  rule_known = c.requires.rule_known;
  tables_in_bounds = c.requires.tables_in_bounds;
  rule_value = read c;
}

pub returns-then-is_set_aside : goal.returns-then-is_set_aside
returns-then-is_set_aside c = λ s a d. an_aside (held c.args.tables.now) s _ c.requires.rule_known _ a _ d (is_one (goal.at.returns-then-is_set_aside c).Else-not-is_exception) c.if-applied.false (sym c.is_set_aside.ensures ∙ c.if-is_set_aside.true)

pub returns : goal.returns
returns c = λ s a d. an_other (held c.args.tables.now) s _ c.requires.rule_known _ a _ d (is_one (goal.at.returns c).Else-not-is_exception) c.if-applied.false (read (goal.at.returns c).Else-is_withheld) (sym c.is_set_aside.ensures ∙ c.if-is_set_aside.false)
