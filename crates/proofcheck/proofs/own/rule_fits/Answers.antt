-- `rule_fits`: the range of the rule is viewed.
use Rattle.theory.specs.Rule.{rule as rule_of}
use Rattle.items.specs.Item.{has}
use Rattle.reader.specs.Questions.{program_of}
use Rattle.view.proofs.RuleRanges.{InFile, rule-in_file}
use Rattle.proofcheck.proofs.ReadByView.{in_tables, may_view, rule-fitted}
use Rattle.proofcheck.proofs.own.rule_fits.Goals as goal
use Rattle.proofcheck.proofs.own.rule_fits.Goals.{After-range_of-range}

-- the range is that of the rule
in-file : (c : After-range_of-range) → InFile c.args.file.now (rule_of (program_of c.args.file.now) c.args.rule.0) c.range_of-range.result
in-file c = rule-in_file c.requires.tabled.0 c.requires.tabled.1 c.range_of-range.ensures

pub range_of-range-requires : goal.range_of-range-requires
range_of-range-requires c = in_tables c.requires.tabled.0 c.requires.tabled.1

pub view_fits-requires : goal.view_fits-requires
view_fits-requires c = may_view c.requires.tabled.0 c.requires.tabled.1 (in-file (goal.at.view_fits-requires c).After-range_of-range) _ c.requires.marks_len

pub returns : goal.returns
returns c = record {
  value = (rule-fitted c.requires.tabled.0 c.requires.tabled.1 (in-file (goal.at.returns c).After-range_of-range) (has c.args.set.now) _ _ _ c.view_fits.ensures).0;
  rule_marked = (rule-fitted c.requires.tabled.0 c.requires.tabled.1 (in-file (goal.at.returns c).After-range_of-range) (has c.args.set.now) _ _ _ c.view_fits.ensures).1;
}
