-- `put_step`: the fact, the rule, the end of the line.
use mathlib.Core.Path.{refl}
use mathlib.Core.List.{◌++◌}
use Rattle.panel_lines.specs.Text.{newline, spaced, step_line}
use Rattle.questions.specs.Questions.{step_of}
use Rattle.questions.proofs.BytesPut.{Putting, begun, next_fits, one_put}
use Rattle.panel_lines.proofs.put.put_step.Goals as goal
use Rattle.panel_lines.proofs.put.put_step.Goals.{After-put_field-next, After-put_spaced-end}

-- what is still to come after each part
fact-put : (c : After-put_field-next) → let a = c.args in Putting (step_line (step_of a.fact a.rule)) a.at a.out.now (spaced a.rule.0 ++ newline) c.put_field-next.result c.put_field-next.new.out
unfolding step_line
fact-put c = one_put (begun _ _ _ c.requires) _ _ refl _ _ c.put_field-next.ensures

rule-put : (c : After-put_spaced-end) → let a = c.args in Putting (step_line (step_of a.fact a.rule)) a.at a.out.now newline c.put_spaced-end.result c.put_spaced-end.new.out
unfolding step_line
rule-put c = one_put (one_put (begun _ _ _ c.requires) _ _ refl _ _ c.put_field-next.ensures) _ _ refl _ _ c.put_spaced-end.ensures

pub put_field-next-requires : goal.put_field-next-requires
unfolding step_line
put_field-next-requires c = next_fits (begun _ _ _ c.requires) _ (spaced c.args.rule.0 ++ newline) refl

pub put_spaced-end-requires : goal.put_spaced-end-requires
put_spaced-end-requires c = next_fits (fact-put (goal.at.put_spaced-end-requires c).After-put_field-next) _ newline refl

pub put-requires : goal.put-requires
put-requires c = (rule-put (goal.at.put-requires c).After-put_spaced-end).fits

pub returns : goal.returns
returns c = (rule-put (goal.at.returns c).After-put_spaced-end).finish _ _ c.put.ensures
