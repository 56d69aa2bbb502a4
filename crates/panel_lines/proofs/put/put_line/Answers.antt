-- `put_line`: the letter and the number, then the end of the line.
use mathlib.Core.Path.{refl}
use Rattle.panel_lines.specs.Text.{newline, line}
use Rattle.questions.proofs.BytesPut.{begun, next_fits, one_put}
use Rattle.panel_lines.proofs.put.put_line.Goals as goal

pub put_field-end-requires : goal.put_field-end-requires
unfolding line
put_field-end-requires c = next_fits (begun _ _ _ c.requires) _ newline refl

pub put-requires : goal.put-requires
unfolding line
put-requires c = (one_put (begun _ _ _ c.requires) _ _ refl _ _ c.put_field-end.ensures).fits

pub returns : goal.returns
unfolding line
returns c = (one_put (begun _ _ _ c.requires) _ _ refl _ _ c.put_field-end.ensures).finish _ _ c.put.ensures
