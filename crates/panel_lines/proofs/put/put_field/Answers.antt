-- `put_field`: the letter, then the rest.
use mathlib.Core.Path.{refl}
use Rattle.panel_lines.specs.Text.{spaced, field}
use Rattle.questions.proofs.BytesPut.{begun, next_fits, one_put}
use Rattle.panel_lines.proofs.put.put_field.Goals as goal

pub put-rest-requires : goal.put-rest-requires
unfolding field
put-rest-requires c = next_fits (begun _ _ _ c.requires) _ (spaced c.args.n) refl

pub put_spaced-requires : goal.put_spaced-requires
unfolding field
put_spaced-requires c = (one_put (begun _ _ _ c.requires) _ _ refl _ _ c.put-rest.ensures).fits

pub returns : goal.returns
unfolding field
returns c = (one_put (begun _ _ _ c.requires) _ _ refl _ _ c.put-rest.ensures).finish _ _ c.put_spaced.ensures
