-- `put_spaced`: the space, then the number.
use mathlib.Core.Path.{refl}
use Rattle.panel_lines.specs.Text.{decimal, spaced}
use Rattle.questions.proofs.BytesPut.{begun, next_fits, one_put}
use Rattle.panel_lines.proofs.put.put_spaced.Goals as goal

pub put-digits-requires : goal.put-digits-requires
unfolding spaced
put-digits-requires c = next_fits (begun _ _ _ c.requires) _ (decimal c.args.n) refl

pub put_number-requires : goal.put_number-requires
unfolding spaced
put_number-requires c = (one_put (begun _ _ _ c.requires) _ _ refl _ _ c.put-digits.ensures).fits

pub returns : goal.returns
unfolding spaced
returns c = (one_put (begun _ _ _ c.requires) _ _ refl _ _ c.put-digits.ensures).finish _ _ c.put_number.ensures
