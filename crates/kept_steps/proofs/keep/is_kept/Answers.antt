-- `is_kept`: the mark that the set is read by.
use mathlib.Core.Path.{refl}
use Rattle.items.specs.Item.{has}
use Rattle.kept_steps.proofs.keep.is_kept.Goals as goal

pub returns : goal.returns
unfolding has
returns c = refl
