-- `marked_in`: to set the bit changes nothing.
use mathlib.Core.Path.{refl}
use Rattle.bits.specs.Matrix.{bit_in}
use Rattle.bits.proofs.matrix.marked_in.Goals as goal

pub returns : goal.returns
unfolding bit_in
returns c = rw c.with_bit.ensures refl
