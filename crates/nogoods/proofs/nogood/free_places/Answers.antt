-- `free_places`: the zeros at the mask's low end, or as many of them as there are places.
use native.Mathlib.Omega.{arith}
use lib.Count.{count_trailing_zeros}
use Rattle.nogoods.proofs.MaskedBlocks.{zeros_clear, clear-below}
use Rattle.nogoods.proofs.nogood.free_places.Goals as goal

pub returns : goal.returns
returns c = (omega arith, clear-below c.args.mask c.min.result (count_trailing_zeros 32 c.args.mask) (omega arith) (zeros_clear 32 c.args.mask))
