-- `after`: the end of the guess's block, in which all from the guess on have its value under the mask.
use Prim.Native.Nat.{◌*◌, ◌%◌, ◌^◌}
use native.Mathlib.Omega.{arith}
use Rattle.nogoods.proofs.MaskedBlocks.{Block, block_of}
use Rattle.nogoods.proofs.nogood.after.Goals as goal
use Rattle.nogoods.proofs.nogood.after.Goals.{After-free_places}

block : (c : After-free_places) → Block c.args.guess c.args.mask (1 * 2 ^ c.free_places.result % 4294967296)
block c = block_of c.args.guess c.args.mask c.free_places.result c.requires c.free_places.ensures.0 c.free_places.ensures.1

pub nonzero_div-result : goal.nonzero_div-result
nonzero_div-result c = (block c).some

pub overflow_add-result : goal.overflow_add-result
overflow_add-result c = omega (arith, (block c).number)

pub overflow_mul-result : goal.overflow_mul-result
overflow_mul-result c = omega (arith, (block c).ends)

pub returns : goal.returns
returns c = record {
  lower_bound = ((block c).above, (block c).ends);
  by_index = (block c).same;
}
