-- `try_block`: the lanes are settled, and the first that fits is marked.
use Rattle.blocks.proofs.BlockTried.{one_tried, none_tried}
use Rattle.blocks.proofs.find.try_block.Goals as goal

pub returns-in_err-lane : goal.returns-in_err-lane
returns-in_err-lane c = rw c.from_residual.ensures (none_tried c.settle.ensures c.first_fit.ensures c.in_err-lane.was)

pub returns : goal.returns
returns c = one_tried c.settle.ensures c.first_fit.ensures c.mark_lane.ensures.found_len _ c.in_ok-lane.was c.mark_lane.ensures.by_index
