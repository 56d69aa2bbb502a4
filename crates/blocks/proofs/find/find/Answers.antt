-- `find`: the blocks in two parts.
use Rattle.blocks.proofs.BlockGuesses.{found_in}
use Rattle.blocks.proofs.find.find.Goals as goal

pub returns : goal.returns
returns c = found_in _ c.count_blocks-end.ensures.1 c.find_between-2.ensures
