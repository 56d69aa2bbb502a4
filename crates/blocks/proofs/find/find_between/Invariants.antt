-- `find_between`: no guess before the block fits, and beside the row every lane holds out what is held out at the base.
use Rattle.tables.specs.Held.{held}
use Rattle.blocks.specs.Find.{PassedTo}
use Rattle.blocks.proofs.BlockGuesses.{Beside}
use Rattle.blocks.proofs.find.find_between.Given as goal

abbrev pub invariant-loop-block : goal.invariant-loop-block
invariant-loop-block l = Beside l.row l.base l.outs × PassedTo (held l.tables) l.row l.base l.block
