-- `turn_bit`: the bit as a number is a guess too, and the two have no place above the guesses.
use Rattle.nogoods.proofs.MaskedBlocks.{turned_small}
use Rattle.nogoods.proofs.guess.turn_bit.Goals as goal

pub returns : goal.returns
returns c = turned_small c.args.guess c.args.place c.requires.0 c.requires.1
