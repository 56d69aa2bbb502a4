-- `has_bit`: the bit is the lowest once the number is shifted.
use mathlib.Core.Path.{sym}
use Rattle.theory.proofs.NumberBits.{bit_shifted}
use Rattle.nogoods.proofs.guess.has_bit.Goals as goal

pub returns : goal.returns
returns c = sym (bit_shifted c.args.place c.args.number)
