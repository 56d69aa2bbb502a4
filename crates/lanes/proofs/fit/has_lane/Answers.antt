-- `has_lane`: the bit as the code finds it.
use mathlib.Core.Path.{sym}
use Rattle.theory.proofs.NumberBits.{bit_shifted}
use Rattle.lanes.proofs.fit.has_lane.Goals as goal

pub returns : goal.returns
returns c = sym (bit_shifted c.args.lane c.args.word)
