-- `put_mask`: the words before one are put.
use Rattle.premises.proofs.MaskPut.{Putting}
use Rattle.premises.proofs.plain.put_mask.Given as goal

abbrev pub invariant-loop-at : goal.invariant-loop-at
invariant-loop-at l = Putting l.mask l.at l.index
