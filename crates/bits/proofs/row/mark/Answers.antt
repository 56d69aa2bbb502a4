-- `mark`: a bit of its word is set.
use Rattle.bits.proofs.RowMarked.{row-marked}
use Rattle.bits.proofs.row.mark.Goals as goal

pub returns : goal.returns
returns c = row-marked _ _ _ c.requires c.with_bit.ensures
