-- `mark_in`: a bit of a word of the key's row is set.
use Rattle.bits.proofs.MatrixMarked.{matrix_marked, mark_new}
use Rattle.bits.proofs.matrix.mark_in.Goals as goal

pub returns-clause-by_index : goal.returns-clause-by_index
returns-clause-by_index c = λ keys q h w. (mark_new _ _ _ _ h c.requires.1 c.with_bit-after.ensures q w, matrix_marked _ _ _ _ h c.requires.1 c.with_bit-after.ensures q w)
