-- `join_row`: word by word.
use Rattle.bits.proofs.RowJoined.{all-joined}
use Rattle.bits.proofs.matrix.join_row.Goals as goal

pub returns : goal.returns
returns c = all-joined c.loop-k.invariant c.loop-k-test.false
