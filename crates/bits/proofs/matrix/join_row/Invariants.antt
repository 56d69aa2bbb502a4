-- `join_row`: word by word.
use Rattle.bits.proofs.RowJoined.{Joining}
use Rattle.bits.proofs.matrix.join_row.Given as goal

abbrev pub invariant-loop-k : goal.invariant-loop-k
invariant-loop-k l = Joining l.matrix l.key l.initial.row l.row l.k
