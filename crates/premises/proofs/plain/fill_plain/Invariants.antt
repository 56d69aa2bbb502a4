-- `fill_plain`: the plain rules before a number are indexed.
use Rattle.tables.specs.Held.{held}
use Rattle.bits.specs.Matrix.{matrix_words, SameFrom}
use Rattle.premises.specs.Premises.{plain_ones}
use Rattle.premises.specs.Filling.{Indexing}
use Rattle.premises.proofs.plain.fill_plain.Given as goal

abbrev pub invariant-loop-i : goal.invariant-loop-i
invariant-loop-i l = SameFrom matrix_words l.initial.index l.index × Indexing (held l.tables) (plain_ones (held l.tables)) l.i l.index l.missing l.ready
