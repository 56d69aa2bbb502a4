-- `index_row`: the rules at the places before are indexed.
use Rattle.tables.specs.Held.{held}
use Rattle.premises.specs.Premises.{in_row}
use Rattle.premises.specs.Filling.{Indexing}
use Rattle.premises.proofs.fill.index_row.Given as goal

abbrev pub invariant-loop-place : goal.invariant-loop-place
invariant-loop-place l = Indexing (held l.tables) (in_row l.row) l.place l.asks l.missing l.awake
