-- `empty`: the program has no rule.
use mathlib.Core.Path.{refl}
use Rattle.tables.proofs.EmptyHeld.{empty_well_formed}
use Rattle.tables.proofs.layout.Tables.empty.Goals as goal

pub invariant_of-result : goal.invariant_of-result
invariant_of-result c = record { well_formed = empty_well_formed _ refl refl }
