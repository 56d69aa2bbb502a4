-- `place`: it stands in the table.
use native.Mathlib.Omega.{arith}
use Rattle.tables.proofs.ProgramHeld.{in_table}
use Rattle.tables.proofs.layout.Tables.place.Goals as goal

pub bounds-self-number : goal.bounds-self-number
bounds-self-number c = omega (arith, in_table c.args.self.now.well_formed c.requires)
