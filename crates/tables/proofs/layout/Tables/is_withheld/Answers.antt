-- `is_withheld`: its mark stands in the table.
use native.Mathlib.Omega.{arith}
use Rattle.tables.proofs.ProgramHeld.{in_table, withheld-marked}
use Rattle.tables.proofs.layout.Tables.is_withheld.Goals as goal

pub bounds-self-number : goal.bounds-self-number
bounds-self-number c = omega (arith, in_table c.args.self.now.well_formed c.requires)

pub returns : goal.returns
returns c = withheld-marked c.args.self.now.well_formed c.requires
