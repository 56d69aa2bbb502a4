-- `conclusion`: it stands in the table.
use mathlib.Core.Path.{sym, ap}
use native.Mathlib.Omega.{arith}
use Rattle.items.specs.Item.{fact_id}
use Rattle.tables.specs.Layout.{rule_in}
use Rattle.tables.proofs.ProgramHeld.{in_table}
use Rattle.tables.proofs.PartsHeld.{conclusion_is}
use Rattle.tables.proofs.layout.Tables.conclusion.Goals as goal

pub bounds-self-number : goal.bounds-self-number
bounds-self-number c = omega (arith, in_table c.args.self.now.well_formed c.requires)

pub returns : goal.returns
unfolding rule_in
returns c = ap fact_id (sym (conclusion_is c.args.self.now.well_formed c.requires))
