-- The program that tables hold.
use Rattle.theory.specs.Rule.{Program}
use Rattle.tables.specs.declared.layout.Tables.{Tables}
use Rattle.tables.specs.Layout.{program_in}

abbrev pub held : Tables → Program
held tables = program_in tables.cells
