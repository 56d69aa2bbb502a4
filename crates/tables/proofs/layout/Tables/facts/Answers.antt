-- `facts`: the count stands in its cell.
use mathlib.Core.Path.{sym, ◌∙◌}
use Rattle.tables.proofs.ProgramHeld.{facts-held}
use Rattle.tables.proofs.layout.Tables.facts.Goals as goal

pub returns : goal.returns
returns c = c.wide.ensures ∙ sym (facts-held _)
