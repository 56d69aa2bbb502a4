-- `rules`: the count stands in its cell.
use mathlib.Core.Path.{sym, ◌∙◌}
use Rattle.tables.proofs.ProgramHeld.{rules-held}
use Rattle.tables.proofs.layout.Tables.rules.Goals as goal

pub returns : goal.returns
returns c = c.wide.ensures ∙ sym (rules-held _)
