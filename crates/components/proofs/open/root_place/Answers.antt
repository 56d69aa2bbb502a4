-- `root_place`: the cell, or what it has above the places.
use mathlib.Core.Path.{sym, ◌∙◌}
use Rattle.components.proofs.FactOpened.{low_place, high_place}
use Rattle.components.proofs.open.root_place.Goals as goal

pub returns-then-cell-lt-BARRED : goal.returns-then-cell-lt-BARRED
returns-then-cell-lt-BARRED c = c.wide.ensures ∙ sym (low_place c.args.roots.now c.args.root c.if-cell-lt-BARRED.true)

pub returns : goal.returns
returns c = c.wide-2.ensures ∙ sym (high_place c.args.roots.now c.args.root c.if-cell-lt-BARRED.false)
