-- `open_fact`: the cell of the new root is its place, with so much added where it was met by a constraint.
use mathlib.Core.Path.{◌≡◌}
use Rattle.components.proofs.FactOpened.{root_cell, fact-opened}
use Rattle.components.proofs.open.open_fact.Goals as goal
use Rattle.components.proofs.open.open_fact.Goals.{Joined-barring, then-barring, else-barring}

-- the cell, whichever way it came
cell : (c : Joined-barring) → c.if-barring.root ≡ root_cell c.args.barring c.args.standing.height
cell c = elim c.if-barring.branch [ then-barring w ↦ rw (w.root-is, w.if-barring.true) | else-barring w ↦ rw (w.root-is, w.if-barring.false) ]

pub returns : goal.returns
returns c = λ P w here known new may. rw (cell (goal.at.returns c).Joined-barring) (fact-opened w c.requires.height_bound.0 c.requires.height_bound.1 here _ known new _ may)
