-- `opener_at`: the cell tells it.
use Rattle.components.proofs.StackCells.{opener_told}
use Rattle.components.proofs.open.opener_at.Goals as goal

pub returns : goal.returns
returns c = rw c.wide.ensures (opener_told _ _)
