-- `fact_at`: the cell tells it.
use native.Mathlib.Omega.{arith}
use Rattle.components.proofs.StackCells.{fact-told}
use Rattle.components.proofs.open.fact_at.Goals as goal

pub returns : goal.returns
returns c = (rw c.wide.ensures (fact-told _ _), omega arith)
