-- `is_barred`: the cell tells it.
use Rattle.components.proofs.FactOpened.{barred-told}
use Rattle.components.proofs.open.is_barred.Goals as goal

pub returns : goal.returns
returns c = barred-told c.args.roots.now c.args.root
