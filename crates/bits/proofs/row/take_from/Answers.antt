-- `take_from`: the first word that is not 0 has the lowest bit.
use Rattle.bits.proofs.RowTaken.{behind-falls, behind-taken}
use Rattle.bits.proofs.row.take_from.Goals as goal

pub returns-clause-falls : goal.returns-clause-falls
returns-clause-falls c = behind-falls _ _ _ _ c.take_behind.ensures

pub returns-clause-by_index : goal.returns-clause-by_index
returns-clause-by_index c = behind-taken _ _ _ _ c.take_behind.ensures c.requires
