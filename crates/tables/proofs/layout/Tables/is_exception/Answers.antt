-- `is_exception`: it has a constraint.
use Rattle.tables.proofs.PartsHeld.{exception-is}
use Rattle.tables.proofs.layout.Tables.is_exception.Goals as goal

pub returns : goal.returns
returns c = exception-is _ _ _ c.requires c.constraints.ensures.elements
