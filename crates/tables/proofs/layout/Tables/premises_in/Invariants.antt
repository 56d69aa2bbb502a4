-- `premises_in`: what is to come decides what the whole does.
use Rattle.items.specs.Item.{has}
use Rattle.tables.proofs.PartsHeld.{Tested}
use Rattle.tables.proofs.layout.Tables.premises_in.Given as goal

abbrev pub invariant-loop-fact : goal.invariant-loop-fact
invariant-loop-fact l = Tested (has l.set) l.fact-items l.fact-index
