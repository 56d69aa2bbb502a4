-- `lowest_ready`: what waits from here on finds what all that waited find.
use Rattle.tables.specs.Held.{held}
use Rattle.items.specs.Item.{has}
use Rattle.bits.specs.Flags.{total}
use Rattle.premises.specs.Plain.{mask_in}
use Rattle.closure.specs.Deriving.{Waits}
use Rattle.closure.proofs.least.lowest_ready.Given as goal

abbrev pub invariant-loop-number : goal.invariant-loop-number
invariant-loop-number l = Waits (held l.tables) (mask_in l.index) (has l.set) (has l.set) l.ready

abbrev pub decreases-loop-number : goal.decreases-loop-number
decreases-loop-number l = total l.ready
