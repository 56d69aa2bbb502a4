-- `derive`: what is to come from here gives what the whole gives; each turn leaves fewer facts missing.
use Rattle.tables.specs.Held.{held}
use Rattle.theory.proofs.Derive.{missing as missing_facts}
use Rattle.items.specs.Item.{has}
use Rattle.premises.specs.Plain.{mask_in}
use Rattle.closure.specs.Deriving.{Poised, Deriving}
use Rattle.closure.proofs.least.derive.Given as goal

abbrev pub invariant-loop-to : goal.invariant-loop-to
invariant-loop-to l = Deriving (held l.tables) (mask_in l.index) l.initial.marks l.initial.fired l.at l.marks l.fired l.to × Poised (held l.tables) (mask_in l.index) (has l.marks) l.missing l.ready

abbrev pub decreases-loop-to : goal.decreases-loop-to
decreases-loop-to l = missing_facts (held l.tables).facts (has l.marks)
