-- Both loops: the stand at entry is held at each turn, with the places still awake, and what is to come of a rule's constraints decides.
use mathlib.Core.Bool.{not}
use mathlib.Core.List.{reverse}
use Rattle.tables.specs.Held.{held}
use Rattle.items.specs.Item.{has}
use Rattle.tables.proofs.PartsHeld.{Tested}
use Rattle.bits.specs.Flags.{total}
use Rattle.stage.proofs.FirstFound.{Onward}
use Rattle.stage.proofs.eligible.first_eligible.Given as goal

abbrev pub invariant-loop-at : goal.invariant-loop-at
invariant-loop-at l = Tested (λ k. not (has l.marks k)) (reverse l.own) l.at

abbrev pub invariant-rules : goal.invariant-rules
invariant-rules l = Onward (held l.tables) l.row l.initial.marks l.initial.missing l.initial.fired l.count l.initial.awake l.marks l.missing l.fired l.awake

abbrev pub decreases-rules : goal.decreases-rules
decreases-rules l = total l.awake
