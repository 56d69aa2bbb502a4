-- `enter_set`: the facts before a number have entered.
use Rattle.tables.specs.Held.{held}
use Rattle.items.specs.Item.{has}
use Rattle.premises.proofs.SetEntered.{SetEntering}
use Rattle.premises.proofs.wake.enter_set.Given as goal

abbrev pub invariant-loop-f : goal.invariant-loop-f
invariant-loop-f l = SetEntering (held l.tables) (has l.set) l.asks l.initial.missing l.initial.awake l.f l.missing l.awake
