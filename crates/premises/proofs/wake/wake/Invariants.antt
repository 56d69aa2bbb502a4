-- `wake`: the rules to come from here give what all give from the start.
use Rattle.tables.specs.Held.{held}
use Rattle.premises.proofs.FactsEntered.{Waking}
use Rattle.premises.proofs.wake.wake.Given as goal

abbrev pub invariant-loop-rule : goal.invariant-loop-rule
invariant-loop-rule l = Waking (held l.tables) l.fired l.asks l.initial.missing l.initial.awake l.missing l.awake l.rule-index
