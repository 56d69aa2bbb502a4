-- `enter`: the words to come from here give what the row gives from the start.
use Rattle.premises.proofs.CountsLowered.{RowLowering}
use Rattle.premises.proofs.wake.enter.Given as goal

abbrev pub invariant-loop-at : goal.invariant-loop-at
invariant-loop-at l = RowLowering l.asks l.fact l.initial.missing l.initial.awake l.at l.missing l.awake
