-- `lower`: the bits to come from here give what all give from the start.
use Rattle.premises.proofs.CountsLowered.{WordLoweringAny}
use Rattle.premises.proofs.wake.lower.Given as goal

abbrev pub invariant-loop-left : goal.invariant-loop-left
invariant-loop-left l = WordLoweringAny l.at l.word l.initial.missing l.initial.awake l.left l.missing l.awake

abbrev pub decreases-loop-left : goal.decreases-loop-left
decreases-loop-left l = l.left
