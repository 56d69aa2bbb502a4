-- `meet`: word by word.
use Rattle.lanes.proofs.WordsMet.{Meeting}
use Rattle.lanes.proofs.words.meet.Given as goal

abbrev pub invariant-loop-w : goal.invariant-loop-w
invariant-loop-w l = Meeting l.fact l.words l.initial.body l.body l.w
