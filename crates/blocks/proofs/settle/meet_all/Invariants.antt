-- `meet_all`: the facts before a place are met.
use Rattle.blocks.proofs.LanesFired.{Meeting}
use Rattle.blocks.proofs.settle.meet_all.Given as goal

abbrev pub invariant-loop-fact : goal.invariant-loop-fact
invariant-loop-fact l = Meeting l.part l.words l.initial.body l.body l.fact-index
