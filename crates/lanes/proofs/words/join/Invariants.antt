-- `join`: word by word; a lane is new where a word before and after differ.
use Rattle.lanes.proofs.WordsJoined.{Joining}
use Rattle.lanes.proofs.words.join.Given as goal

abbrev pub invariant-loop-w : goal.invariant-loop-w
invariant-loop-w l = Joining l.fact l.body l.initial.words l.words l.new l.w
