-- `join`: word by word; a lane is new where a word before and after differ.
use mathlib.Core.Path.{refl}
use Rattle.lanes.proofs.WordsJoined.{one_joined}
use Rattle.lanes.proofs.words.join.Goals as goal

pub loop-w-preserved : goal.loop-w-preserved
loop-w-preserved c = one_joined c.loop-w.invariant c.requires c.loop-w-test.true _ refl
