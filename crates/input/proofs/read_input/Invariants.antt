-- `read_input`: what has been read lies inside the room, and each piece leaves less of it.
use Prim.Native.Nat.{◌-◌, ◌≤◌}
use lib.ListN.{length}
use Rattle.input.proofs.read_input.Given as goal

abbrev pub invariant-loop-have : goal.invariant-loop-have
invariant-loop-have g l = l.have ≤ length l.room

abbrev pub decreases-loop-have : goal.decreases-loop-have
decreases-loop-have g l = length l.room - l.have
