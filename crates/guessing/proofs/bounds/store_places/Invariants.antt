-- `store_places`: what is stored behind the place at hand refutes, and each place at which the bounds agree gives one nogood more.
use Rattle.guessing.proofs.BoundsStored.{Storing}
use Rattle.guessing.proofs.bounds.store_places.Given as goal

abbrev pub invariant-loop-place : goal.invariant-loop-place
invariant-loop-place l = Storing l.places l.bounds.low l.bounds.high l.nogoods l.kept l.place
