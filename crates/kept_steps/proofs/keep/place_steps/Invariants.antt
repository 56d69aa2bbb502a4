-- `place_steps`: the facts of the steps passed have their places.
use Rattle.tables.specs.Held.{held}
use Rattle.kept_steps.proofs.StepsPlaced.{Placing}
use Rattle.kept_steps.proofs.keep.place_steps.Given as goal

abbrev pub invariant-loop-k : goal.invariant-loop-k
invariant-loop-k l = Placing (held l.tables) l.row l.places l.k
