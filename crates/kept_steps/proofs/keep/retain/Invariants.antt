-- `retain`: the first cells hold the kept of the rules passed.
use Rattle.items.specs.Item.{has}
use Rattle.kept_steps.proofs.StepsRetained.{Retaining}
use Rattle.kept_steps.proofs.keep.retain.Given as goal

abbrev pub invariant-loop-k : goal.invariant-loop-k
invariant-loop-k l = Retaining (has l.kept) l.row l.out l.n l.k
