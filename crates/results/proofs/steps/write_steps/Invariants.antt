-- `write_steps`: the steps of the rules passed are written.
use Rattle.tables.specs.Held.{held}
use Rattle.results.proofs.StepsWritten.{Writing}
use Rattle.results.proofs.steps.write_steps.Given as goal

abbrev pub invariant-loop-k : goal.invariant-loop-k
invariant-loop-k l = Writing (held l.tables) l.fired l.initial.out l.out l.k
