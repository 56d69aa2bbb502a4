-- `all_stages`: between the stages the run stands where it goes on to its end.
use Prim.Native.Nat.{◌-◌}
use Rattle.tables.specs.Held.{held}
use Rattle.run.proofs.StandsKept.{Standing}
use Rattle.run.proofs.stages.all_stages.Given as goal

abbrev pub invariant-loop-rule : goal.invariant-loop-rule
invariant-loop-rule l = Standing (held l.tables) l.row l.asks l.marks l.missing l.fired l.applied l.lacks l.awake l.stages l.count

abbrev pub decreases-loop-rule : goal.decreases-loop-rule
decreases-loop-rule l = (held l.tables).facts - l.count
