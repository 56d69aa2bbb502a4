-- `keep_step` and `keep_premises`: keeping a step keeps the steps of its rule's premises, which stand before it. The place of the step falls.
use Prim.Native.Nat.{◌+◌, ◌*◌}
use Rattle.tables.specs.Held.{held}
use Rattle.kept_steps.specs.Keep.{steps_by}
use Rattle.kept_steps.proofs.KeepLaws.{Asking}
use Rattle.kept_steps.proofs.keep.+keep_premises_keep_step.Given as goal

abbrev pub decreases-keep_premises : goal.decreases-keep_premises
decreases-keep_premises l = l.k * 2

abbrev pub decreases-keep_step : goal.decreases-keep_step
decreases-keep_step l = l.k * 2 + 1

abbrev pub invariant-keep_premises-loop-fact : goal.invariant-keep_premises-loop-fact
invariant-keep_premises-loop-fact l = Asking (held l.tables) (steps_by (held l.tables) l.row) l.places l.fact-items l.initial.kept l.kept l.fact-index
