-- `look_at_constraints`: what was found among the constraints passed.
use mathlib.Core.Bool.{true}
use mathlib.Core.List.{reverse}
use Rattle.tables.specs.Held.{held}
use Rattle.components.specs.Open.{nowhere}
use Rattle.components.proofs.RuleLooked.{Looking}
use Rattle.components.proofs.look.look_at_constraints.Given as goal

abbrev pub invariant-loop-at : goal.invariant-loop-at
invariant-loop-at l = Looking (held l.tables) true (reverse l.own) l.seen l.ranks l.at nowhere l.high
