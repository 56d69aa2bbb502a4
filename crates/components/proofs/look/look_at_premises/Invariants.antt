-- `look_at_premises`: what was found among the premises passed.
use mathlib.Core.Bool.{false}
use Rattle.tables.specs.Held.{held}
use Rattle.components.proofs.RuleLooked.{Looking}
use Rattle.components.proofs.look.look_at_premises.Given as goal

abbrev pub invariant-loop-premise : goal.invariant-loop-premise
invariant-loop-premise l = Looking (held l.tables) false l.premise-items l.seen l.ranks l.premise-index l.low l.high
