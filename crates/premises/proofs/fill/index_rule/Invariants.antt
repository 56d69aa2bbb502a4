-- `index_rule`: the premises before a place are marked, and the last of them is known.
use Prim.Native.Nat.{◌<◌}
use mathlib.Core.Path.{◌≡◌}
use mathlib.Core.Bool.{true}
use lib.ListN.{take}
use Rattle.theory.specs.Rule.{mem}
use Rattle.bits.specs.Matrix.{matrix_words}
use Rattle.tables.specs.Held.{held}
use Rattle.premises.proofs.PremisesEntered.{Entering}
use Rattle.premises.proofs.fill.index_rule.Given as goal

abbrev pub invariant-loop-premise : goal.invariant-loop-premise
invariant-loop-premise l = Entering (held l.tables).facts matrix_words l.premise-items l.place l.initial.asks l.asks l.distinct l.premise-index × (l.last < (held l.tables).facts → mem l.last (take l.premise-index l.premise-items) ≡ true)
