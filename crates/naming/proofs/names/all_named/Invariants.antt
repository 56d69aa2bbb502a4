-- `all_named`: what is to come decides.
use Prim.Native.Nat.{◌-◌, ◌≤◌}
use mathlib.Core.Bool.{not, ◌||◌}
use Rattle.tables.specs.Held.{held}
use Rattle.theory.specs.Rule.{range, up_to, count, exception}
use Rattle.theory.proofs.ListWalks.{Decides}
use Rattle.items.specs.Item.{has}
use Rattle.naming.proofs.names.all_named.Given as goal

abbrev pub invariant-loop-i : goal.invariant-loop-i
invariant-loop-i l = (l.i ≤ l.rules) × Decides (λ j. not (exception (held l.tables) j) || has l.named j) (up_to (count (held l.tables))) (range l.i (l.rules - l.i))
