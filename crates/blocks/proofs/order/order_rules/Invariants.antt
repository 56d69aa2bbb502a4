-- `order_rules`: pass after pass, until one lists no rule; then all that are left.
use Prim.Native.Nat.{◌-◌}
use mathlib.Core.Path.{◌≡◌}
use lib.ListN.{length}
use Rattle.tables.specs.Held.{held}
use Rattle.items.specs.Item.{narrow, max_facts, max_rules}
use Rattle.blocks.specs.Order.{Placing}
use Rattle.blocks.proofs.order.order_rules.Given as goal

abbrev pub invariant-loop-n : goal.invariant-loop-n
invariant-loop-n l = Placing (held l.tables) l.listed l.order l.n × (length l.set ≡ max_facts narrow)

abbrev pub decreases-loop-n : goal.decreases-loop-n
decreases-loop-n l = max_rules - l.n
