-- `list_ready`: the rules before a place are passed, and listed where they were ready.
use Prim.Native.Nat.{◌≤◌}
use mathlib.Core.Path.{◌≡◌}
use Rattle.tables.specs.Held.{held}
use Rattle.theory.specs.Rule.{count}
use Rattle.items.specs.Item.{max_rules}
use Rattle.blocks.proofs.RulesPlaced.{Passing}
use Rattle.blocks.proofs.order.list_ready.Given as goal

abbrev pub invariant-loop-i : goal.invariant-loop-i
invariant-loop-i l = record {
  end_is : l.i-end ≡ count (held l.tables);
  few : l.i-end ≤ max_rules;
  passed : Passing (held l.tables) l.initial.set l.n-2 l.set l.listed l.order l.n l.i;
}
