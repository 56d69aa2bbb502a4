-- `write_order`: the rules are written by their groups.
use Prim.Native.Nat.{ℕ}
use mathlib.Core.Path.{◌≡◌, ap}
use mathlib.Core.List.{List}
use native.Mathlib.Omega.{arith}
use lib.ListN.{length}
use Rattle.tables.specs.Held.{held}
use Rattle.theory.specs.Rule.{in_force}
use Rattle.theory.specs.Stable.{order_groups, order_for}
use Rattle.items.specs.Item.{has}
use Rattle.questions.specs.Questions.{naming}
use Rattle.tables.proofs.ProgramHeld.{rules-below}
use Rattle.orders.specs.Keys.{keyed_row}
use Rattle.orders.proofs.OrderGroups.{order-width, order-listed}
use Rattle.orders.proofs.written.write_order.Goals as goal
use Rattle.orders.proofs.written.write_order.Goals.{After-rules}

-- what is listed
listed : (c : After-rules) → keyed_row c.groups_of-groups.result c.rules.result order_groups ≡ order_for (held c.args.tables.now) (in_force (held c.args.tables.now)) (has c.args.set.now)
listed c = order-listed _ _ _ _ c.rules.ensures c.groups_of-groups.ensures

pub write_by_key-requires : goal.write_by_key-requires
write_by_key-requires c =
    record {
      count_le_max_rules = (omega (arith, c.rules.ensures, rules-below c.args.tables.now.well_formed), omega arith);
      levels_in_bounds = omega (arith, ap (λ (l : List ℕ). length (naming l)) (listed (goal.at.write_by_key-requires c).After-rules), order-width (held c.args.tables.now) (has c.args.set.now), c.requires);
    }

pub returns : goal.returns
returns c = rw (← listed (goal.at.returns c).After-rules) c.write_by_key.ensures
