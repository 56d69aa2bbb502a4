-- `put_order`: the plain rules are marked, and the others named.
use mathlib.Core.Path.{◌≡◌}
use native.Mathlib.Omega.{arith}
use Rattle.tables.specs.Held.{held}
use Rattle.tables.proofs.ProgramHeld.{rules-below}
use Rattle.panel_lines.specs.Text.{ascending}
use Rattle.theory.specs.Places.{places_marked}
use Rattle.panel_text.proofs.AscendingOrder.{unmarked_ascending}
use Rattle.panel_text.proofs.order.put_order.Goals as goal
use Rattle.panel_text.proofs.order.put_order.Goals.{After-rules}

-- what is not marked is what the order names
order_is : (c : After-rules) → places_marked 0 c.mark_plain.new.marks c.rules.result ≡ ascending (held c.args.tables.now)
order_is c = unmarked_ascending c.args.tables.now.well_formed _ c.mark_plain.ensures _ c.rules.ensures

pub write_names-requires : goal.write_names-requires
write_names-requires c = record {
  count_le_max_rules = omega (arith, c.rules.ensures, rules-below c.args.tables.now.well_formed);
  fits = rw (order_is (goal.at.write_names-requires c).After-rules) c.requires.fits;
}

pub returns : goal.returns
returns c = rw (order_is (goal.at.returns c).After-rules) at c.write_names.ensures
