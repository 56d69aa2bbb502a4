-- `order_rules`: pass after pass, until one lists no rule; then all that are left.
use mathlib.Core.Path.{refl}
use Rattle.tables.proofs.ProgramHeld.{facts_below, rules-below}
use Rattle.blocks.proofs.RulesPlaced.{few_listed, more-listed, none_listed, all_placed}
use Rattle.blocks.proofs.order.order_rules.Goals as goal

pub loop-n-init : goal.loop-n-init
loop-n-init c = (none_listed _ c.requires, refl)

pub loop-n-smaller : goal.loop-n-smaller
loop-n-smaller c = let told = c.list_ready-more.ensures.placing in
    more-listed told.0 (rules-below c.args.tables.now.well_formed) told.1 c.if-more-n.false

pub returns : goal.returns
returns c = let well_formed = c.args.tables.now.well_formed in
    record {
      upper_bound = few_listed c.list_ready.ensures.placing.0 (rules-below well_formed);
      in_order = all_placed well_formed.in_bounds (facts_below well_formed) (rules-below well_formed) c.list_ready.ensures.placing.0 c.list_ready.ensures.placed_ready;
    }
