-- `index_next`: the premises of one rule more are marked and counted.
use native.Mathlib.Omega.{arith}
use Rattle.tables.specs.Held.{held}
use Rattle.items.specs.Item.{narrow, max_facts}
use Rattle.tables.proofs.ProgramHeld.{facts_below}
use Rattle.premises.proofs.NextIndexed.{at-holder, none_there, awake_indexed, asleep_indexed}
use Rattle.premises.proofs.fill.index_next.Goals as goal

pub returns-then-distinct-eq0 : goal.returns-then-distinct-eq0
returns-then-distinct-eq0 c = let p = c.requires in
    record {
      indexing = λ R t e w. awake_indexed w c.args.tables.now.well_formed.in_bounds p.1 t (at-holder (held c.args.tables.now) R e (c.index_rule-distinct.ensures.by_index (max_facts narrow) _ _ (omega arith) (omega (arith, facts_below c.args.tables.now.well_formed)) w.asked (none_there w c.args.tables.now.well_formed.in_bounds p.1 t))) c.if-distinct-eq0.true _ c.mark.ensures;
      same_from = c.index_rule-distinct.ensures.same_from;
    }

pub returns-else-distinct-eq0 : goal.returns-else-distinct-eq0
returns-else-distinct-eq0 c = let p = c.requires in
    record {
      indexing = λ R t e w. asleep_indexed w c.args.tables.now.well_formed.in_bounds p.1 t (at-holder (held c.args.tables.now) R e (c.index_rule-distinct.ensures.by_index (max_facts narrow) _ _ (omega arith) (omega (arith, facts_below c.args.tables.now.well_formed)) w.asked (none_there w c.args.tables.now.well_formed.in_bounds p.1 t))) c.if-distinct-eq0.false;
      same_from = c.index_rule-distinct.ensures.same_from;
    }
