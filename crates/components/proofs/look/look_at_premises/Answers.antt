-- `look_at_premises`: what was found among the premises passed.
use Prim.Native.Nat.{◌<◌}
use mathlib.Core.Bool.{false}
use native.Mathlib.Omega.{arith}
use Rattle.tables.specs.Held.{held}
use Rattle.items.specs.Item.{narrow, max_facts}
use Rattle.tables.proofs.ProgramHeld.{facts_below}
use Rattle.components.specs.Look.{Noted}
use Rattle.components.proofs.RuleLooked.{Element, element, premises-owned, closed-noted, placeless_noted, open_noted, Looking, no-more_found, all_found, place_found, rank_found}
use Rattle.components.proofs.look.look_at_premises.Goals as goal
use Rattle.components.proofs.look.look_at_premises.Goals.{After-wide-fact, Joined-known, then-known+else-known-2+then-known-lt-PLACES+then-known-low, then-known+else-known-2+then-known-lt-PLACES+else-known-low, then-known+else-known-2+else-known-lt-PLACES, else-known, then-high-rank, else-high-rank}

-- the fact read is a premise
premise : (c : After-wide-fact) → Element (held c.args.tables.now) c.args.rule.0 false c.wide-fact.result
premise c = element (premises-owned _ _ c.premises-premise-items.ensures.elements c.premises-premise-items.ensures.facts_below) _ c.loop-premise-test.true _ c.wide-fact.ensures

small : (c : After-wide-fact) → c.wide-fact.result < max_facts narrow
small c = omega (arith, (premise c).known, facts_below c.args.tables.now.well_formed)

-- the lowest place so far, with this fact's
placed : (c : Joined-known) → Noted false c.args.seen.now c.if-known.low c.wide-fact.result × Looking (held c.args.tables.now) false c.premises-premise-items.result.now c.args.seen.now c.args.ranks.now c.loop-premise.premise-index c.if-known.low c.loop-premise.high
placed c =
    let inv = c.loop-premise.invariant in
    elim c.if-known.branch [
      | then-known+else-known-2+then-known-lt-PLACES+then-known-low w ↦
          rw w.low-is (open_noted (omega arith) w.if-known-lt-PLACES.true, place_found inv c.loop-premise-test.true _ c.wide-fact.ensures w.if-known-lt-PLACES.true w.if-known-low.true)
      | then-known+else-known-2+then-known-lt-PLACES+else-known-low w ↦ rw w.low-is (open_noted w.if-known-low.false w.if-known-lt-PLACES.true, inv)
      | then-known+else-known-2+else-known-lt-PLACES w ↦ rw w.low-is (placeless_noted w.if-known-2.false w.if-known-lt-PLACES.false, inv)
      | else-known w ↦ rw w.low-is (closed-noted w.if-known.false, inv)
    ]

pub bounds-seen-fact : goal.bounds-seen-fact
bounds-seen-fact c = small (goal.at.bounds-seen-fact c).After-wide-fact

pub bounds-ranks-fact : goal.bounds-ranks-fact
bounds-ranks-fact c = small (goal.at.bounds-ranks-fact c).After-wide-fact

pub loop-premise-preserved : goal.loop-premise-preserved
loop-premise-preserved c = let (noted, looking) = placed (goal.at.loop-premise-preserved c).Joined-known in
    elim c.if-high-rank.branch [
      | then-high-rank w ↦ rw w.high-is (rank_found looking c.loop-premise-test.true _ c.wide-fact.ensures c.requires.ranks_so_far noted w.if-high-rank.true)
      | else-high-rank w ↦ rw w.high-is (no-more_found looking _ c.wide-fact.ensures noted (omega (arith, w.if-high-rank.false)))
    ]

pub returns : goal.returns
returns c = all_found c.loop-premise.invariant c.loop-premise-test.false _ c.requires.rule_known c.requires.rule_value (premises-owned _ _ c.premises-premise-items.ensures.elements c.premises-premise-items.ensures.facts_below)
