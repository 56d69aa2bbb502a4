-- `look_at_constraints`: what was found among the constraints passed.
use Prim.Native.Nat.{◌<◌}
use mathlib.Core.Path.{◌∙◌}
use mathlib.Core.Bool.{true}
use native.Mathlib.Omega.{arith}
use Rattle.std.proofs.lemmas.List.{length-reverse}
use Rattle.tables.specs.Held.{held}
use Rattle.items.specs.Item.{narrow, max_facts}
use Rattle.tables.proofs.ProgramHeld.{facts_below}
use Rattle.components.specs.Open.{nowhere}
use Rattle.components.specs.Look.{Noted}
use Rattle.components.proofs.RuleLooked.{Element, element, constraints-owned_back, closed-noted, placeless_noted, no-more_found, all_found, above_found}
use Rattle.components.proofs.look.look_at_constraints.Goals as goal
use Rattle.components.proofs.look.look_at_constraints.Goals.{After-wide-fact, Joined-known, then-known+else-known-2+else-known-lt-PLACES, else-known, then-high-above, else-high-above}

-- the fact read is a constraint
constraint : (c : After-wide-fact) → Element (held c.args.tables.now) c.args.rule.0 true c.wide-fact.result
constraint c =
    element
    (constraints-owned_back _ _ _ c.constraints-own.ensures.elements c.constraints-own.ensures.facts_below)
    _ (omega (arith, length-reverse c.constraints-own.result.now, c.loop-at-test.true)) _ (c.wide-fact.ensures ∙ c.in_file_order-constraint.ensures)

small : (c : After-wide-fact) → c.wide-fact.result < max_facts narrow
small c = omega (arith, (constraint c).known, facts_below c.args.tables.now.well_formed)

-- it was met and is not open
noted : (c : Joined-known) → Noted true c.args.seen.now nowhere c.wide-fact.result
noted c =
    elim c.if-known.branch [
      | then-known+else-known-2+else-known-lt-PLACES w ↦ placeless_noted w.if-known-2.false w.if-known-lt-PLACES.false
      | else-known w ↦ closed-noted w.if-known.false
    ]

pub bounds-seen-fact : goal.bounds-seen-fact
bounds-seen-fact c = small (goal.at.bounds-seen-fact c).After-wide-fact

pub returns-then-known-2 : goal.returns-then-known-2
returns-then-known-2 c = rw (← c.wide-fact.ensures) ((constraint (goal.at.returns-then-known-2 c).After-wide-fact).names, ((constraint (goal.at.returns-then-known-2 c).After-wide-fact).known, c.if-known-2.true))

pub returns-then-known-lt-PLACES : goal.returns-then-known-lt-PLACES
returns-then-known-lt-PLACES c = (_, ((constraint (goal.at.returns-then-known-lt-PLACES c).After-wide-fact).names, ((constraint (goal.at.returns-then-known-lt-PLACES c).After-wide-fact).known, c.if-known-lt-PLACES.true)))

pub loop-at-preserved : goal.loop-at-preserved
loop-at-preserved c = let inv = c.loop-at.invariant in
    let seen-so = noted (goal.at.loop-at-preserved c).Joined-known in
    elim c.if-high-above.branch [
      | then-high-above w ↦ rw w.high-is (above_found inv (omega (arith, length-reverse c.constraints-own.result.now, c.loop-at-test.true)) _ (c.wide-fact.ensures ∙ c.in_file_order-constraint.ensures) c.requires.ranks_so_far seen-so w.if-high-above.true)
      | else-high-above w ↦ rw w.high-is (no-more_found inv _ (c.wide-fact.ensures ∙ c.in_file_order-constraint.ensures) seen-so w.if-high-above.false)
    ]

pub returns : goal.returns
returns c = all_found c.loop-at.invariant (omega (arith, length-reverse c.constraints-own.result.now, c.loop-at-test.false)) _ c.requires.rule_known c.requires.rule_value (constraints-owned_back _ _ _ c.constraints-own.ensures.elements c.constraints-own.ensures.facts_below)
