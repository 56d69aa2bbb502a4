-- `wake`: the rules to come from here give what all give from the start.
use Prim.Native.Nat.{◌<◌}
use mathlib.Core.Path.{◌≡◌, ap, ◌∙◌}
use native.Mathlib.Omega.{arith}
use lib.ListN.{get_or}
use Rattle.tables.specs.Held.{held}
use Rattle.theory.specs.Rule.{rule}
use Rattle.items.specs.Item.{narrow, max_facts}
use Rattle.items.specs.declared.item.FactId.{FactId}
use Rattle.tables.proofs.ProgramHeld.{facts_below, conclusion_below}
use Rattle.premises.proofs.FactsEntered.{rule_known, one_entered, all-entered}
use Rattle.premises.proofs.wake.wake.Goals as goal
use Rattle.premises.proofs.wake.wake.Goals.{After-from-number}

-- the fact that enters is the rule's conclusion, a fact of the program
number_is : (c : After-from-number) → c.from-number.result ≡ (rule (held c.args.tables.now) (get_or c.args.fired.now c.loop-rule.rule-index 0)).conclusion
number_is c = c.from-number.ensures ∙ ap (λ (f : FactId). f.0) c.conclusion-fact.ensures

small : (c : After-from-number) → c.from-number.result < max_facts narrow
small c =
    let w = c.args.tables.now.well_formed in
    omega (arith, number_is c, conclusion_below w (rule_known w.in_bounds c.loop-rule.invariant c.loop-rule-test.true), facts_below w)

pub enter-requires : goal.enter-requires
enter-requires c = omega (arith, small (goal.at.enter-requires c).After-from-number)

pub loop-rule-preserved : goal.loop-rule-preserved
loop-rule-preserved c = one_entered c.args.tables.now.well_formed.in_bounds c.loop-rule.invariant c.loop-rule-test.true _ (number_is (goal.at.loop-rule-preserved c).After-from-number) (small (goal.at.loop-rule-preserved c).After-from-number) c.enter.ensures

pub returns : goal.returns
returns c = all-entered c.args.tables.now.well_formed.in_bounds c.loop-rule.invariant c.loop-rule-test.false
