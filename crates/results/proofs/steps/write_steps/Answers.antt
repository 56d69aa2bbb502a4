-- `write_steps`: the steps of the rules passed are written.
use Prim.Native.Nat.{◌<◌}
use mathlib.Core.Path.{◌≡◌, refl, ap}
use native.Mathlib.Omega.{arith}
use lib.ListN.{get_or}
use Rattle.tables.specs.Held.{held}
use Rattle.theory.specs.Rule.{count, rule}
use Rattle.items.specs.declared.item.FactId.{FactId}
use Rattle.tables.proofs.ProgramHeld.{facts_below, conclusion_below}
use Rattle.results.proofs.StepsWritten.{none_written, all-written, one_written}
use Rattle.results.proofs.steps.write_steps.Goals as goal
use Rattle.results.proofs.steps.write_steps.Goals.{After-conclusion-fact, In-loop-k}

-- the rule whose step is next
known : (c : In-loop-k) → get_or c.args.fired.now c.loop-k.k 0 < count (held c.args.tables.now)
known c = c.requires.by_index _ c.loop-k-test.true

concluded : (c : After-conclusion-fact) → c.conclusion-fact.result.0 ≡ (rule (held c.args.tables.now) (get_or c.args.fired.now c.loop-k.k 0)).conclusion
concluded c = ap (λ (f : FactId). f.0) c.conclusion-fact.ensures

pub loop-k-init : goal.loop-k-init
loop-k-init c = none_written _ _ _

pub conclusion-fact-requires : goal.conclusion-fact-requires
conclusion-fact-requires c = known (goal.at.conclusion-fact-requires c).In-loop-k

pub write_step_item-requires : goal.write_step_item-requires
write_step_item-requires c =
    let at = goal.at.write_step_item-requires c in
    (omega (arith, concluded at.After-conclusion-fact, conclusion_below c.args.tables.now.well_formed (known at.In-loop-k), facts_below c.args.tables.now.well_formed), omega (arith, c.loop-k.invariant.length_kept))

pub loop-k-preserved : goal.loop-k-preserved
loop-k-preserved c = one_written c.loop-k.invariant c.loop-k-test.true _ _ refl (concluded (goal.at.loop-k-preserved c).After-conclusion-fact) _ c.write_step_item.ensures c.write_step_item.auto.out

pub returns : goal.returns
returns c = all-written c.loop-k.invariant c.loop-k-test.false
