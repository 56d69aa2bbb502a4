-- `all_stages`: between the stages the run stands where it goes on to its end.
use Prim.Native.Nat.{ℕ, ◌<◌}
use mathlib.Core.Path.{refl}
use native.Mathlib.Omega.{arith}
use lib.ListN.{length-replicate}
use Rattle.tables.specs.Held.{held}
use Rattle.items.specs.Item.{narrow, max_facts, max_rules}
use Rattle.tables.proofs.ProgramHeld.{facts_below, rules-below, in_table}
use Rattle.bits.specs.Matrix.{matrix_words}
use Rattle.premises.proofs.NextIndexed.{zeros_blank}
use Rattle.stage.specs.Look.{Taken}
use Rattle.run.proofs.StandsKept.{rules-listed, start-rules, standing_start, few_stages, stands, ended_held, ended-stages, rule_known, more-steps, stage-rules, standing_on, stage-closer}
use Rattle.run.proofs.stages.all_stages.Goals as goal
use Rattle.run.proofs.stages.all_stages.Goals.{In-Some, Start}

few_facts : (c : Start) → (held c.args.tables.now).facts < max_facts narrow
few_facts c = facts_below c.args.tables.now.well_formed

-- once a rule is taken
took : (c : In-Some) → Taken (held c.args.tables.now) c.args.row.now c.loop-rule.invariant.at c.loop-rule.count c.in-Some.field-0.rule.0 c.first_eligible.new.marks c.first_eligible.new.missing c.first_eligible.new.fired c.first_eligible.new.awake c.in-Some.field-0.steps
took c = rw c.in-Some.is at (c.first_eligible.ensures _ _ c.loop-rule.invariant.looking)

pub index_row-requires : goal.index_row-requires
index_row-requires c = (rules-listed c.requires.may_order, zeros_blank matrix_words (omega arith) _ (length-replicate {A = ℕ} max_rules 0))

pub begin-count-requires : goal.begin-count-requires
begin-count-requires c = let p = c.requires in
    record {
      zeroed = (record { zeros = refl }, length-replicate {A = ℕ} max_rules 0);
      holds = p.held.holds;
    }

pub shared_ref_as_front-wake : goal.shared_ref_as_front-wake
shared_ref_as_front-wake c = omega (arith, c.begin-count.ensures.holds.fits, few_facts (goal.at.shared_ref_as_front-wake c).Start)

pub wake-requires : goal.wake-requires
wake-requires c = start-rules (few_facts (goal.at.wake-requires c).Start) c.begin-count.ensures

pub loop-rule-init : goal.loop-rule-init
loop-rule-init c = let p = c.requires in let indexed = c.index_row.ensures in standing_start (few_facts (goal.at.loop-rule-init c).Start) c.begin-count.ensures c.args.tables.now.well_formed.in_bounds p.may_order.0 indexed.asked indexed.counted indexed.flags c.wake.ensures p.held.applied_shown p.held.applied_places

pub first_eligible-requires : goal.first_eligible-requires
first_eligible-requires c = let g = c.begin-count.ensures in
    record {
      plain_indexed = (g.indexed, g.in-force);
      stands = stands c.loop-rule.invariant;
    }

pub returns : goal.returns
returns c = let w = c.loop-rule.invariant in let ended = rw c.in_default.is at (c.first_eligible.ensures _ _ w.looking) in
    record {
      held_2 = ended_held w ended;
      stages_value = ended-stages w ended;
    }

pub slice_bounds-wake-end-in-Some : goal.slice_bounds-wake-end-in-Some
slice_bounds-wake-end-in-Some c =
    let few = few_facts (goal.at.slice_bounds-wake-end-in-Some c).Start in
    let taken = took (goal.at.slice_bounds-wake-end-in-Some c).In-Some in
    omega (arith, few, taken.holds.fits, more-steps c.loop-rule.invariant few taken)

pub wake-requires-in-Some : goal.wake-requires-in-Some
wake-requires-in-Some c = stage-rules c.loop-rule.invariant (few_facts (goal.at.wake-requires-in-Some c).Start) (took (goal.at.wake-requires-in-Some c).In-Some)

pub bounds-applied-from : goal.bounds-applied-from
bounds-applied-from c =
    let inside = in_table c.args.tables.now.well_formed (rule_known c.loop-rule.invariant (few_facts (goal.at.bounds-applied-from c).Start) (took (goal.at.bounds-applied-from c).In-Some)) in
    omega (arith, inside, c.from.ensures)

pub overflow_cast-result : goal.overflow_cast-result
overflow_cast-result c = omega (arith, c.loop-rule.invariant.looking.holds.fits, few_facts (goal.at.overflow_cast-result c).Start)

pub overflow_add-stages : goal.overflow_add-stages
overflow_add-stages c = omega (arith, few_stages c.loop-rule.invariant, few_facts (goal.at.overflow_add-stages c).Start)

pub loop-rule-smaller : goal.loop-rule-smaller
loop-rule-smaller c = stage-closer c.loop-rule.invariant (few_facts (goal.at.loop-rule-smaller c).Start) (took (goal.at.loop-rule-smaller c).In-Some) c.args.tables.now.well_formed.in_bounds (rules-below c.args.tables.now.well_formed) c.wake-in-Some.ensures

pub loop-rule-preserved : goal.loop-rule-preserved
loop-rule-preserved c = rw c.from.ensures (standing_on c.loop-rule.invariant (few_facts (goal.at.loop-rule-preserved c).Start) (took (goal.at.loop-rule-preserved c).In-Some) c.args.tables.now.well_formed.in_bounds (rules-below c.args.tables.now.well_formed) c.wake-in-Some.ensures)
