-- `run_tabled`: what the run leaves in memory is written.
use native.Mathlib.Omega.{arith}
use Rattle.tables.proofs.ProgramHeld.{facts_below}
use Rattle.run.proofs.Outcomes.{written_there}
use Rattle.run.proofs.MemoryShown.{outset-held}
use Rattle.run.proofs.StandsKept.{steps-there, fired-length, rules-known}
use Rattle.run.proofs.RunHeld.{may_write}
use Rattle.run.proofs.stages.run_tabled.Goals as goal

pub run_in_memory-taken-requires : goal.run_in_memory-taken-requires
run_in_memory-taken-requires c = let p = c.requires in
    record {
      may_order = p.may_run.order_fits;
      held = outset-held _;
    }

pub write_results-requires : goal.write_results-requires
write_results-requires c = let p = c.requires in
    let h = c.run_in_memory-taken.ensures.held_2.holds in
    let few = facts_below c.args.tables.now.well_formed in
    record {
      writable = rw c.from-count.ensures (may_write few h p.may_run _ (omega (arith, fired-length few h)) (rules-known few h));
    }

pub returns : goal.returns
returns c = let ran = c.run_in_memory-taken.ensures.held_2 in
    let counted = c.run_in_memory-taken.ensures.run_counted in
    let wrote = c.write_results.ensures in
    written_there _ _ _ _ _ _ _ _ _ _ counted.stages_counted counted.steps_counted
    (wrote.fact_marks_after _ ran.holds.shows.d ran.holds.shows.r)
    (wrote.rule_marks_after _ ran.holds.shows.d ran.applied_shown)
    (steps-there (facts_below c.args.tables.now.well_formed) ran.holds c.args.steps.now (rw c.from-count.ensures at wrote.steps_after))
