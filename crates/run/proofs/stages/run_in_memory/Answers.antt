-- `run_in_memory`: the order is read into a row, and the stages are taken along it.
use mathlib.Core.Path.{◌≡◌}
use Rattle.tables.specs.Held.{held}
use Rattle.theory.specs.Run.{stage_count}
use Rattle.run.specs.Stands.{run_in, Held}
use Rattle.run.proofs.RunHeld.{run-counted}
use Rattle.run.proofs.stages.run_in_memory.Goals as goal

pub all_stages-requires : goal.all_stages-requires
all_stages-requires c = let p = c.requires in
    record {
      may_order = rw c.order_row-names.ensures.row_after p.may_order;
      held = p.held;
    }

pub returns : goal.returns
returns c = let holds : Held (held c.args.tables.now) (run_in c.args.tables.now.cells c.args.order.now) c.all_stages.new.marks c.all_stages.new.fired c.all_stages.new.applied c.all_stages.result.steps = rw c.order_row-names.ensures.row_after at c.all_stages.ensures.held_2 in
    let staged : c.all_stages.result.stages ≡ stage_count (run_in c.args.tables.now.cells c.args.order.now) = rw c.order_row-names.ensures.row_after at c.all_stages.ensures.stages_value in
    record {
      held_2 = holds;
      run_counted = run-counted c.args.tables.now.well_formed _ holds staged;
    }
