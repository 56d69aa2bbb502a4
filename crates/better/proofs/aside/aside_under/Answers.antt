-- `aside_under`: the run in working memory, and the rules with mark 2 by what it left there.
use mathlib.Core.Path.{◌∙◌}
use native.Mathlib.Omega.{arith}
use Rattle.tables.specs.Held.{held}
use Rattle.theory.specs.Rule.{in_force}
use Rattle.theory.proofs.Better.{marked-aside}
use Rattle.tables.proofs.ProgramHeld.{facts_below}
use Rattle.questions.specs.Questions.{named_in}
use Rattle.run.proofs.MemoryShown.{outset-held}
use Rattle.better.proofs.aside.aside_under.Goals as goal

pub run_in_memory-requires : goal.run_in_memory-requires
run_in_memory-requires c = record {
  may_order = c.requires.may_order;
  held = outset-held _;
}

pub count_set_aside-requires : goal.count_set_aside-requires
count_set_aside-requires c = record {
  tables_in_bounds = omega (arith, facts_below c.args.tables.now.well_formed, c.run_in_memory.ensures.held_2.holds.marks_places);
}

pub returns : goal.returns
returns c = let ran = c.run_in_memory.ensures.held_2 in
    c.count_set_aside.ensures _ ran.applied_shown ran.holds.shows.d
    ∙ marked-aside (held c.args.tables.now) (in_force (held c.args.tables.now)) (named_in c.args.order.now)
