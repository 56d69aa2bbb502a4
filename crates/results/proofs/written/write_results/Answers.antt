-- `write_results`: each part is written by its own function.
use native.Mathlib.Omega.{arith}
use Rattle.tables.proofs.ProgramHeld.{facts_below}
use Rattle.results.proofs.written.write_results.Goals as goal

pub write_fact_marks-requires : goal.write_fact_marks-requires
write_fact_marks-requires c = let same = c.facts-facts.ensures in
    (omega (arith, same, facts_below c.args.tables.now.well_formed), omega (arith, same, c.requires.writable.facts_fit))

pub write_steps-requires : goal.write_steps-requires
write_steps-requires c = record {
  steps_fit = c.requires.writable.steps_fit;
  by_index = c.requires.writable.known;
}

pub returns : goal.returns
returns c = record {
  fact_marks_after = λ s d r. c.write_fact_marks.ensures _ s c.facts-facts.ensures d r;
  rule_marks_after = λ s d a. c.write_rule_marks.ensures s a d;
  steps_after = c.write_steps.ensures;
}
