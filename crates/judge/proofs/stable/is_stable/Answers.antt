-- `is_stable`: the index of the rules that are not listed, what is derived with the absent facts held out, and whether the two sets have the same facts.
use mathlib.Core.Path.{◌∙◌}
use native.Mathlib.Omega.{arith}
use Rattle.tables.specs.Held.{held}
use Rattle.tables.proofs.ProgramHeld.{facts_below}
use Rattle.judge.proofs.LeastTested.{tested}
use Rattle.judge.proofs.stable.is_stable.Goals as goal

pub overflow_cast-facts : goal.overflow_cast-facts
overflow_cast-facts c = omega (arith, c.facts-facts.ensures, facts_below c.args.tables.now.well_formed)

pub returns : goal.returns
returns c = let w = c.args.tables.now.well_formed in
    c.same_facts.ensures
    ∙ tested (held c.args.tables.now) w.in_bounds (omega (arith, facts_below w)) c.index_rules.new.index c.args.set.now c.hold_none.new.marks c.hold_absent.new.marks c.hold_absent.new.missing c.hold_absent.ensures.settled_2 c.hold_none.ensures.held_too c.hold_absent.ensures.held_too _ c.index_rules.ensures.left_out _ c.facts-facts.ensures
