-- `put_run`: the run may be made in ascending order, and what it leaves gives the lines.
use Prim.Native.Nat.{◌≤◌}
use mathlib.Core.Path.{sym}
use native.Mathlib.Omega.{arith}
use lib.ListN.{length}
use lib.Seq.{length-take-le}
use Rattle.tables.specs.Held.{held}
use Rattle.theory.specs.Rule.{in_force}
use Rattle.theory.specs.Run.{run}
use Rattle.tables.proofs.ProgramHeld.{rules-below}
use Rattle.panel_lines.specs.Text.{ascending}
use Rattle.questions.proofs.BytesPut.{put_inside}
use Rattle.panel_text.proofs.TextShown.{front-text}
use Rattle.panel_text.proofs.Lengths.{ascending-fits, text_fits}
use Rattle.panel_text.proofs.RunLines.{RunEnded, ascending-may_run, ran-through, facts-inside, rules-inside, steps-inside, left-lines}
use Rattle.panel_text.proofs.text.put_run.Goals as goal
use Rattle.panel_text.proofs.text.put_run.Goals.{After-put_order-named, After-run_tabled-ran}

-- the order lies inside its buffer
order-inside : (c : After-put_order-named) → c.put_order-named.result ≤ length c.put_order-named.new.out
order-inside c = put_inside _ _ _ _ _ (ascending-fits (held c.args.tables.now) (rules-below c.args.tables.now.well_formed)) c.put_order-named.ensures

-- what the run leaves
ended : (c : After-run_tabled-ran) → RunEnded (held c.args.tables.now) (run (held c.args.tables.now) (in_force (held c.args.tables.now)) (ascending (held c.args.tables.now))) c.run_tabled-ran.result c.run_tabled-ran.new.fact_marks c.run_tabled-ran.new.rule_marks c.run_tabled-ran.new.steps
ended c = ran-through c.args.tables.now.well_formed _ (front-text _ _ _ _ c.put_order-named.ensures) _ _ _ _ c.run_tabled-ran.ensures

pub put_order-named-requires : goal.put_order-named-requires
put_order-named-requires c = record { fits = ascending-fits (held c.args.tables.now) (rules-below c.args.tables.now.well_formed) }

pub slice_bounds-order-end : goal.slice_bounds-order-end
slice_bounds-order-end c = order-inside (goal.at.slice_bounds-order-end c).After-put_order-named

pub run_tabled-ran-requires : goal.run_tabled-ran-requires
run_tabled-ran-requires c = record { may_run = ascending-may_run c.args.tables.now.well_formed _ (front-text _ _ _ _ c.put_order-named.ensures) }

pub slice_bounds-fact_marks-end : goal.slice_bounds-fact_marks-end
slice_bounds-fact_marks-end c = rw c.facts-facts.ensures (facts-inside c.args.tables.now.well_formed _ _ _ _ (ended (goal.at.slice_bounds-fact_marks-end c).After-run_tabled-ran))

pub slice_bounds-put_left-end : goal.slice_bounds-put_left-end
slice_bounds-put_left-end c = sym (length-take-le _ _ (rw c.facts-facts.ensures (facts-inside c.args.tables.now.well_formed _ _ _ _ (ended (goal.at.slice_bounds-put_left-end c).After-run_tabled-ran))))

pub slice_bounds-rule_marks-end : goal.slice_bounds-rule_marks-end
slice_bounds-rule_marks-end c = rw c.rules-rules.ensures (rules-inside c.args.tables.now.well_formed _ _ _ _ (ended (goal.at.slice_bounds-rule_marks-end c).After-run_tabled-ran))

pub slice_bounds-put_left-end-2 : goal.slice_bounds-put_left-end-2
slice_bounds-put_left-end-2 c = sym (length-take-le _ _ (rw c.rules-rules.ensures (rules-inside c.args.tables.now.well_formed _ _ _ _ (ended (goal.at.slice_bounds-put_left-end-2 c).After-run_tabled-ran))))

pub slice_bounds-steps-end : goal.slice_bounds-steps-end
slice_bounds-steps-end c = rw c.from-used.ensures (steps-inside c.args.tables.now.well_formed _ _ _ _ (ended (goal.at.slice_bounds-steps-end c).After-run_tabled-ran))

pub slice_bounds-put_left-end-3 : goal.slice_bounds-put_left-end-3
slice_bounds-put_left-end-3 c = sym (length-take-le _ _ (rw c.from-used.ensures (steps-inside c.args.tables.now.well_formed _ _ _ _ (ended (goal.at.slice_bounds-put_left-end-3 c).After-run_tabled-ran))))

pub put_left-requires-clause-fits : goal.put_left-requires-clause-fits
put_left-requires-clause-fits c =
    rw (c.facts-facts.ensures, c.rules-rules.ensures, c.from-used.ensures, left-lines c.args.tables.now.well_formed _ _ _ _ (ended (goal.at.put_left-requires-clause-fits c).After-run_tabled-ran))
    (record { inside = omega (arith, c.requires.narrow_in_bounds, text_fits c.args.tables.now.well_formed (ascending (held c.args.tables.now))) })

pub returns : goal.returns
returns c =
    rw (c.facts-facts.ensures, c.rules-rules.ensures, c.from-used.ensures, left-lines c.args.tables.now.well_formed _ _ _ _ (ended (goal.at.returns c).After-run_tabled-ran)) at c.put_left.ensures
