-- `put_kept`: the order gets yes, so the grounds are told, and what they leave gives the text.
use Prim.Native.Nat.{◌*◌, ◌≤◌}
use mathlib.Core.Path.{◌≡◌, sym, ap, ◌∙◌}
use native.Mathlib.Omega.{arith}
use lib.ListN.{length, take}
use lib.Seq.{length-take-le}
use Rattle.tables.specs.Held.{held}
use Rattle.items.specs.Item.{narrow, step_width}
use Rattle.tables.proofs.ProgramHeld.{rules-below}
use Rattle.questions.specs.Questions.{each, row_of}
use Rattle.questions.proofs.BytesPut.{put_inside}
use Rattle.panel_lines.specs.Text.{line, step_line}
use Rattle.panel_text.proofs.TextShown.{front-text}
use Rattle.panel_text.proofs.RunLines.{ascending-may_run}
use Rattle.panel_text.proofs.Lengths.{line-length, ascending-fits}
use Rattle.grounds_text.specs.Tabled.{program_text}
use Rattle.grounds_text.proofs.KeptLines.{text_fits}
use Rattle.grounds_text.proofs.GroundsTold.{refused-line, kept-inside, kept-lines}
use Rattle.grounds_text.proofs.kept.put_kept.Goals as goal
use Rattle.grounds_text.proofs.kept.put_kept.Goals.{After-from, After-put_order-named, After-from-used}

-- the order lies inside its buffer
order-inside : (c : After-put_order-named) → c.put_order-named.result ≤ length c.put_order-named.new.out
order-inside c = put_inside _ _ _ _ _ (ascending-fits (held c.args.tables.now) (rules-below c.args.tables.now.well_formed)) c.put_order-named.ensures

-- a refusal, with its number
stopped : (c : After-from) → program_text (held c.args.tables.now) c.args.fact ≡ line 0x45 c.from.result
stopped c =
    refused-line c.args.tables.now.well_formed _ (front-text _ _ _ _ c.put_order-named.ensures) _ _ _ _ _ c.grounds_tabled.ensures _ c.in-Err.is
    ∙ ap (line 0x45) (sym c.number.ensures ∙ sym c.from.ensures)

-- the steps that were kept
steps-inside : (c : After-from-used) → c.from-used.result * step_width narrow ≤ length c.grounds_tabled.new.steps
steps-inside c = rw c.from-used.ensures (kept-inside c.args.tables.now.well_formed _ (front-text _ _ _ _ c.put_order-named.ensures) _ _ _ _ _ c.grounds_tabled.ensures _ c.in-Ok.is)

lines_are : (c : After-from-used) → each step_line (row_of (take (c.from-used.result * step_width narrow) c.grounds_tabled.new.steps)) ≡ program_text (held c.args.tables.now) c.args.fact
lines_are c = rw c.from-used.ensures (kept-lines c.args.tables.now.well_formed _ (front-text _ _ _ _ c.put_order-named.ensures) _ _ _ _ _ c.grounds_tabled.ensures _ c.in-Ok.is)

pub put_order-named-requires : goal.put_order-named-requires
put_order-named-requires c = record {
  fits = ascending-fits (held c.args.tables.now) (rules-below c.args.tables.now.well_formed);
}

pub slice_bounds-order-end : goal.slice_bounds-order-end
slice_bounds-order-end c = order-inside (goal.at.slice_bounds-order-end c).After-put_order-named

pub slice_bounds-grounds_tabled-end : goal.slice_bounds-grounds_tabled-end
slice_bounds-grounds_tabled-end c = sym (length-take-le _ _ (order-inside (goal.at.slice_bounds-grounds_tabled-end c).After-put_order-named))

pub grounds_tabled-requires : goal.grounds_tabled-requires
grounds_tabled-requires c = record {
  may_run = ascending-may_run c.args.tables.now.well_formed _ (front-text _ _ _ _ c.put_order-named.ensures);
}

pub put_line-requires : goal.put_line-requires
put_line-requires c = record { inside = omega (arith, c.requires.narrow_in_bounds, line-length 0x45 c.from.result (omega (arith, c.from.ensures, c.number.type_inv))) }

pub slice_bounds-steps-end : goal.slice_bounds-steps-end
slice_bounds-steps-end c = steps-inside (goal.at.slice_bounds-steps-end c).After-from-used

pub slice_bounds-put_steps-end : goal.slice_bounds-put_steps-end
slice_bounds-put_steps-end c = sym (length-take-le _ _ (steps-inside (goal.at.slice_bounds-put_steps-end c).After-from-used))

pub put_steps-requires : goal.put_steps-requires
put_steps-requires c =
    rw (lines_are (goal.at.put_steps-requires c).After-from-used) (record { inside = omega (arith, c.requires.narrow_in_bounds, text_fits c.args.tables.now.well_formed c.args.fact) })

pub returns-in-Err : goal.returns-in-Err
returns-in-Err c = rw (stopped (goal.at.returns-in-Err c).After-from) c.put_line.ensures

pub returns-in-Ok : goal.returns-in-Ok
returns-in-Ok c = rw (lines_are (goal.at.returns-in-Ok c).After-from-used) at c.put_steps.ensures
