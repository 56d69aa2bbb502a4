-- `put_text`: the line of the refusal, or the lines of the run.
use mathlib.Core.Path.{◌≡◌, sym, ap, ◌∙◌}
use native.Mathlib.Omega.{arith}
use Rattle.tables.specs.Held.{held}
use Rattle.reader.proofs.FileAsked.{file-no}
use Rattle.questions.proofs.OperationAsked.{Passed, scan_passed}
use Rattle.panel_lines.specs.Text.{line, ascending, panel_text}
use Rattle.panel_text.proofs.Lengths.{line-length, text_fits}
use Rattle.panel_text.proofs.RunLines.{refused-text, tabled_text}
use Rattle.panel_text.proofs.text.put_text.Goals as goal
use Rattle.panel_text.proofs.text.put_text.Goals.{After-from, In-Ok}

-- past the questions on the file
passed : (c : In-Ok) → Passed c.args.file.now c.scan.new.tables.cells
passed c = scan_passed _ _ _ (sym c.scan.ensures.value ∙ c.in-Ok.is) c.scan.ensures.scanned

-- a refusal, with its number
stopped : (c : After-from) → panel_text c.args.file.now ≡ line 0x45 c.from.result
stopped c = refused-text _ _ (file-no _ _ (sym c.scan.ensures.value ∙ c.in-Err.is)) ∙ ap (line 0x45) (sym c.number.ensures ∙ sym c.from.ensures)

pub put_line-requires : goal.put_line-requires
put_line-requires c = record { inside = omega (arith, c.requires, c.from.ensures, line-length 0x45 c.from.result (omega (arith, c.from.ensures, c.number.type_inv))) }

pub returns-in-Err : goal.returns-in-Err
returns-in-Err c = record {
  put = rw (stopped (goal.at.returns-in-Err c).After-from) c.put_line.ensures;
  upper_bound = omega (arith, c.put_line.ensures.behind, line-length 0x45 c.from.result (omega (arith, c.from.ensures, c.number.type_inv)));
}

pub returns-in-Ok : goal.returns-in-Ok
returns-in-Ok c = let p = passed (goal.at.returns-in-Ok c).In-Ok in
    record {
      put = rw (tabled_text p) at c.put_run.ensures;
      upper_bound = omega (arith, c.put_run.ensures.behind, text_fits p.tabled.well_formed (ascending (held c.scan.new.tables)));
    }
