-- `ask_both`: the file, the first order, then the second.
use mathlib.Core.Path.{sym, ◌∙◌}
use Rattle.items.proofs.Passed.{passed}
use Rattle.questions.proofs.OperationAsked.{Passed, scan_passed}
use Rattle.better.proofs.BetterAsked.{refused-by_file, refused-by_first, told-by_second}
use Rattle.better.proofs.asked.ask_both.Goals as goal
use Rattle.better.proofs.asked.ask_both.Goals.{In_ok-scan}

-- past the questions on the file
past_scan : (c : In_ok-scan) → Passed c.args.file.now c.scan.new.tables.cells
past_scan c = scan_passed _ _ _ (sym c.scan.ensures.value ∙ c.in_ok-scan.was) c.scan.ensures.scanned

pub returns-in_err-scan : goal.returns-in_err-scan
returns-in_err-scan c = record {
  value = passed c.from_residual.ensures ∙ refused-by_file _ _ _ _ (sym c.scan.ensures.value ∙ c.in_err-scan.was);
  scanned = c.scan.ensures.scanned;
}

pub returns-in_err-ask_order_of : goal.returns-in_err-ask_order_of
returns-in_err-ask_order_of c = record {
  value = passed c.from_residual-in_err-ask_order_of.ensures ∙ refused-by_first _ _ _ (past_scan (goal.at.returns-in_err-ask_order_of c).In_ok-scan) _ (sym c.in_err-ask_order_of.was ∙ c.ask_order_of.ensures);
  scanned = c.scan.ensures.scanned;
}

pub returns : goal.returns
returns c = record {
  value = told-by_second _ _ _ (past_scan (goal.at.returns c).In_ok-scan) (sym c.in_ok-ask_order_of.was ∙ c.ask_order_of.ensures) _ c.ask_order_of-2.ensures;
  scanned = c.scan.ensures.scanned;
}
