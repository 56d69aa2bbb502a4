-- `grounds`: a no changes no byte; where the run's questions got yes, what is told on the tables.
use mathlib.Core.Path.{sym, ◌∙◌}
use Rattle.tables.specs.Held.{held}
use Rattle.tables.proofs.ProgramHeld.{rules-below}
use Rattle.items.proofs.Passed.{passed}
use Rattle.questions.proofs.OperationAsked.{Passed, scan_passed}
use Rattle.run.proofs.RunAsked.{may_run, run-file_no, run-no, run-yes}
use Rattle.keeping.proofs.GroundsAsked.{answered_no, answered_told}
use Rattle.keeping.proofs.grounds.Goals as goal
use Rattle.keeping.proofs.grounds.Goals.{In_ok-scan}

-- past the questions on the file
past_scan : (c : In_ok-scan) → Passed c.args.file.now c.scan.new.tables.cells
past_scan c = scan_passed _ _ _ (sym c.scan.ensures.value ∙ c.in_ok-scan.was) c.scan.ensures.scanned

pub grounds_tabled-requires : goal.grounds_tabled-requires
grounds_tabled-requires c = record {
  may_run = may_run (held c.scan.new.tables) (rules-below c.scan.new.tables.well_formed) _ _ _ _ (sym c.in_ok-ask_tabled.was ∙ c.ask_tabled.ensures);
}

pub returns-in_err-scan : goal.returns-in_err-scan
returns-in_err-scan c =
    let e = answered_no c.args.file.now c.args.order.now c.args.fact c.args.fact_marks.now c.args.rule_marks.now c.args.steps.now _ _ (passed c.from_residual.ensures) (run-file_no _ _ _ _ _ _ (sym c.scan.ensures.value ∙ c.in_err-scan.was)) in
    record { fact = e.0; grounds_numbers = e.1 }

pub returns-in_err-ask_tabled : goal.returns-in_err-ask_tabled
returns-in_err-ask_tabled c =
    let p = past_scan (goal.at.returns-in_err-ask_tabled c).In_ok-scan in
    let e = answered_no c.args.file.now c.args.order.now c.args.fact c.args.fact_marks.now c.args.rule_marks.now c.args.steps.now _ _ (passed c.from_residual-in_err-ask_tabled.ensures) (run-no _ _ _ _ _ p _ (sym c.in_err-ask_tabled.was ∙ c.ask_tabled.ensures)) in
    record { fact = e.0; grounds_numbers = e.1 }

pub returns : goal.returns
returns c =
    let p = past_scan (goal.at.returns c).In_ok-scan in
    let e = answered_told c.args.file.now c.args.order.now c.args.fact c.args.fact_marks.now c.args.rule_marks.now c.args.steps.now _ c.grounds_tabled.ensures p.tabled (run-yes _ _ _ _ _ p (sym c.in_ok-ask_tabled.was ∙ c.ask_tabled.ensures)) in
    record { fact = e.0; grounds_numbers = e.1 }
