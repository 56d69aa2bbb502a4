-- `run`: a no changes no byte; where all questions got yes, the run on the tables.
use mathlib.Core.Path.{sym, ◌∙◌}
use Rattle.tables.specs.Held.{held}
use Rattle.tables.proofs.ProgramHeld.{rules-below}
use Rattle.items.proofs.Passed.{passed}
use Rattle.questions.proofs.OperationAsked.{Passed, scan_passed}
use Rattle.run.proofs.Outcomes.{outcome-written, run-answered, refused_answered}
use Rattle.run.proofs.RunAsked.{may_run, run-file_no, run-no, run-yes, run-there}
use Rattle.run.proofs.run.Goals as goal
use Rattle.run.proofs.run.Goals.{In_ok-scan}

-- past the questions on the file
past_scan : (c : In_ok-scan) → Passed c.args.file.now c.scan.new.tables.cells
past_scan c = scan_passed _ _ _ (sym c.scan.ensures.value ∙ c.in_ok-scan.was) c.scan.ensures.scanned

pub run_tabled-requires : goal.run_tabled-requires
run_tabled-requires c = record {
  may_run = may_run (held c.scan.new.tables) (rules-below c.scan.new.tables.well_formed) _ _ _ _ (sym c.in_ok-ask_tabled.was ∙ c.ask_tabled.ensures);
}

pub returns-in_err-scan : goal.returns-in_err-scan
returns-in_err-scan c =
    let e = refused_answered c.args.file.now c.args.order.now c.args.fact_marks.now c.args.rule_marks.now c.args.steps.now _ _ (passed c.from_residual.ensures) (run-file_no _ _ _ _ _ _ (sym c.scan.ensures.value ∙ c.in_err-scan.was)) in
    record { fact = e.0; run_numbers = e.1 }

pub returns-in_err-ask_tabled : goal.returns-in_err-ask_tabled
returns-in_err-ask_tabled c =
    let p = past_scan (goal.at.returns-in_err-ask_tabled c).In_ok-scan in
    let e = refused_answered c.args.file.now c.args.order.now c.args.fact_marks.now c.args.rule_marks.now c.args.steps.now _ _ (passed c.from_residual-in_err-ask_tabled.ensures) (run-no _ _ _ _ _ p _ (sym c.in_err-ask_tabled.was ∙ c.ask_tabled.ensures)) in
    record { fact = e.0; run_numbers = e.1 }

pub returns : goal.returns
returns c =
    let p = past_scan (goal.at.returns c).In_ok-scan in
    let e =
    c.run_tabled.ensures
    ∙ run-there p.tabled _ _ _ _
    ∙ outcome-written c.args.file.now c.args.order.now c.args.fact_marks.now c.args.rule_marks.now c.args.steps.now (run-yes _ _ _ _ _ p (sym c.in_ok-ask_tabled.was ∙ c.ask_tabled.ensures)) in
    let n = run-answered _ _ _ _ _ _ e in
    record { fact = n.0; run_numbers = n.1 }
