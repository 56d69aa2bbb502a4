-- `check`: the scan of the file, then the rest.
use mathlib.Core.Path.{sym, ◌∙◌}
use Rattle.items.proofs.Passed.{passed}
use Rattle.questions.proofs.OperationAsked.{scan_passed}
use Rattle.proofcheck.proofs.CheckAsked.{check_file_no}
use Rattle.proofcheck.proofs.Meaning.{meant}
use Rattle.proofcheck.proofs.check.Goals as goal

pub check_accepted-requires : goal.check_accepted-requires
check_accepted-requires c = let p = scan_passed _ _ _ (sym c.scan.ensures.value ∙ c.in_ok-scan.was) c.scan.ensures.scanned in
    (p.accepted, p.tabled)

pub returns-in_err-scan : goal.returns-in_err-scan
returns-in_err-scan c =
    let p = meant c.args.file.now c.args.set.now c.args.fact c.args.proof.now _ (passed c.from_residual.ensures ∙ check_file_no _ _ _ _ _ (sym c.scan.ensures.value ∙ c.in_err-scan.was)) in
    record { value = p.0; check_means = p.1 }

pub returns : goal.returns
returns c =
    let p = meant c.args.file.now c.args.set.now c.args.fact c.args.proof.now _ c.check_accepted.ensures in
    record { value = p.0; check_means = p.1 }
