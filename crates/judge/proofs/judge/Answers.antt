-- `judge`: the file first, then the rest for its program.
use mathlib.Core.Path.{sym, ◌∙◌}
use Rattle.items.proofs.Passed.{passed}
use Rattle.questions.proofs.OperationAsked.{scan_passed}
use Rattle.judge.proofs.JudgeAnswers.{no-to_file, program-judged}
use Rattle.judge.proofs.Meaning.{answer_means}
use Rattle.judge.proofs.judge.Goals as goal

pub returns-in_err-scan : goal.returns-in_err-scan
returns-in_err-scan c =
    let e = passed c.from_residual.ensures ∙ no-to_file c.args.file.now c.args.list.now c.args.set.now _ (sym c.scan.ensures.value ∙ c.in_err-scan.was) in
    record { value = e; judge_means = (answer_means _ _ _ _ e).1 }

pub returns : goal.returns
returns c =
    let p = scan_passed _ _ _ (sym c.scan.ensures.value ∙ c.in_ok-scan.was) c.scan.ensures.scanned in
    let e = c.judge_program.ensures ∙ program-judged c.args.file.now c.args.list.now c.args.set.now _ p in
    record { value = e; judge_means = (answer_means _ _ _ _ e).1 }
