-- `ask_order`: the file first, then the order.
use mathlib.Core.Path.{sym, ap, ◌∙◌}
use Rattle.items.proofs.Passed.{passed}
use Rattle.questions.specs.Answer.{answer_of}
use Rattle.questions.specs.Questions.{ask_order_questions}
use Rattle.questions.proofs.OperationAsked.{answer_numbered, file_refused, scan_passed, order-questions}
use Rattle.naming.proofs.order.ask_order.Goals as goal

pub returns-in_err-scan : goal.returns-in_err-scan
unfolding ask_order_questions
returns-in_err-scan c =
    let p = answer_numbered (ask_order_questions c.args.file.now c.args.order.now) _ (passed c.from_residual.ensures ∙ sym (ap answer_of (file_refused _ _ _ (sym c.scan.ensures.value ∙ c.in_err-scan.was)))) in
    record { value = p.0; answer_numbers = p.1 }

pub returns : goal.returns
returns c =
    let a = scan_passed _ _ _ (sym c.scan.ensures.value ∙ c.in_ok-scan.was) c.scan.ensures.scanned in
    let p = answer_numbered (ask_order_questions c.args.file.now c.args.order.now) _ (c.ask_order_of.ensures ∙ ap answer_of (order-questions _ a.accepted _ a.tabled.program _)) in
    record { value = p.0; answer_numbers = p.1 }
