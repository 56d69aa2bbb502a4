-- `ask_row`: the file first, then the asked fact and the row.
use mathlib.Core.Path.{sym, ap, ◌∙◌}
use Rattle.items.proofs.Passed.{passed}
use Rattle.reader.proofs.FileAsked.{file_yes}
use Rattle.questions.specs.Answer.{answer_of}
use Rattle.questions.specs.Questions.{ask_row_questions}
use Rattle.questions.proofs.OperationAsked.{answer_numbered, file_refused, row-questions}
use Rattle.questions.proofs.row.ask_row.Goals as goal

pub returns-in_err-counts : goal.returns-in_err-counts
unfolding ask_row_questions
returns-in_err-counts c =
    let p = answer_numbered (ask_row_questions c.args.file.now c.args.fact c.args.row.now) _ (passed c.from_residual.ensures ∙ sym (ap answer_of (file_refused _ _ _ (sym c.scan.ensures.value ∙ c.in_err-counts.was)))) in
    record { value = p.0; answer_numbers = p.1 }

pub returns : goal.returns
returns c =
    let a = file_yes _ _ (sym c.scan.ensures.value ∙ c.in_ok-counts.was) in
    let p = answer_numbered (ask_row_questions c.args.file.now c.args.fact c.args.row.now) _ (c.ask_row_of.ensures ∙ ap answer_of (row-questions _ a.accepted _ _ _ a.facts)) in
    record { value = p.0; answer_numbers = p.1 }
