-- `ask_set`: the file first, then the set.
use mathlib.Core.Path.{sym, ap, ◌∙◌}
use Rattle.items.proofs.Passed.{passed}
use Rattle.reader.proofs.FileAsked.{file_yes}
use Rattle.questions.specs.Answer.{answer_of}
use Rattle.questions.specs.Questions.{ask_set_questions}
use Rattle.questions.proofs.OperationAsked.{answer_numbered, file_refused, set-questions}
use Rattle.questions.proofs.fact_set.ask_set.Goals as goal

pub returns-in_err-counts : goal.returns-in_err-counts
unfolding ask_set_questions
returns-in_err-counts c =
    let p = answer_numbered (ask_set_questions c.args.file.now c.args.set.now) _ (passed c.from_residual.ensures ∙ sym (ap answer_of (file_refused _ _ _ (sym c.scan.ensures.value ∙ c.in_err-counts.was)))) in
    record { value = p.0; answer_numbers = p.1 }

pub returns : goal.returns
returns c =
    let a = file_yes _ _ (sym c.scan.ensures.value ∙ c.in_ok-counts.was) in
    let p = answer_numbered (ask_set_questions c.args.file.now c.args.set.now) _ (c.ask_set_of.ensures ∙ ap answer_of (set-questions _ a.accepted _ _ a.facts)) in
    record { value = p.0; answer_numbers = p.1 }
