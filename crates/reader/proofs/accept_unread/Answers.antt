-- `accept_unread`: the scan's answer, with the constraint facts of the program in the tables.
use mathlib.Core.Path.{sym, ap, ◌∙◌}
use Rattle.items.proofs.Passed.{passed}
use Rattle.reader.specs.Questions.{constraint_facts}
use Rattle.reader.proofs.FileAsked.{file-no, file_yes, refused-answer, accepted_answer}
use Rattle.reader.proofs.accept_unread.Goals as goal

pub returns-in_err-counts : goal.returns-in_err-counts
returns-in_err-counts c = passed c.from_residual.ensures ∙ refused-answer _ _ (file-no _ _ (sym c.scan.ensures.value ∙ c.in_err-counts.was))

pub returns : goal.returns
unfolding constraint_facts
returns c =
    let a = file_yes _ _ (sym c.scan.ensures.value ∙ c.in_ok-counts.was) in
    let f = c.file_with.ensures in
    accepted_answer _ _ a.accepted (f.0 ∙ a.facts) (f.1 ∙ a.rules) (f.2 ∙ a.exceptions) (f.3 ∙ c.count_constraint_facts.ensures ∙ ap constraint_facts (c.scan.ensures.scanned a.accepted).program)
