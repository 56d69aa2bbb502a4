-- `accept`: the scan's answer, with the counts of an accepted file; where its second item is an unread fact, that of `accept_unread`.
use mathlib.Core.Path.{sym, ◌∙◌}
use Rattle.items.proofs.Passed.{passed}
use Rattle.reader.proofs.UnreadFacts.{all_read}
use Rattle.reader.proofs.RulesCounted.{constrained-are}
use Rattle.reader.proofs.FileAsked.{file-no, file_yes, refused-answer, accepted_answer}
use Rattle.reader.proofs.AnswerNumbers.{accept_answered}
use Rattle.reader.proofs.accept.Goals as goal

pub returns-then-begins_unread : goal.returns-then-begins_unread
returns-then-begins_unread c = let p = accept_answered _ _ c.accept_unread.ensures in
    record { value = p.0; accept_numbers = p.1 }

pub returns-in_err-counts : goal.returns-in_err-counts
returns-in_err-counts c = let p = accept_answered _ _ (passed c.from_residual.ensures ∙ refused-answer _ _ (file-no _ _ (sym c.scan.ensures.value ∙ c.in_err-counts.was))) in
    record { value = p.0; accept_numbers = p.1 }

pub returns : goal.returns
returns c =
    let a = file_yes _ _ (sym c.scan.ensures.value ∙ c.in_ok-counts.was) in
    let constrained = a.constrained ∙ constrained-are _ (all_read _ a.accepted (sym c.begins_unread.ensures ∙ c.if-begins_unread.false)) in
    let f = c.file_with.ensures in
    let p = accept_answered _ _ (accepted_answer _ _ a.accepted (f.0 ∙ a.facts) (f.1 ∙ a.rules) (f.2 ∙ a.exceptions) (f.3 ∙ constrained)) in
    record { value = p.0; accept_numbers = p.1 }
