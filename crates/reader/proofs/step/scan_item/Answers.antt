-- `scan_item`: each kind of the body has its function, and no other kind is of the body.
use mathlib.Core.Path.{◌∙◌}
use borrow.Author.Rules.{rules}
use Rattle.cursors.proofs.Items.{found}
use Rattle.reader.proofs.BodyAsked.{other_row}
use Rattle.reader.proofs.BodyRead.{refuses, unread_refused, found_as, read_as}
use Rattle.reader.proofs.step.scan_item.Goals as goal

pub returns-in-Opens : goal.returns-in-Opens
returns-in-Opens c = λ s len late c₀ here short small w e. c.open_rule.ensures s _ c₀ here short small w (found_as e c.in-Opens.is)

pub returns-in-Premise : goal.returns-in-Premise
returns-in-Premise c = λ s len late c₀ here short small w e. c.take_premise.ensures s _ c₀ here short small w (found_as e c.in-Premise.is)

pub returns-in-Constraint : goal.returns-in-Constraint
returns-in-Constraint c = λ s len late c₀ here short small w e. c.take_constraint.ensures s c₀ here short small w (found_as e c.in-Constraint.is)

pub returns-in-Rules : goal.returns-in-Rules
returns-in-Rules c = λ s len late c₀ here short small w e. c.end_file.ensures s _ len c₀ here short small w (found_as e c.in-Rules.is)

pub returns-in-Unread : goal.returns-in-Unread
returns-in-Unread c = λ s len late c₀ here short small w e.
    rw c.refuse_unread.ensures
    (refuses w (unread_refused w (read_as e c.in-Unread.is) (λ f q. late f (c.in-Unread.is ∙ q))))

pub returns-in_default : goal.returns-in_default
returns-in_default c = λ s len late c₀ here short small w e. refuses w (other_row w.verdict (found _ _ _ _ e) (search rules))
