-- `Cursor::next_in_body`: there is no kind or none of the row, as the laws of `OneRow` say, or it is `read_kind`'s.
use Rattle.std.proofs.Common.{Some, refl, ap, ◌∙◌}
use Rattle.cursors.specs.declared.cursor.Row.TheVariants.{Body}
use Rattle.cursors.specs.Cursor.{of_row}
use Rattle.cursors.proofs.OneRow.{no-kind, not-in_body, nothing-there, unlike}
use Rattle.cursors.proofs.cursor.Cursor.next_in_body.Goals as goal

pub returns-then-bytes-at : goal.returns-then-bytes-at
returns-then-bytes-at c = c.stay.ensures ∙ nothing-there _ _ Body c.requires c.if-bytes-at.true

pub returns-in_default : goal.returns-in_default
returns-in_default c = c.stay-in_default.ensures ∙ unlike _ _ Body c.requires c.if-bytes-at.false (no-kind Body _ (c.in_default.ensures.other refl))

pub read_kind-requires : goal.read_kind-requires
read_kind-requires c = (c.requires, c.if-bytes-at.false, c.in-Some.ensures.found _ (ap Some c.in-Opens.is), refl)

pub read_kind-requires-in-Premise : goal.read_kind-requires-in-Premise
read_kind-requires-in-Premise c = (c.requires, c.if-bytes-at.false, c.in-Some.ensures.found _ (ap Some c.in-Premise.is), refl)

pub read_kind-requires-in-Constraint : goal.read_kind-requires-in-Constraint
read_kind-requires-in-Constraint c = (c.requires, c.if-bytes-at.false, c.in-Some.ensures.found _ (ap Some c.in-Constraint.is), refl)

pub read_kind-requires-in-Unread : goal.read_kind-requires-in-Unread
read_kind-requires-in-Unread c = (c.requires, c.if-bytes-at.false, c.in-Some.ensures.found _ (ap Some c.in-Unread.is), refl)

pub read_kind-requires-in-Rules : goal.read_kind-requires-in-Rules
read_kind-requires-in-Rules c = (c.requires, c.if-bytes-at.false, c.in-Some.ensures.found _ (ap Some c.in-Rules.is), refl)

pub returns-in-Facts : goal.returns-in-Facts
returns-in-Facts c =
    c.stay-in-Facts.ensures ∙ unlike _ _ Body c.requires c.if-bytes-at.false (ap (of_row Body) (c.in-Some.ensures.found _ refl) ∙ not-in_body _ c.in-Facts.is)
