-- `whole_items`: what is to come is whole where all is.
use mathlib.Core.Path.{refl, sym, ap, ◌∙◌}
use Rattle.cursors.proofs.Items.{found, closer, row-ended}
use Rattle.questions.specs.Questions.{whole}
use Rattle.questions.proofs.ItemWalks.{headed, bad_read, same_row}
use Rattle.questions.proofs.whole.whole_items.Goals as goal

pub returns-in-Refused : goal.returns-in-Refused
returns-in-Refused c = let w = c.loop-next.invariant in
    sym (w.1 ∙ ap whole (bad_read _ _ _ _ (sym c.next_in.ensures ∙ c.in-Refused.is) _ c.requires w.0))

pub loop-next-smaller : goal.loop-next-smaller
loop-next-smaller c = closer (found _ _ _ _ (sym c.next_in.ensures ∙ c.in-Found.is))

pub loop-next-preserved : goal.loop-next-preserved
loop-next-preserved c =
    let w = c.loop-next.invariant in
    let e = sym c.next_in.ensures ∙ c.in-Found.is in
    (same_row _ _ _ _ _ e c.requires w.0, w.1 ∙ ap whole (headed _ _ _ _ _ e refl))

pub returns-in-Ended : goal.returns-in-Ended
returns-in-Ended c = sym (c.loop-next.invariant.1 ∙ ap whole (row-ended _ _ _ (sym c.next_in.ensures ∙ c.in-Ended.is)))
