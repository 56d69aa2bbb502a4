-- `scan_rules`: verdict, tables and counts along the items.
use mathlib.Core.Path.{refl, sym, ap, ◌∙◌}
use Rattle.std.specs.Prelude.{Ok}
use native.Mathlib.Omega.{arith}
use Rattle.items.proofs.Passed.{passed}
use Rattle.cursors.proofs.Items.{found, closer}
use Rattle.reader.proofs.BodyAsked.{refused, cut_off}
use Rattle.reader.proofs.BodyRead.{answered_no, has_room}
use Rattle.reader.proofs.scan.scan_rules.Goals as goal

pub next_in_body-requires : goal.next_in_body-requires
next_in_body-requires c = (c.loop-r.invariant.0 _ c.requires.2.1.scanned).verdict.body

pub returns-in-Refused : goal.returns-in-Refused
returns-in-Refused c = λ c₀ w. answered_no (c.loop-r.invariant.0 c₀ w) (refused (c.loop-r.invariant.0 c₀ w).verdict _ _ (sym c.next_in_body.ensures ∙ c.in-Refused.is))

pub scan_item-requires : goal.scan_item-requires
scan_item-requires c =
    has_room (c.loop-r.invariant.0 _ c.requires.2.1.scanned) (found _ _ _ _ (sym c.next_in_body.ensures ∙ c.in-Found.is)) c.requires.0 c.requires.1

pub loop-r-smaller : goal.loop-r-smaller
loop-r-smaller c = closer (found _ _ _ _ (sym c.next_in_body.ensures ∙ c.in-Found.is))

pub loop-r-preserved : goal.loop-r-preserved
loop-r-preserved c =
    let read = sym c.next_in_body.ensures ∙ c.in-Found.is in
    let taken = c.scan_item.ensures _ refl (c.loop-r.invariant.1 _ _ read) in
    let on = c.in_ok-after-in-Found.was ∙ ap Ok c.in-Some.is in (
      λ c₀ w. (taken c₀ _ c.requires.0 c.requires.1 (c.loop-r.invariant.0 c₀ w) read).on _ on,
      λ i d e f q z. absurd ((taken _ _ c.requires.0 c.requires.1 (c.loop-r.invariant.0 _ c.requires.2.1.scanned) read).opened _ on z),
    )

pub overflow_cast-result : goal.overflow_cast-result
overflow_cast-result c = omega (arith, (c.loop-r.invariant.0 _ c.requires.2.1.scanned).tables.few)

pub returns-in_default : goal.returns-in_default
returns-in_default c =
    let read = sym c.next_in_body.ensures ∙ c.in-Found.is in
    λ c₀ w. rw c.count_marked.ensures
    ((c.scan_item.ensures _ refl (c.loop-r.invariant.1 _ _ read) c₀ _ c.requires.0 c.requires.1 (c.loop-r.invariant.0 c₀ w) read).ended (c.in_ok-after-in-Found.was ∙ ap Ok c.in_default.is))

pub returns-in_err-after-in-Found : goal.returns-in_err-after-in-Found
returns-in_err-after-in-Found c =
    let read = sym c.next_in_body.ensures ∙ c.in-Found.is in
    λ c₀ w. rw (passed c.from_residual.ensures) ((c.scan_item.ensures _ refl (c.loop-r.invariant.1 _ _ read) c₀ _ c.requires.0 c.requires.1 (c.loop-r.invariant.0 c₀ w) read).refused _ c.in_err-after-in-Found.was)

pub returns-in-Ended : goal.returns-in-Ended
returns-in-Ended c = λ c₀ w. answered_no (c.loop-r.invariant.0 c₀ w) (cut_off (c.loop-r.invariant.0 c₀ w).verdict _ (sym c.next_in_body.ensures ∙ c.in-Ended.is))
