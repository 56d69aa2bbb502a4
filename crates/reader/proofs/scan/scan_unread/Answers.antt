-- `scan_unread`: what was read up to the cursor are unread facts, and they are taken.
use mathlib.Core.Path.{refl, sym, ◌∙◌}
use Rattle.cursors.proofs.Items.{found, closer}
use Rattle.reader.proofs.BodyRead.{nothing-scanned, unread_scanned, read_as}
use Rattle.reader.proofs.scan.scan_unread.Goals as goal

pub loop-f-init : goal.loop-f-init
loop-f-init c = nothing-scanned _ _ _ _ _ c.requires.0 c.requires.2 c.requires.3

pub loop-f-smaller : goal.loop-f-smaller
loop-f-smaller c = closer (found _ _ _ _ (sym c.next_in_body.ensures ∙ c.in-Found-Unread-default.is))

pub loop-f-preserved : goal.loop-f-preserved
loop-f-preserved c = unread_scanned c.loop-f.invariant c.requires.1 (read_as (sym c.next_in_body.ensures ∙ c.in-Found-Unread-default.is) c.in-Found-Unread-default.field-0-is) c.if-facts-f.false refl _ _ c.store_unread.ensures.cells_after c.store_unread.ensures.marks_after
