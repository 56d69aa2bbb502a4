-- `mark_constraint`: the mark that stands there decides.
use mathlib.Core.Path.{refl}
use borrow.Author.Tests.{eq-eqb, ne_eqb}
use Rattle.stores.specs.Stores.{is_unread}
use Rattle.stores.proofs.mark_constraint.Goals as goal

pub returns-then-marks-number-eq-UNREAD_FACT : goal.returns-then-marks-number-eq-UNREAD_FACT
unfolding is_unread
returns-then-marks-number-eq-UNREAD_FACT c = record {
  cells_after = rw (eq-eqb _ 2 c.if-marks-number-eq-UNREAD_FACT.true) refl;
  marks_after = rw (eq-eqb _ 2 c.if-marks-number-eq-UNREAD_FACT.true) refl;
}

pub returns : goal.returns
unfolding is_unread
returns c = record {
  cells_after = rw (ne_eqb _ 2 c.if-marks-number-eq-UNREAD_FACT.false) refl;
  marks_after = rw (ne_eqb _ 2 c.if-marks-number-eq-UNREAD_FACT.false) refl;
}
