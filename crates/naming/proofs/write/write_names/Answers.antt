-- `write_names`: the items of the rules passed are written.
use mathlib.Core.Path.{refl}
use Rattle.questions.proofs.MarkedPut.{none_passed, mark_put, mark_passed}
use Rattle.naming.proofs.write.write_names.Goals as goal
use Rattle.naming.proofs.write.write_names.Goals.{then-marks-i, else-marks-i}

pub loop-i-init : goal.loop-i-init
loop-i-init c = none_passed _ _ _ _ _ _ c.requires.fits

pub loop-i-preserved : goal.loop-i-preserved
loop-i-preserved c = elim c.if-marks-i.branch [
  | then-marks-i w ↦ rw (w.out-is, w.at-is) (mark_put c.loop-i.invariant c.loop-i-test.true w.if-marks-i.true _ _ (record { bytes_put = w.write_rule_item.ensures; behind = refl }))
  | else-marks-i w ↦ rw (w.out-is, w.at-is) (mark_passed c.loop-i.invariant c.loop-i-test.true w.if-marks-i.false)
]
