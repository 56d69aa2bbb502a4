-- `put_marked`: the lines of the numbers passed are written.
use Rattle.questions.proofs.MarkedPut.{none_passed, all-passed, mark_fits, mark_put, mark_passed}
use Rattle.panel_text.proofs.lines.put_marked.Goals as goal
use Rattle.panel_text.proofs.lines.put_marked.Goals.{then-own-mark, else-own-mark}

pub loop-i-init : goal.loop-i-init
loop-i-init c = none_passed _ _ _ _ _ _ c.requires.fits

pub put_line-at-requires : goal.put_line-at-requires
put_line-at-requires c = mark_fits c.loop-i.invariant c.loop-i-test.true c.if-own-mark.true

pub loop-i-preserved : goal.loop-i-preserved
loop-i-preserved c = elim c.if-own-mark.branch [
  | then-own-mark w ↦ rw (w.out-is, w.at-is) (mark_put c.loop-i.invariant c.loop-i-test.true w.if-own-mark.true _ _ w.put_line-at.ensures)
  | else-own-mark w ↦ rw (w.out-is, w.at-is) (mark_passed c.loop-i.invariant c.loop-i-test.true w.if-own-mark.false)
]

pub returns : goal.returns
returns c = all-passed c.loop-i.invariant c.loop-i-test.false
