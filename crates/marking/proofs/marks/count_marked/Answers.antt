-- `count_marked`: those counted and those to come are all.
use native.Mathlib.Omega.{arith}
use Rattle.theory.proofs.ListWalks.{none_counted, one_counted, not-counted, all-counted}
use Rattle.marking.proofs.MarksPainted.{marked-at, unmarked_at}
use Rattle.marking.proofs.marks.count_marked.Goals as goal
use Rattle.marking.proofs.marks.count_marked.Goals.{then-marks-f-eq-IN, else-marks-f-eq-IN}

pub loop-f-init : goal.loop-f-init
loop-f-init c = none_counted _ _

pub overflow_add-n : goal.overflow_add-n
overflow_add-n c = omega (arith, c.loop-f.invariant.few)

pub loop-f-preserved : goal.loop-f-preserved
loop-f-preserved c = elim c.if-marks-f-eq-IN.branch [
  | then-marks-f-eq-IN t ↦ rw t.n-is (one_counted c.loop-f.invariant c.loop-f-test.true (marked-at _ _ t.if-marks-f-eq-IN.true))
  | else-marks-f-eq-IN t ↦ rw t.n-is (not-counted c.loop-f.invariant c.loop-f-test.true (unmarked_at _ _ t.if-marks-f-eq-IN.false))
]

pub returns : goal.returns
returns c = all-counted c.loop-f.invariant c.loop-f-test.false
