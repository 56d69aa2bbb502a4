-- `compare`: the guess has exactly the facts before the one at hand that are marked.
use native.Mathlib.Omega.{arith}
use Rattle.guessing.proofs.PlacesAgree.{one_agrees, one_apart}
use Rattle.guessing.proofs.compared.compare.Goals as goal

pub returns-then-marks-from : goal.returns-then-marks-from
returns-then-marks-from c = one_apart c.args.row.now c.args.guess c.args.marks.now c.loop-i.i (omega arith) c.loop-i.invariant _ c.has_bit.ensures (rw c.from.ensures at c.if-marks-from.true)

pub loop-i-preserved : goal.loop-i-preserved
loop-i-preserved c = one_agrees c.args.row.now c.args.guess c.args.marks.now c.loop-i.i (omega arith) c.loop-i.invariant _ c.has_bit.ensures (rw c.from.ensures at c.if-marks-from.false)
