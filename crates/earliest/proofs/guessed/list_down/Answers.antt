-- `list_down`: the facts from f on are listed, and a marked fact has its place in the row.
use native.Mathlib.Omega.{arith}
use Rattle.marking.proofs.MarksPainted.{marked-at, unmarked_at}
use Rattle.earliest.proofs.FactsListed.{none_listed, passed, in-row, one_listed}
use Rattle.earliest.proofs.guessed.list_down.Goals as goal

pub loop-f-init : goal.loop-f-init
loop-f-init c = none_listed _ _ _ c.requires.1 c.requires.2

pub bounds-row-n : goal.bounds-row-n
bounds-row-n c = in-row _ _ _ _ _ (omega arith) c.loop-f.invariant (marked-at _ _ c.if-marks-f-eq1.true)

pub loop-f-preserved-then-marks-f-eq1 : goal.loop-f-preserved-then-marks-f-eq1
loop-f-preserved-then-marks-f-eq1 c = one_listed _ _ _ _ _ (omega arith) c.loop-f.invariant (marked-at _ _ c.if-marks-f-eq1.true)

pub loop-f-preserved : goal.loop-f-preserved
loop-f-preserved c = passed _ _ _ _ _ (omega arith) c.loop-f.invariant (unmarked_at _ _ c.if-marks-f-eq1.false)
