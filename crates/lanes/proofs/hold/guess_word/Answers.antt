-- `guess_word`: the bits of the lanes are the same in every word, the others the same in all its lanes.
use native.Mathlib.Omega.{arith}
use mathlib.Core.Path.{refl}
use borrow.Author.Tests.{eq-eqb, ne_eqb}
use Rattle.lanes.proofs.LanePatterns.{pattern_lanes, all_set, all-clear}
use Rattle.lanes.proofs.hold.guess_word.Goals as goal

pub returns-in-0 : goal.returns-in-0
returns-in-0 c = pattern_lanes _ _ 0 c.in-0.is (omega arith) refl

pub returns-in-1 : goal.returns-in-1
returns-in-1 c = pattern_lanes _ _ 1 c.in-1.is (omega arith) refl

pub returns-in-2 : goal.returns-in-2
returns-in-2 c = pattern_lanes _ _ 2 c.in-2.is (omega arith) refl

pub returns-in-3 : goal.returns-in-3
returns-in-3 c = pattern_lanes _ _ 3 c.in-3.is (omega arith) refl

pub returns-in-4 : goal.returns-in-4
returns-in-4 c = pattern_lanes _ _ 4 c.in-4.is (omega arith) refl

pub returns-in-5 : goal.returns-in-5
returns-in-5 c = pattern_lanes _ _ 5 c.in-5.is (omega arith) refl

pub returns-then-number-place-eq1 : goal.returns-then-number-place-eq1
returns-then-number-place-eq1 c = all_set _ _ (omega arith) (eq-eqb _ _ c.if-number-place-eq1.true)

pub returns-else-number-place-eq1 : goal.returns-else-number-place-eq1
returns-else-number-place-eq1 c = all-clear _ _ (omega arith) (ne_eqb _ _ c.if-number-place-eq1.false)
