-- `settle`: some places wait, and the rules of the others derive nothing new.
use mathlib.Core.Path.{◌≡◌}
use mathlib.Core.Bool.{true}
use Rattle.blocks.proofs.LanesSettled.{none_settled, known_at, one_settled, all_settled}
use Rattle.blocks.proofs.LanesRoom.{room-less}
use Rattle.blocks.proofs.settle.settle.Goals as goal
use Rattle.blocks.proofs.settle.settle.Goals.{In-Some}

pub loop-place-init : goal.loop-place-init
loop-place-init c = none_settled c.requires.in_order.0 _ _ _ c.requires.fact c.requires.in_order.2

waiting : (c : In-Some) → c.loop-place.invariant.waits c.in-Some.place ≡ true
waiting c = (c.take_next.ensures.by_index _ c.loop-place.invariant.flags).one_of _ c.in-Some.is

pub returns : goal.returns
returns c = all_settled c.requires.in_order.0 c.loop-place.invariant ((c.take_next.ensures.by_index _ c.loop-place.invariant.flags).none_left c.in_default.is)

pub bounds-order-place : goal.bounds-order-place
bounds-order-place c = c.loop-place.invariant.below _ (waiting (goal.at.bounds-order-place c).In-Some)

pub step-requires : goal.step-requires
step-requires c = (known_at c.requires.in_order.0 _ (c.loop-place.invariant.below _ (waiting (goal.at.step-requires c).In-Some)), c.loop-place.invariant.places)

pub loop-place-smaller : goal.loop-place-smaller
loop-place-smaller c = room-less c.loop-place.pending c.loop-place.invariant.fitting (c.take_next.ensures.falls.less _ c.in-Some.is) (c.step.ensures _ _ c.requires.in_order.1 ((c.take_next.ensures.by_index _ c.loop-place.invariant.flags).rest _ c.in-Some.is))

pub loop-place-preserved : goal.loop-place-preserved
loop-place-preserved c = one_settled c.requires.in_order.0 c.loop-place.invariant _ (waiting (goal.at.loop-place-preserved c).In-Some) (c.step.ensures _ _ c.requires.in_order.1 ((c.take_next.ensures.by_index _ c.loop-place.invariant.flags).rest _ c.in-Some.is))
