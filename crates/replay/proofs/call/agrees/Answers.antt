-- `replay::call::agrees` is safe and ends: the parts that it lends are as long as it says.
use native.Mathlib.Omega.{arith}
use lib.ListN.{length-take, length-replicate}
use Rattle.replay.proofs.call.agrees.Goals as goal

pub slice_bounds-in_buffers-end : goal.slice_bounds-in_buffers-end
slice_bounds-in_buffers-end c = simp (length-take, length-replicate) (omega arith)

pub slice_bounds-in_buffers-end-then-order-le-ROOM : goal.slice_bounds-in_buffers-end-then-order-le-ROOM
slice_bounds-in_buffers-end-then-order-le-ROOM c = simp (length-take, length-replicate) (omega arith)

pub slice_bounds-in_buffers-end-then-order-le-ROOM-2 : goal.slice_bounds-in_buffers-end-then-order-le-ROOM-2
slice_bounds-in_buffers-end-then-order-le-ROOM-2 c = simp (length-take, length-replicate) (omega arith)

pub slice_bounds-in_buffers-end-then-order-le-ROOM-3 : goal.slice_bounds-in_buffers-end-then-order-le-ROOM-3
slice_bounds-in_buffers-end-then-order-le-ROOM-3 c = simp (length-take, length-replicate) (omega arith)
