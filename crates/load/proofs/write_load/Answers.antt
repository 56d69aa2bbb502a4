-- `write_load`: what is counted lies inside the room.
use native.Mathlib.Omega.{arith}
use mathlib.Core.Path.{ap, sym}
use lib.Seq.{length-take-le}
use Rattle.generator.specs.Outcome.{load_count}
use Rattle.generator.proofs.LoadAnswers.{counted_inside}
use Rattle.load.proofs.write_load.Goals as goal

pub slice_bounds-room-end : goal.slice_bounds-room-end
slice_bounds-room-end c = omega (arith, counted_inside _ _ _ _ _ c.load_in_room.ensures.fact, ap load_count c.in-Ok.is)

pub slice_bounds-write_all-end : goal.slice_bounds-write_all-end
slice_bounds-write_all-end c = sym (length-take-le _ _ (omega (arith, counted_inside _ _ _ _ _ c.load_in_room.ensures.fact, ap load_count c.in-Ok.is)))
