-- `store_places`: what is stored behind the place at hand refutes, and each place at which the bounds agree gives one nogood more.
use mathlib.Core.Path.{sym, ◌∙◌}
use Rattle.guessing.proofs.BoundsStored.{stores_low, stores_high}
use Rattle.guessing.proofs.bounds.store_places.Goals as goal

pub loop-place-preserved-then-has_bit : goal.loop-place-preserved-then-has_bit
loop-place-preserved-then-has_bit c = stores_low c.loop-place.invariant c.loop-place-test.true c.requires.0 (sym c.has_bit.ensures ∙ c.if-has_bit.true)

pub loop-place-preserved : goal.loop-place-preserved
loop-place-preserved c = stores_high c.loop-place.invariant c.loop-place-test.true c.requires.0 (sym c.has_bit-in-loop-place.ensures ∙ c.if-has_bit-2.false)
