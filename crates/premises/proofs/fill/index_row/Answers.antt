-- `index_row`: the rules at the places before are indexed.
use mathlib.Core.Path.{refl}
use borrow.Author.Tests.{lt-ltb}
use Rattle.premises.proofs.fill.index_row.Goals as goal

pub loop-place-preserved : goal.loop-place-preserved
loop-place-preserved c = c.index_next.ensures.indexing _ (lt-ltb _ _ c.loop-place-test.true) refl c.loop-place.invariant
