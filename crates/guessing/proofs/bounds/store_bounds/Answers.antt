-- `store_bounds`: the nogoods of the places, and two of the bounds themselves.
use Rattle.guessing.proofs.BoundsStored.{ends_stored}
use Rattle.guessing.proofs.bounds.store_bounds.Goals as goal

pub returns-then-bounds-clause-by_index : goal.returns-then-bounds-clause-by_index
returns-then-bounds-clause-by_index c pass between e = let w = c.store_places-kept.ensures in
    ends_stored c.store_places-kept.new.nogoods c.store_places-kept.result w.upper_bound.0 w.upper_bound.1 (w.by_index pass between) (e c.if-bounds.true)
