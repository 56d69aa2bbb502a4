-- `range_of`: the tables have the rule's place and the number of its items.
use Rattle.view.proofs.RuleRanges.{own_range}
use Rattle.view.proofs.range.range_of.Goals as goal

pub returns : goal.returns
returns c = own_range c.premises.ensures.elements c.constraints.ensures.elements (rw c.place.ensures at c.range_at.ensures)
