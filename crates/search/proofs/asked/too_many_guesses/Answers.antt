-- `too_many_guesses`: by the count at hand, or by counting.
use mathlib.Core.Path.{ap, ◌∙◌}
use lib.Dec.{ltb}
use Rattle.items.specs.Item.{max_guessed}
use Rattle.reader.specs.Questions.{constraint_facts}
use Rattle.search.proofs.SearchAsked.{few_enough}
use Rattle.search.proofs.asked.too_many_guesses.Goals as goal

pub returns-then-from-le-MAX_GUESSED : goal.returns-then-from-le-MAX_GUESSED
returns-then-from-le-MAX_GUESSED c = few_enough _ _ c.requires (rw c.from.ensures at c.if-from-le-MAX_GUESSED.true)

pub returns : goal.returns
unfolding constraint_facts
returns c = ap (ltb max_guessed) (c.from-2.ensures ∙ c.count_constraint_facts.ensures)
