-- `in_set`: a place past the end holds no 1.
use mathlib.Core.Path.{refl, sym, ◌∙◌}
use borrow.Author.Tests.{le-ltb}
use Rattle.items.specs.Item.{has}
use Rattle.marking.proofs.MarksPainted.{past_end}
use Rattle.questions.proofs.fact_set.in_set.Goals as goal

pub returns-then-number-set : goal.returns-then-number-set
unfolding has
returns-then-number-set c = refl

pub returns-else-number-set : goal.returns-else-number-set
returns-else-number-set c = le-ltb _ _ c.if-number-set.false ∙ sym (past_end _ _ c.if-number-set.false)
