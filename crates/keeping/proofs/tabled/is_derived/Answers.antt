-- `is_derived`: a place past the marks is not marked.
use mathlib.Core.Path.{refl, sym}
use native.Mathlib.Omega.{arith}
use Rattle.items.specs.Item.{has}
use Rattle.marking.proofs.MarksPainted.{past_end}
use Rattle.keeping.proofs.tabled.is_derived.Goals as goal

pub returns-then-number-ge-MAX_FACTS : goal.returns-then-number-ge-MAX_FACTS
returns-then-number-ge-MAX_FACTS c = sym (past_end _ _ (omega (arith, c.requires, c.if-number-ge-MAX_FACTS.true)))

pub returns : goal.returns
unfolding has
returns c = refl
