-- `premises_in`: what is to come decides what the whole does.
use mathlib.Core.Path.{ap, ◌∙◌}
use native.Mathlib.Omega.{arith}
use borrow.Author.Tests.{eq-eqb, ne_eqb}
use Rattle.theory.specs.Rule.{all}
use Rattle.theory.proofs.Lists.{element_below}
use Rattle.items.specs.Item.{has}
use Rattle.tables.proofs.PartsHeld.{none_tested, all_tested, test_fails, test_passes}
use Rattle.tables.proofs.layout.Tables.premises_in.Goals as goal

pub loop-fact-init : goal.loop-fact-init
loop-fact-init c = none_tested _ _

-- the element read is a fact of the program
pub bounds-set-wide : goal.bounds-set-wide
bounds-set-wide c = omega (arith, c.wide.ensures, element_below _ _ _ c.premises-fact-items.ensures.facts_below c.loop-fact-test.true, c.requires.set_len)

pub returns-then-set-wide-ne1 : goal.returns-then-set-wide-ne1
unfolding has
returns-then-set-wide-ne1 c =
    test_fails c.loop-fact.invariant c.loop-fact-test.true (rw (← c.wide.ensures) (ne_eqb _ _ c.if-set-wide-ne1.true))
    ∙ ap (all _) c.premises-fact-items.ensures.elements

pub loop-fact-preserved : goal.loop-fact-preserved
unfolding has
loop-fact-preserved c = test_passes c.loop-fact.invariant c.loop-fact-test.true (rw (← c.wide.ensures) (eq-eqb _ _ c.if-set-wide-ne1.false))

pub returns : goal.returns
returns c = all_tested c.loop-fact.invariant c.loop-fact-test.false ∙ ap (all _) c.premises-fact-items.ensures.elements
