-- `constraints_clear`: what is to come decides what the whole does.
use mathlib.Core.Path.{ap, ◌∙◌}
use mathlib.Core.Bool.{not}
use native.Mathlib.Omega.{arith}
use borrow.Author.Tests.{eq-eqb, ne_eqb}
use Rattle.items.specs.Item.{has}
use Rattle.tables.proofs.PartsHeld.{clear-reversed, none_tested, all-tested_back, test-fails_back, test-passes_back, element-below_back}
use Rattle.tables.proofs.layout.Tables.constraints_clear.Goals as goal

pub loop-place-init : goal.loop-place-init
loop-place-init c = none_tested _ _

-- the element read is a fact of the program
pub bounds-set-wide : goal.bounds-set-wide
bounds-set-wide c = omega (arith, c.wide.ensures, c.in_file_order-fact.ensures, element-below_back _ _ _ c.constraints-own.ensures.facts_below c.loop-place-test.true, c.requires.set_len)

pub returns-then-set-wide-eq1 : goal.returns-then-set-wide-eq1
unfolding has
returns-then-set-wide-eq1 c =
    test-fails_back _ c.loop-place.invariant c.loop-place-test.true c.in_file_order-fact.ensures (rw (← c.wide.ensures) (ap not (eq-eqb _ _ c.if-set-wide-eq1.true)))
    ∙ clear-reversed _ c.constraints-own.ensures.elements (has c.args.set.now)

pub loop-place-preserved : goal.loop-place-preserved
unfolding has
loop-place-preserved c = test-passes_back _ c.loop-place.invariant c.loop-place-test.true c.in_file_order-fact.ensures (rw (← c.wide.ensures) (ap not (ne_eqb _ _ c.if-set-wide-eq1.false)))

pub returns : goal.returns
returns c = all-tested_back _ c.loop-place.invariant c.loop-place-test.false ∙ clear-reversed _ c.constraints-own.ensures.elements (has c.args.set.now)
