-- `enter_set`: the facts before a number have entered.
use Prim.Native.Nat.{◌<◌}
use native.Mathlib.Omega.{arith}
use mathlib.Core.Path.{sym, ◌∙◌}
use borrow.Author.Tests.{eq-eqb, ne_eqb}
use lib.Seq.{get_or-take, length-take-le}
use Rattle.items.specs.Item.{has}
use Rattle.tables.proofs.ProgramHeld.{facts_below}
use Rattle.premises.proofs.SetEntered.{none_in, one_in, one_out, all_in}
use Rattle.premises.proofs.wake.enter_set.Goals as goal
use Rattle.premises.proofs.wake.enter_set.Goals.{then-inside, else-inside}

pub shared_ref_as_front-marks : goal.shared_ref_as_front-marks
shared_ref_as_front-marks c = omega (arith, c.facts-facts.ensures, facts_below c.args.tables.now.well_formed)

pub loop-f-init : goal.loop-f-init
loop-f-init c = none_in _ _ _ _ _

pub loop-f-preserved : goal.loop-f-preserved
unfolding has
loop-f-preserved c =
    let few = facts_below c.args.tables.now.well_formed in
    let low : c.loop-f.f < c.facts-facts.result = omega (arith, length-take-le c.facts-facts.result c.args.set.now (omega (arith, c.facts-facts.ensures, few))) in
    let same = get_or-take c.facts-facts.result c.args.set.now c.loop-f.f 0 low in
    elim c.if-inside.branch [
      | then-inside w ↦ rw (w.missing-is, w.awake-is) (one_in c.args.tables.now.well_formed.in_bounds c.loop-f.invariant (eq-eqb _ _ (sym same ∙ w.if-inside.true)) (omega (arith, c.facts-facts.ensures, few)) w.enter.ensures)
      | else-inside w ↦ rw (w.missing-is, w.awake-is) (one_out c.args.tables.now.well_formed.in_bounds c.loop-f.invariant (ne_eqb _ _ (λ e. w.if-inside.false (same ∙ e))))
    ]

pub returns : goal.returns
returns c = all_in c.args.tables.now.well_formed.in_bounds c.loop-f.invariant (omega (arith, c.facts-facts.ensures, length-take-le c.facts-facts.result c.args.set.now (omega (arith, c.facts-facts.ensures, facts_below c.args.tables.now.well_formed))))
