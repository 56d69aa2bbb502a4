-- `same_facts`: what is to come decides.
use mathlib.Core.Path.{◌≡◌, sym, ap₂, ◌∙◌}
use mathlib.Core.Bool.{Bool, beq}
use borrow.Author.Tests.{not-true, not-false}
use Rattle.items.specs.Item.{has}
use Rattle.theory.proofs.ListWalks.{whole-decides, not_tested, all_pass, one_fails, one_passes}
use Rattle.theory.proofs.Lists.{range_all, range_cons, range-end}
use Rattle.judge.proofs.stable.same_facts.Goals as goal
use Rattle.judge.proofs.stable.same_facts.Goals.{After-in_set-in-loop-f}

-- what the comparison of the two answers tells
compared : (c : After-in_set-in-loop-f) (t : Bool) → beq c.in_set.result c.in_set-in-loop-f.result ≡ t → beq (has c.args.a.now c.loop-f.f) (has c.args.b.now c.loop-f.f) ≡ t
compared c t q = ap₂ beq (sym c.in_set.ensures) (sym c.in_set-in-loop-f.ensures) ∙ q

pub loop-f-init : goal.loop-f-init
loop-f-init c = not_tested (whole-decides _ _) _ (range_all c.args.facts)

pub returns-then-in_set : goal.returns-then-in_set
returns-then-in_set c = one_fails c.loop-f.invariant _ _ (range_cons _ _ c.loop-f-test.true) (compared (goal.at.returns-then-in_set c).After-in_set-in-loop-f _ (not-true _ c.if-in_set.true))

pub loop-f-preserved : goal.loop-f-preserved
loop-f-preserved c = one_passes c.loop-f.invariant _ _ (range_cons _ _ c.loop-f-test.true) (compared (goal.at.loop-f-preserved c).After-in_set-in-loop-f _ (not-false _ c.if-in_set.false))

pub returns : goal.returns
returns c = all_pass c.loop-f.invariant (range-end _ _ c.loop-f-test.false)
