-- `retain`: the first cells hold the kept of the rules passed.
use borrow.Author.Tests.{eq-eqb, ne_eqb}
use Rattle.items.specs.Item.{has}
use Rattle.kept_steps.proofs.StepsRetained.{one_retained, not-retained}
use Rattle.kept_steps.proofs.keep.retain.Goals as goal
use Rattle.kept_steps.proofs.keep.retain.Goals.{then-kept-k-eq-KEPT, else-kept-k-eq-KEPT}

pub loop-k-preserved : goal.loop-k-preserved
unfolding has
loop-k-preserved c =
    elim c.if-kept-k-eq-KEPT.branch [
      | then-kept-k-eq-KEPT w ↦ rw (w.out-is, w.n-is) (one_retained c.loop-k.invariant c.loop-k-test.true c.requires.0 (eq-eqb _ _ w.if-kept-k-eq-KEPT.true))
      | else-kept-k-eq-KEPT w ↦ rw (w.out-is, w.n-is) (not-retained c.loop-k.invariant c.loop-k-test.true (ne_eqb _ _ w.if-kept-k-eq-KEPT.false))
    ]
