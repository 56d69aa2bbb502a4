-- `mark_lane`: fact by fact.
use Prim.Native.Nat.{ℕ}
use mathlib.Core.Path.{sym, ap, ◌∙◌}
use native.Mathlib.Omega.{arith}
use lib.ListN.{set, length-replicate}
use lib.Seq.{get_or-set_other, set-get_or}
use Rattle.theory.proofs.Lists.{zeros}
use Rattle.items.specs.Item.{narrow, max_facts}
use Rattle.lanes.proofs.LaneMarked.{none_marked, one_marked}
use Rattle.lanes.proofs.fit.mark_lane.Goals as goal
use Rattle.lanes.proofs.fit.mark_lane.Goals.{then-has_lane, else-has_lane}

pub loop-fact-init : goal.loop-fact-init
loop-fact-init c = record {
  marked = none_marked _ _ _ _ (length-replicate {A = ℕ} (max_facts narrow) 0);
  rest = λ f h. zeros (max_facts narrow) f;
}

pub loop-fact-preserved : goal.loop-fact-preserved
loop-fact-preserved c = let w = c.loop-fact.invariant in
    elim c.if-has_lane.branch [
      | then-has_lane b ↦ record {
        marked = one_marked w.marked c.loop-fact-test.true 1 b.if-has_lane.ensures b.found-is;
        rest = λ f h. rw b.found-is (get_or-set_other c.loop-fact.found c.loop-fact.fact f 1 0 (λ e. omega arith) ∙ w.rest f (omega arith));
      }
      | else-has_lane b ↦ record {
        marked = one_marked w.marked c.loop-fact-test.true 0 b.if-has_lane.ensures (b.found-is ∙ sym (ap (set c.loop-fact.found c.loop-fact.fact) (sym (w.rest c.loop-fact.fact (omega arith))) ∙ set-get_or c.loop-fact.found c.loop-fact.fact 0));
        rest = λ f h. rw b.found-is (w.rest f (omega arith));
      }
    ]
