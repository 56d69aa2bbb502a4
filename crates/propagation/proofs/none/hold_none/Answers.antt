-- Of the rules before rule i, those that ask nothing have their conclusions.
use Prim.Native.Nat.{ℕ, ◌<◌}
use native.Mathlib.Omega.{arith}
use lib.ListN.{replicate, length-replicate}
use Rattle.tables.specs.Held.{held}
use Rattle.theory.specs.Rule.{count}
use Rattle.index.specs.Literal.{literals}
use Rattle.propagation.proofs.FactsHeldOut.{none_started, on_asking, on_asking_nothing, still_none}
use Rattle.propagation.proofs.none.hold_none.Goals as goal
use Rattle.propagation.proofs.none.hold_none.Goals.{In-loop-i, then-missing-i-eq0, else-missing-i-eq0}

below : (c : In-loop-i) → c.loop-i.i < count (held c.args.tables.now)
below c = omega (arith, c.loop-i-test.true, c.rules-i-end.ensures)

pub loop-i-init : goal.loop-i-init
loop-i-init c = none_started c.requires.sized.1 (replicate literals 0) (length-replicate {A = ℕ} literals 0) c.requires.sized.0

pub loop-i-preserved : goal.loop-i-preserved
loop-i-preserved c =
    let w = c.loop-i.invariant in
    elim c.if-missing-i-eq0.branch [
      | then-missing-i-eq0 v ↦ on_asking_nothing w (below (goal.at.loop-i-preserved c).In-loop-i) v.if-missing-i-eq0.true _ _ _ v.conclude-top.ensures _ _ _ v.marks-is v.stack-is v.top-is
      | else-missing-i-eq0 v ↦ on_asking w v.if-missing-i-eq0.false _ _ _ v.marks-is v.stack-is v.top-is
    ]

pub returns : goal.returns
returns c = record {
  settled = c.spread.ensures.settled;
  held_too = still_none c.requires.sized.1 _ _ c.loop-i.invariant.none_out c.spread.ensures.by_index;
}
