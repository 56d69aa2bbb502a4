-- What waits is taken from the stack, one literal after another: a literal told for each that is put there, so what is left to tell and the
-- stack get fewer.
use Prim.Native.Nat.{suc, ◌-◌}
use native.Mathlib.Omega.{arith}
use mathlib.Core.Path.{◌∙◌}
use Rattle.tables.specs.Held.{held}
use Rattle.index.specs.Cells.{on_in}
use Rattle.propagation.specs.State.{Between}
use Rattle.propagation.proofs.LiteralsTold.{top_of, last-inside, not-waiting, true_spreads, held-as_before, told-less, passed_less, none_waits, now_settled, held_then}
use Rattle.propagation.proofs.spread.spread.Goals as goal
use Rattle.propagation.proofs.spread.spread.Goals.{In-loop-top}

-- the literal on top
here : (c : In-loop-top) → Between (held c.args.tables.now) (on_in c.args.index.now) c.loop-top.marks c.loop-top.missing c.loop-top.stack (suc (c.loop-top.top - 1))
here c = top_of c.loop-top.invariant.0 c.loop-top-test.true

pub offset_bounds-stack-top : goal.offset_bounds-stack-top
offset_bounds-stack-top c = omega (arith, last-inside (here c))

pub bounds-stack-top : goal.bounds-stack-top
bounds-stack-top c = last-inside (here (goal.at.bounds-stack-top c).In-loop-top)

pub tell-top-requires-clause-spreading : goal.tell-top-requires-clause-spreading
tell-top-requires-clause-spreading c = true_spreads (here (goal.at.tell-top-requires-clause-spreading c).In-loop-top) c.if-marks-literal-eq-WAITING.true

pub loop-top-smaller-then-marks-literal-eq-WAITING : goal.loop-top-smaller-then-marks-literal-eq-WAITING
loop-top-smaller-then-marks-literal-eq-WAITING c = told-less c.loop-top.invariant.0 c.loop-top-test.true c.if-marks-literal-eq-WAITING.true _ _ c.tell-top.ensures.onward

pub loop-top-preserved-then-marks-literal-eq-WAITING : goal.loop-top-preserved-then-marks-literal-eq-WAITING
loop-top-preserved-then-marks-literal-eq-WAITING c = (c.tell-top.ensures.between, λ k. held-as_before (here (goal.at.loop-top-preserved-then-marks-literal-eq-WAITING c).In-loop-top) c.if-marks-literal-eq-WAITING.true c.tell-top.ensures.onward k ∙ c.loop-top.invariant.1 k)

pub loop-top-smaller : goal.loop-top-smaller
loop-top-smaller c = passed_less c.loop-top.invariant.0 c.loop-top-test.true

pub loop-top-preserved : goal.loop-top-preserved
loop-top-preserved c = (not-waiting (here (goal.at.loop-top-preserved c).In-loop-top) c.if-marks-literal-eq-WAITING.false, c.loop-top.invariant.1)

pub returns : goal.returns
returns c = record {
  settled = now_settled (none_waits c.loop-top.invariant.0 c.loop-top-test.false);
  by_index = λ k. held_then (none_waits c.loop-top.invariant.0 c.loop-top-test.false) k ∙ c.loop-top.invariant.1 k;
}
