-- `mark_lane`: fact by fact.
use Prim.Native.Nat.{ℕ, ◌≤◌}
use mathlib.Core.Path.{◌≡◌}
use lib.ListN.{get_or}
use Rattle.lanes.proofs.LaneMarked.{Marking}
use Rattle.lanes.proofs.fit.mark_lane.Given as goal

abbrev pub invariant-loop-fact : goal.invariant-loop-fact
invariant-loop-fact l = record {
  marked : Marking l.derived l.word l.bit l.found l.fact;
  rest : (f : ℕ) → l.fact ≤ f → get_or l.found f 0 ≡ 0;
}
