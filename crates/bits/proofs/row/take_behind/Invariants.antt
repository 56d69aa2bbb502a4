-- `take_behind`: the words passed are 0.
use Prim.Native.Nat.{ℕ, ◌<◌, ◌≤◌}
use mathlib.Core.Path.{◌≡◌}
use lib.ListN.{get_or}
use Rattle.bits.proofs.row.take_behind.Given as goal

abbrev pub invariant-loop-at : goal.invariant-loop-at
invariant-loop-at l = (l.row ≡ l.initial.row) × ((k : ℕ) → l.from ≤ k → k < l.at → get_or l.row k 0 ≡ 0)
