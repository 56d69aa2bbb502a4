-- `next_open`: nothing that was passed over passes the test.
use Prim.Native.Nat.{ℕ, ◌-◌, ◌≤◌}
use mathlib.Core.Bool.{Bool}
use Rattle.nogoods.specs.Nogoods.{guesses, Stored, Passed}
use Rattle.nogoods.proofs.nogood.next_open.Given as goal

abbrev pub invariant-loop-guess : goal.invariant-loop-guess
invariant-loop-guess l = (l.from ≤ l.guess) × (l.guess ≤ guesses) × ((pass : ℕ → Bool) → Stored pass l.nogoods → Passed pass l.from l.guess)

abbrev pub decreases-loop-guess : goal.decreases-loop-guess
decreases-loop-guess l = guesses - l.guess
