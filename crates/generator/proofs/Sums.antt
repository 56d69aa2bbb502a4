-- The states of the draws: a sum modulo two to the 32.
use Rattle.std.proofs.Common.{◌≡◌, ℕ, zero, suc, ◌+◌, ◌*◌, ◌%◌, ◌<◌, arith}
use Rattle.generator.specs.Draws.{increment, states, state_after}

-- k draws add the increment k times.
pub state_sum : (start : ℕ) → start < states → (k : ℕ) → state_after start k ≡ (start + k * increment) % states
unfolding state_after
state_sum start h zero = omega arith
state_sum start h (suc k) = omega (arith, state_sum start h k)
