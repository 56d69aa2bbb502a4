-- The draws of a test load (document 02, wish 5). Draws are counted from 0.
use Rattle.std.specs.Prelude.{ℕ, zero, suc, ◌+◌, ◌/◌, ◌%◌, ◌^◌}

-- What each draw adds to the state, where the state wraps, and what it is divided by.
abbrev pub increment : ℕ
increment = 2654435769

abbrev pub states : ℕ
states = 2 ^ 32

abbrev pub divisor : ℕ
divisor = 65536

-- "Each draw adds 2,654,435,769 to the state, wrapping at 32 bits": the state behind the first k draws from a start.
unfoldable pub state_after : ℕ → ℕ → ℕ
state_after start zero = start
state_after start (suc k) = (state_after start k + increment) % states

-- ".. and takes state / 65,536, whole part, modulo n".
unfoldable pub taken : ℕ → ℕ → ℕ
taken n state = state / divisor % n

-- What draw k takes.
abbrev pub draw : ℕ → ℕ → ℕ → ℕ
draw start n k = taken n (state_after start (suc k))
