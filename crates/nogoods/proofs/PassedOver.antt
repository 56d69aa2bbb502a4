-- Guesses that are passed over: none of them passes the test.
use Prim.Native.Nat.{ℕ, ◌<◌, ◌≤◌}
use native.Mathlib.Decide.{dec_lt}
use native.Mathlib.Omega.{arith}
use mathlib.Core.Path.{◌≡◌, ◌∙◌}
use mathlib.Core.Bool.{Bool}
use mathlib.Core.Logic.{by_cases}
use lib.Bits.{bit_and}
use Rattle.nogoods.specs.Nogoods.{guesses, Passed, Refutes}

pub none_passed : (pass : ℕ → Bool) (from : ℕ) → Passed pass from from
none_passed pass from x l u = absurd (omega arith)

-- Where a nogood refutes a guess, it refutes all that have the same value under its mask.
pub more-passed : {pass : ℕ → Bool} {from : ℕ} (guess next mask value : ℕ) → next ≤ guesses → bit_and guess mask ≡ value
    → ((x : ℕ) → guess ≤ x → x < next → bit_and x mask ≡ bit_and guess mask)
    → Refutes pass mask value → Passed pass from guess → Passed pass from next
more-passed guess next mask value top met same refutes passed x l u =
    by_cases (dec_lt x guess) (λ v. passed x l v) (λ v. refutes x (omega arith) (same x (omega arith) u ∙ met))
