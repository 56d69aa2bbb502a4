-- Internal: guesses that are known to fail, whatever they are tested for.
use Rattle.std.specs.Prelude.{ℕ, ◌<◌, ◌≤◌, ◌≡◌, Bool, false, List, All}
use Rattle.std.specs.Int.Bits.{bit_and}
use Rattle.nogoods.specs.declared.nogood.Nogood.{Nogood}

-- Every guess is below this: a bit for each of the facts that are guessed at most.
abbrev pub guesses : ℕ
guesses = 65536

-- how many nogoods are kept at most
abbrev pub most_kept : ℕ
most_kept = 80

-- no guess from a up to b passes the test
abbrev pub Passed : (ℕ → Bool) → ℕ → ℕ → Type 0
Passed pass a b = (x : ℕ) → a ≤ x → x < b → pass x ≡ false

-- A nogood: no guess that has the value under the mask passes the test.
abbrev pub Refutes : (ℕ → Bool) → ℕ → ℕ → Type 0
Refutes pass mask value = (x : ℕ) → x < guesses → bit_and x mask ≡ value → pass x ≡ false

-- All of them are nogoods.
abbrev pub Stored : (ℕ → Bool) → List Nogood → Type 0
Stored pass nogoods = All (λ n. Refutes pass n.mask n.value) nogoods
