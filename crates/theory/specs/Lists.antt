-- Lists, for what is computed.
use Rattle.std.specs.Prelude.{ℕ, zero, suc, ◌+◌, Bool, true, false, List, [], ◌∷◌}
use Rattle.std.proofs.Math.Option.{Option, none, some}

-- the first element that passes the test
abbrev pub seek : (ℕ → Bool) → List ℕ → Option ℕ
seek p [] = none
seek p (x ∷ xs) = elim (p x) [ true ↦ some x | false ↦ seek p xs ]

-- the numbers below n, descending
abbrev pub down_from : ℕ → List ℕ
down_from zero = []
down_from (suc n) = n ∷ down_from n

-- the sum of the values of the elements
abbrev pub sum_of : (ℕ → ℕ) → List ℕ → ℕ
sum_of value [] = 0
sum_of value (x ∷ xs) = value x + sum_of value xs
