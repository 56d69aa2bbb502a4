-- Internal: numbers by their places in a row.
use Rattle.std.specs.Prelude.{ℕ, List, get_or, eqb}
use Rattle.theory.specs.Rule.{keep, up_to}

-- the numbers below n at whose place the marks have m, ascending
unfoldable pub places_marked : ℕ → List ℕ → ℕ → List ℕ
places_marked m marks n = keep (λ i. eqb (get_or marks i 0) m) (up_to n)

-- the rank that a row has for a fact
abbrev pub rank_in : List ℕ → ℕ → ℕ
rank_in ranks f = get_or ranks f 0
