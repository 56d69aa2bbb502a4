-- Internal: what every guess that fits has, and what it can have at most.
use Rattle.std.specs.Prelude.{ℕ, ◌^◌, ◌<◌, ◌≡◌, Bool, true, List, length}
use Rattle.std.specs.Int.Bits.{bit_xor}
use Rattle.theory.specs.Rule.{Program}
use Rattle.theory.specs.Guesses.{bit, fact_at}
use Rattle.items.specs.Item.{has}
use Rattle.nogoods.specs.Nogoods.{Refutes}
use Rattle.guessing.specs.Guessing.{derived_by, fits_at}

-- The facts of the row that are marked, as a number.
pub record Gathered (row marks : List ℕ) (number : ℕ) : Type 0 where
  pub small : number < 2 ^ length row
  pub bits : (j : ℕ) → j < length row → bit number j ≡ has marks (fact_at row j)

-- The facts of the row that a guess derives, as a number.
pub record Responds (P : Program) (row base : List ℕ) (g number : ℕ) : Type 0 where
  pub small : number < 2 ^ length row
  pub bits : (j : ℕ) → j < length row → bit number j ≡ derived_by P row base g (fact_at row j)

-- At the first so many places every guess that passes the test has the bits of low, and no bit that high lacks.
pub record BitsBetween (pass : ℕ → Bool) (places low high : ℕ) : Type 0 where
  pub has_low : (x j : ℕ) → pass x ≡ true → j < places → bit low j ≡ true → bit x j ≡ true
  pub in_high : (x j : ℕ) → pass x ≡ true → j < places → bit x j ≡ true → bit high j ≡ true

-- Every guess that fits lies between.
pub record Between (P : Program) (row base : List ℕ) (low high : ℕ) : Type 0 where
  pub bits : BitsBetween (fits_at P row base) (length row) low high

-- Neither of the bounds passes the test: between them, no guess without the bits in which they differ, and none with all of these.
pub record EndsRefuted (pass : ℕ → Bool) (low high : ℕ) : Type 0 where
  pub low_fails : Refutes pass (bit_xor low high) 0
  pub high_fails : Refutes pass (bit_xor low high) (bit_xor low high)
