-- Internal: what is known while rules are indexed, and what one rule adds.
use Rattle.std.specs.Prelude.{ℕ, ◌<◌, ◌≤◌, ◌≡◌, Bool, true, false, ◌&&◌, ◌||◌, List, length, get_or, eqb, ltb}
use Rattle.theory.specs.Rule.{all, mem, how_many, up_to, nothing, Program, count}
use Rattle.items.specs.Item.{narrow, max_facts, max_rules}
use Rattle.bits.specs.Flags.{Flags}
use Rattle.bits.specs.Matrix.{Matrix}
use Rattle.premises.specs.Premises.{Places, asks_at, lacking, ripe}

-- The numbers of a list, no more than there may be rules, are rules of the program.
pub record Listed (P : Program) (row : List ℕ) : Type 0 where
  pub few : length row ≤ max_rules
  pub known : all (λ i. ltb i (count P)) row ≡ true

-- The index before it is filled: no place is marked. Behind the rows of the facts there may be more.
pub record Blank (asks missing awake : List ℕ) : Type 0 where
  pub none_asked : Matrix (max_facts narrow) (λ f k. false) asks
  pub rule_places : length missing ≡ max_rules
  pub none_awake : Flags nothing awake

-- the relation with the place beside each number of the list
abbrev pub adjoin_each : (ℕ → ℕ → Bool) → ℕ → List ℕ → (ℕ → ℕ → Bool)
adjoin_each q place xs = λ f k. mem f xs && eqb k place || q f k

-- The place is marked in the row of each key of the list, and the count is that of the list's numbers below a bound, each counted once.
pub record Entered (keys bound : ℕ) (q : ℕ → ℕ → Bool) (place : ℕ) (xs asks : List ℕ) (distinct : ℕ) : Type 0 where
  pub matrix : Matrix keys (adjoin_each q place xs) asks
  pub counted : distinct ≡ how_many (λ f. mem f xs) (up_to bound)

-- the places below n
abbrev pub first_places : Places → ℕ → Places
first_places R n = record { taken = λ k. ltb k n && R.taken k; holder = R.holder }

-- The rules at places below n are indexed.
pub record Indexing (P : Program) (R : Places) (n : ℕ) (asks missing awake : List ℕ) : Type 0 where
  pub asked : Matrix (max_facts narrow) (asks_at P (first_places R n)) asks
  pub places : length missing ≡ max_rules
  pub counts : (k : ℕ) → k < n → R.taken k ≡ true → get_or missing k 0 ≡ lacking P R nothing k
  pub woken : Flags (ripe P (first_places R n) nothing) awake
