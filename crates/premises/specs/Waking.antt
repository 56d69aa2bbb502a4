-- Internal: the rules that ask a fact lack one premise less.
use Rattle.std.specs.Prelude.{ℕ, ◌+◌, ◌-◌, ◌*◌, ◌≡◌, Bool, true, not, ◌&&◌, ◌||◌, List, length, get_or, eqb, ltb}
use Rattle.theory.specs.Rule.{all, Program, count}
use Rattle.items.specs.Item.{max_rules}
use Rattle.bits.specs.Flags.{word_bits, digit, Flags}

-- the count of place k, less one where it is one of the places
abbrev pub less_at : (ℕ → Bool) → List ℕ → ℕ → ℕ
less_at p missing k = get_or missing k 0 - digit (p k)

-- those awake, and those of the places whose count is now 0
abbrev pub woken_at : (ℕ → Bool) → (ℕ → Bool) → List ℕ → ℕ → Bool
woken_at p w missing k = w k || p k && eqb (less_at p missing k) 0

pub record Lowered (p w : ℕ → Bool) (before after awake : List ℕ) : Type 0 where
  pub places : length after ≡ max_rules
  pub counts : (k : ℕ) → get_or after k 0 ≡ less_at p before k
  pub woken : Flags (woken_at p w before) awake

-- the places from the word numbered `at` on, and those of that word alone
abbrev pub from_word : ℕ → (ℕ → Bool) → ℕ → Bool
from_word at p k = not (ltb k (at * word_bits)) && p k

abbrev pub in_word : ℕ → (ℕ → Bool) → ℕ → Bool
in_word at p k = ltb k (at * word_bits + word_bits) && from_word at p k

-- The numbers of a list are rules of the program.
pub record RulesAlone (P : Program) (fired : List ℕ) : Type 0 where
  pub known : all (λ i. ltb i (count P)) fired ≡ true
