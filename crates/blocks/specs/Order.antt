-- Internal: an order in which the rules in force are looked at. Which one is for speed alone.
use Rattle.std.specs.Prelude.{ℕ, ◌+◌, ◌<◌, ◌≤◌, ◌≡◌, true, not, List, length, get_or}
use Rattle.theory.specs.Rule.{all, how_many, up_to, Program, in_force, count, rule}
use Rattle.items.specs.Item.{max_rules, has}
use Rattle.premises.specs.Filling.{Listed}

-- The numbers of a row are rules in force, and every rule in force is one of them.
pub record InOrder (P : Program) (order : List ℕ) : Type 0 where
  pub listed : Listed P order
  pub only : (k : ℕ) → k < length order → in_force P (get_or order k 0) ≡ true
  pub every : (i : ℕ) → i < count P → in_force P i ≡ true → (k : ℕ) × (k < length order) × (get_or order k 0 ≡ i)

-- Some rules in force are listed, and marked.
pub record Placing (P : Program) (marks order : List ℕ) (names : ℕ) : Type 0 where
  pub mark_places : length marks ≡ max_rules
  pub order_places : length order ≡ max_rules
  -- there is room for the others
  pub room : names + how_many (λ i. not (has marks i)) (up_to (count P)) ≤ count P
  pub known : (k : ℕ) → k < names → get_or order k 0 < count P
  pub only : (k : ℕ) → k < names → in_force P (get_or order k 0) ≡ true
  pub every : (i : ℕ) → i < count P → has marks i ≡ true → (k : ℕ) × (k < names) × (get_or order k 0 ≡ i)

-- Every rule in force with its premises in the set is marked.
abbrev pub PlacedReady : Program → List ℕ → List ℕ → Type 0
PlacedReady P set marks = (i : ℕ) → i < count P → in_force P i ≡ true → all (has set) (rule P i).premises ≡ true → has marks i ≡ true
