-- Internal: the walk along dependencies that finds the strong components (sets of facts each of which depends on each other), after Gabow: facts are
-- open from when they are met until their component is closed, and stand on a stack; some of them are roots, where a component begins as far as is known.
use Rattle.std.specs.Prelude.{ℕ, ◌+◌, ◌-◌, ◌/◌, ◌%◌, ◌<◌, ◌≤◌, ◌≡◌, Bool, true, false, cond, not, List, length, get_or, eqb, ltb, Result, Ok, Err}
use Rattle.theory.specs.Rule.{how_many, up_to, Program, in_force}
use Rattle.theory.specs.Layers.{Link, Chain, barred}
use Rattle.items.specs.Item.{narrow, max_facts}
use Rattle.theory.specs.Places.{rank_in}
use Rattle.components.specs.declared.look.Cyclic.{Cyclic}

-- f depends on g, directly or not, or is g; .. and by a constraint on the way.
abbrev pub Reaches : Program → ℕ → ℕ → Type 0
Reaches P f g = (ls : List Link) × Chain P (in_force P) f ls g

abbrev pub ReachesBarred : Program → ℕ → ℕ → Type 0
ReachesBarred P f g = (ls : List Link) × (Chain P (in_force P) f ls g × (barred ls ≡ true))

-- What is known of a fact: its place on the stack, or that it was not met, or that it is closed.
abbrev pub unmet : ℕ
unmet = 65535

abbrev pub closed : ℕ
closed = 65534

-- where no fact is open
abbrev pub nowhere : ℕ
nowhere = 65535

abbrev pub seen_of : List ℕ → ℕ → ℕ
seen_of seen f = get_or seen f 0

-- A cell of the stack has the fact that stands there and, 256 times, the place of the fact that opened it.
unfoldable pub fact_at : List ℕ → ℕ → ℕ
fact_at stack a = get_or stack a 0 % max_facts narrow

unfoldable pub opener_at : List ℕ → ℕ → ℕ
opener_at stack a = get_or stack a 0 / max_facts narrow

-- A root has its place, and behind the last place there stand the roots that were met by a constraint.
unfoldable pub root_place : List ℕ → ℕ → ℕ
root_place roots t = cond (ltb (get_or roots t 0) (max_facts narrow)) (get_or roots t 0) (get_or roots t 0 - max_facts narrow)

unfoldable pub root_barred : List ℕ → ℕ → Bool
root_barred roots t = not (ltb (get_or roots t 0) (max_facts narrow))

-- how many facts were not met
abbrev pub unmet_count : Program → List ℕ → ℕ
unmet_count P seen = how_many (λ f. eqb (seen_of seen f) unmet) (up_to P.facts)

-- n facts are open, of which m are roots.
pub record Walking (P : Program) (seen stack roots : List ℕ) (n m : ℕ) : Type 0 where
  pub seen_places : length seen ≡ max_facts narrow
  pub stack_places : length stack ≡ max_facts narrow
  pub root_places : length roots ≡ max_facts narrow
  pub room : n + unmet_count P seen ≤ P.facts
  pub few : P.facts < max_facts narrow
  -- the stack and the places agree
  pub fact_there : (a : ℕ) → a < n → (fact_at stack a < P.facts) × (seen_of seen (fact_at stack a) ≡ a)
  pub place_there : (f : ℕ) → f < P.facts → seen_of seen f < max_facts narrow → (seen_of seen f < n) × (fact_at stack (seen_of seen f) ≡ f)
  -- each fact but the first was opened by an earlier one, and no root stands between the two
  pub opener_earlier : (a : ℕ) → 0 < a → a < n → opener_at stack a < a
  pub opener_rooted : (a t : ℕ) → 0 < a → a < n → t < m → root_place roots t < a → root_place roots t ≤ opener_at stack a
  -- the first open fact is a root, and the roots ascend
  pub first_root : 0 < n → (0 < m) × (root_place roots 0 ≡ 0)
  pub root_inside : (t : ℕ) → t < m → (t ≤ root_place roots t) × (root_place roots t < n)
  pub ascending : (t u : ℕ) → t < u → u < m → root_place roots t < root_place roots u
  -- a fact depends on every later one, and on an earlier one where no root stands between them: each root behind the earlier one is behind both
  pub reaches : (a b : ℕ) → a < n → b < n → ((t : ℕ) → t < m → b < root_place roots t → a < root_place roots t) → Reaches P (fact_at stack a) (fact_at stack b)
  -- on a root that was met by a constraint every earlier fact depends by a constraint
  pub barred_root : (t : ℕ) → t < m → root_barred roots t ≡ true → (a : ℕ) → a < root_place roots t → ReachesBarred P (fact_at stack a) (fact_at stack (root_place roots t))

-- The fact that is looked at is in the last component: no root is behind it.
pub record Current (roots : List ℕ) (n m at : ℕ) : Type 0 where
  pub inside : at < n
  pub no_root_behind : (t : ℕ) → t < m → root_place roots t ≤ at

-- A fact may be opened: every open fact depends on it, by a constraint on the way where it was met by one.
abbrev pub MayOpen : Program → List ℕ → ℕ → ℕ → Bool → Type 0
MayOpen P stack n f barring = (a : ℕ) → a < n → Reaches P (fact_at stack a) f × (barring ≡ true → ReachesBarred P (fact_at stack a) f)

-- Fact f was opened by the fact that is looked at: it has the place n and is a root, and nothing else has changed.
pub record Opened (P : Program) (seen stack roots : List ℕ) (n m opener f : ℕ) (seen' stack' roots' : List ℕ) : Type 0 where
  pub walking : Walking P seen' stack' roots' (n + 1) (m + 1)
  pub fewer : unmet_count P seen ≡ unmet_count P seen' + 1
  pub place : seen_of seen' f ≡ n
  pub others : (g : ℕ) → (g ≡ f → ⊥) → seen_of seen' g ≡ seen_of seen g
  pub own_opener : opener_at stack' n ≡ opener
  pub openers : (a : ℕ) → a < n → opener_at stack' a ≡ opener_at stack a
  pub own_root : root_place roots' m ≡ n
  pub roots_kept : (t : ℕ) → t < m → root_place roots' t ≡ root_place roots t

-- The roots from `left` on are behind a place, and none of them was met by a constraint.
abbrev pub Gone : List ℕ → ℕ → ℕ → ℕ → Type 0
Gone roots m low left = (left ≤ m) × ((t : ℕ) → left ≤ t → t < m → (low < root_place roots t) × (root_barred roots t ≡ false))

-- Of the roots those behind a place go, none of them met by a constraint; or one of them was.
abbrev pub Merges : List ℕ → ℕ → ℕ → Result ℕ Cyclic → Type 0
Merges roots m low (Ok left) = Gone roots m low left × (0 < left → root_place roots (left - 1) ≤ low)
Merges roots m low (Err _) = (t : ℕ) × ((t < m) × ((low < root_place roots t) × (root_barred roots t ≡ true)))

-- The facts from one place up to another are closed, with the highest rank of any of them; nothing else has changed.
pub record ClosedFrom (stack : List ℕ) (from to : ℕ) (seen ranks seen' ranks' : List ℕ) : Type 0 where
  pub seen_places : length seen' ≡ length seen
  pub rank_places : length ranks' ≡ length ranks
  pub top : ℕ
  pub top_inside : (from ≤ top) × (top < to)
  pub top_highest : (a : ℕ) → from ≤ a → a < to → rank_in ranks (fact_at stack a) ≤ rank_in ranks (fact_at stack top)
  pub closes : (a : ℕ) → from ≤ a → a < to → (seen_of seen' (fact_at stack a) ≡ closed) × (rank_in ranks' (fact_at stack a) ≡ rank_in ranks (fact_at stack top))
  pub keeps : (f : ℕ) → ((a : ℕ) → from ≤ a → a < to → fact_at stack a ≡ f → ⊥) → (seen_of seen' f ≡ seen_of seen f) × (rank_in ranks' f ≡ rank_in ranks f)
