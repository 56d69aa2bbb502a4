-- Internal: where a walk along dependencies stands.
use Rattle.std.specs.Prelude.{ℕ, ◌+◌, ◌-◌, ◌*◌, ◌<◌, ◌≤◌, ◌≡◌, true, false, cond, List, ◌⊎◌, length, get_or, eqb, Result, Ok, Err}
use Rattle.theory.specs.Rule.{mem, up_to, Program, in_force, count, rule}
use Rattle.theory.specs.Conditions.{Bounded}
use Rattle.theory.specs.Lists.{sum_of}
use Rattle.theory.specs.Layers.{LeastRanks, Cycle, is_layered}
use Rattle.theory.specs.Places.{rank_in}
use Rattle.items.specs.Item.{narrow, max_facts, max_rules}
use Rattle.tables.specs.Ranking.{RanksSoFar}
use Rattle.threads.specs.Threads.{thread_end}
use Rattle.components.specs.declared.look.Cyclic.{Cyclic}
use Rattle.components.specs.Open.{unmet, closed, seen_of, opener_at, root_place, unmet_count, Walking, Current}
use Rattle.components.specs.declared.«open».Standing.{Standing}
use Rattle.descent.specs.declared.walk.Walker.{Walker}

-- The key of a rule in force is its conclusion. Another rule has the end for its key, so it stands in no thread.
abbrev pub rule_key : Program → ℕ → ℕ
rule_key P i = cond (in_force P i) (rule P i).conclusion thread_end

-- Rule i is a rule of the fact f: it is in force and concludes it.
pub record RuleOf (P : Program) (f i : ℕ) : Type 0 where
  pub known : i < count P
  pub in-force : in_force P i ≡ true
  pub concludes : (rule P i).conclusion ≡ f

-- Each fact's next rule to look at is a rule of it, or none is left; and from each rule the next one has a higher number and is a rule of the same fact, and
-- no such rule stands between the two.
pub record Threads (P : Program) (todo next : List ℕ) : Type 0 where
  pub todo_places : length todo ≡ max_facts narrow
  pub next_places : length next ≡ max_rules
  pub todo_rule : (f : ℕ) → f < P.facts → (get_or todo f 0 ≡ thread_end) ⊎ RuleOf P f (get_or todo f 0)
  pub next_rule : (f i : ℕ) → RuleOf P f i → (get_or next i 0 ≡ thread_end) ⊎ ((i < get_or next i 0) × RuleOf P f (get_or next i 0))
  pub next_least : (f i j : ℕ) → RuleOf P f i → RuleOf P f j → i < j → get_or next i 0 ≤ j

-- How far the threads of all facts are from their ends, by rule numbers.
abbrev pub threads_left : Program → List ℕ → ℕ
threads_left P todo = sum_of (λ f. thread_end - get_or todo f 0) (up_to P.facts)

-- What is left to be done: it falls with each turn of the walk. `at` is the place that is looked at, n how many facts are open.
abbrev pub turns_left : Program → List ℕ → List ℕ → ℕ → ℕ → ℕ
turns_left P seen todo n at = (unmet_count P seen + threads_left P todo) * (max_facts narrow + 1) + cond (eqb n 0) 0 (at + 1)

-- Two open facts are of one component as far as is known: no root stands between them.
abbrev pub Together : List ℕ → ℕ → ℕ → ℕ → Type 0
Together roots m a b = (t : ℕ) → t < m → (root_place roots t ≤ a → root_place roots t ≤ b) × (root_place roots t ≤ b → root_place roots t ≤ a)

-- Rule i was looked at: its conclusion is closed, or it is open and its next rule is a later one.
abbrev pub WasLooked : Program → List ℕ → List ℕ → ℕ → Type 0
WasLooked P seen todo i = (seen_of seen (rule P i).conclusion ≡ closed) ⊎ ((seen_of seen (rule P i).conclusion < max_facts narrow) × (i < get_or todo (rule P i).conclusion 0))

-- Then each premise of it is closed with a rank that is not above that of the conclusion, or both are open in one component; ..
abbrev pub PremiseHeld : List ℕ → List ℕ → List ℕ → ℕ → ℕ → ℕ → Type 0
PremiseHeld seen roots ranks m f g =
    ((seen_of seen g ≡ closed) × (rank_in ranks g ≤ rank_in ranks f))
    ⊎ ((seen_of seen f < max_facts narrow) × ((seen_of seen g < max_facts narrow) × Together roots m (seen_of seen f) (seen_of seen g)))

-- .. and each constraint is closed with a lower rank.
abbrev pub ConstraintHeld : List ℕ → List ℕ → ℕ → ℕ → Type 0
ConstraintHeld seen ranks f k = (seen_of seen k ≡ closed) × (rank_in ranks k < rank_in ranks f)

-- What the rules in force that were looked at have come to, where the fact at the place `at` is looked at.
pub record Looked (P : Program) (seen stack roots todo ranks : List ℕ) (n m at : ℕ) : Type 0 where
  pub bounds : Bounded P
  pub few_rules : count P ≤ max_rules
  pub known : (f : ℕ) → f < P.facts → (seen_of seen f ≡ unmet) ⊎ ((seen_of seen f ≡ closed) ⊎ (seen_of seen f < max_facts narrow))
  pub premises : (i : ℕ) → i < count P → in_force P i ≡ true → WasLooked P seen todo i → (g : ℕ) → mem g (rule P i).premises ≡ true → PremiseHeld seen roots ranks m (rule P i).conclusion g
  pub constraints : (i : ℕ) → i < count P → in_force P i ≡ true → WasLooked P seen todo i → (k : ℕ) → mem k (rule P i).constraints ≡ true → ConstraintHeld seen ranks (rule P i).conclusion k
  -- no rule of a fact that was not met was looked at
  pub none_yet : (i : ℕ) → i < count P → in_force P i ≡ true → seen_of seen (rule P i).conclusion ≡ unmet → get_or todo (rule P i).conclusion 0 ≤ i
  -- no rule is left of the facts behind the one that is looked at, nor of those between an open fact and the one that opened it
  pub none_behind : (f : ℕ) → f < P.facts → seen_of seen f < max_facts narrow → at < seen_of seen f → get_or todo f 0 ≡ thread_end
  pub none_between : (b f : ℕ) → b < n → f < P.facts → opener_at stack b < seen_of seen f → seen_of seen f < b → get_or todo f 0 ≡ thread_end
  -- no rank is above the number of facts that are closed, and that of a closed fact is below it
  pub few_ranks : (f : ℕ) → rank_in ranks f + (n + unmet_count P seen) ≤ P.facts
  pub closed_fewer : (f : ℕ) → f < P.facts → seen_of seen f ≡ closed → rank_in ranks f + (n + unmet_count P seen) < P.facts

-- No fact that was met is unmet again.
abbrev pub StaysMet : List ℕ → List ℕ → Type 0
StaysMet seen seen' = (f : ℕ) → seen_of seen' f ≡ unmet → seen_of seen f ≡ unmet

-- Where the walk stands: n facts open, m roots, at the place that is looked at.
pub record Stands (P : Program) (seen stack roots todo next ranks : List ℕ) (s : Standing) : Type 0 where
  pub walking : Walking P seen stack roots s.height s.roots
  pub current : 0 < s.height → Current roots s.height s.roots s.at
  pub threads : Threads P todo next
  pub so_far : RanksSoFar P ranks
  pub looked : Looked P seen stack roots todo ranks s.height s.roots s.at

abbrev pub WalkStands : Program → List ℕ → Walker → Type 0
WalkStands P next w = Stands P w.seen w.stack w.roots w.todo next w.ranks w.standing

-- A turn of the walk that goes on: less is left to be done.
abbrev pub Turned : Program → List ℕ → List ℕ → Standing → List ℕ → Standing → List ℕ → List ℕ → List ℕ → List ℕ → List ℕ → Type 0
Turned P seen todo s next s' seen' stack' roots' todo' ranks' =
    Stands P seen' stack' roots' todo' next ranks' s' × ((turns_left P seen' todo' s'.height s'.at < turns_left P seen todo s.height s.at) × StaysMet seen seen')

-- A turn of the walk: it goes on with less to do, or has met a cycle.
abbrev pub TurnLeaves : Program → List ℕ → Walker → Result Unit Cyclic → Walker → Type 0
TurnLeaves P next w (Ok _) w' = Turned P w.seen w.todo w.standing next w'.standing w'.seen w'.stack w'.roots w'.todo w'.ranks
TurnLeaves P next w (Err _) w' = Cycle P (in_force P)

-- No fact is open: between two walks.
pub record Rests (P : Program) (seen stack roots todo next ranks : List ℕ) : Type 0 where
  pub walking : Walking P seen stack roots 0 0
  pub threads : Threads P todo next
  pub so_far : RanksSoFar P ranks
  pub looked : Looked P seen stack roots todo ranks 0 0 0

abbrev pub WalkRests : Program → List ℕ → Walker → Type 0
WalkRests P next w = Rests P w.seen w.stack w.roots w.todo next w.ranks

-- A walk from a fact ends with no fact open and this one met, or has met a cycle.
abbrev pub WalkLeaves : Program → List ℕ → Walker → ℕ → Result Unit Cyclic → Walker → Type 0
WalkLeaves P next w f (Ok _) w' = WalkRests P next w' × (StaysMet w.seen w'.seen × (seen_of w'.seen f ≡ unmet → ⊥))
WalkLeaves P next w f (Err _) w' = Cycle P (in_force P)

-- The walk over all facts: the ranks are the least ones; or there are none.
abbrev pub RanksFound : Program → Result (List ℕ) Cyclic → Type 0
RanksFound P (Ok ranks) = (is_layered P (in_force P) ≡ true) × LeastRanks P (in_force P) (rank_in ranks)
RanksFound P (Err _) = is_layered P (in_force P) ≡ false
