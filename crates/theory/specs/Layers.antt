-- Layered programs (document 02, wish 4): ranks of facts, cycles of dependencies that go through a constraint, and the order of exception rules by
-- rank. `layered_least` and `unlayered_cycle` in proofs/Ranks, `rank_sorted` and `rank_run_stable` in proofs/Layered say
-- what the computed half means.
use Rattle.std.specs.Prelude.{ℕ, suc, ◌*◌, ◌<◌, ◌≤◌, ◌≡◌, Bool, true, false, cond, not, ◌&&◌, ◌||◌, List, [], ◌∷◌, length, get_or, eqb, ltb, leb, ◌⊎◌}
use Rattle.std.proofs.Math.Option.{Option}
use Rattle.theory.specs.Rule.{any, mem, up_to, by_key, Program, Mask, count, rule, exception}
use Rattle.theory.specs.Lists.{seek}
use Rattle.theory.specs.Walk.{picks, after}

-- Each fact has a rank: at least that of every premise of its rules in force, above that of every constraint.
pub record Ranks (P : Program) (on : Mask) (rank : ℕ → ℕ) : Type 0 where
  pub not_below : (i : ℕ) → i < count P → on i ≡ true → (f : ℕ) → mem f (rule P i).premises ≡ true → rank f ≤ rank (rule P i).conclusion
  pub above : (i : ℕ) → i < count P → on i ≡ true → (f : ℕ) → mem f (rule P i).constraints ≡ true → rank f < rank (rule P i).conclusion

-- The least ranks, fact by fact: 0 where nothing forces more.
pub record LeastRanks (P : Program) (on : Mask) (rank : ℕ → ℕ) : Type 0 where
  pub ranks : Ranks P on rank
  pub least : (other : ℕ → ℕ) → Ranks P on other → (f : ℕ) → rank f ≤ other f

-- A dependency: by a rule, on a fact, which is a constraint of the rule or a premise.
pub record Link : Type 0 where
  pub by : ℕ
  pub to : ℕ
  pub barring : Bool

-- The fact f has the dependency: the rule is one in force that concludes f.
pub record Depends (P : Program) (on : Mask) (f : ℕ) (l : Link) : Type 0 where
  pub known : l.by < count P
  pub in-force : on l.by ≡ true
  pub concludes : (rule P l.by).conclusion ≡ f
  pub names : mem l.to (cond l.barring (rule P l.by).constraints (rule P l.by).premises) ≡ true

-- A row of dependencies that leads from f to g, each from where the one before ends.
abbrev pub Chain : Program → Mask → ℕ → List Link → ℕ → Type 0
Chain P on f [] g = f ≡ g
Chain P on f (l ∷ ls) g = Depends P on f l × Chain P on l.to ls g

-- at least one is by a constraint
abbrev pub barred : List Link → Bool
barred [] = false
barred (l ∷ ls) = l.barring || barred ls

-- A cycle of dependencies that goes through a constraint.
pub record Cycle (P : Program) (on : Mask) : Type 0 where
  pub at : ℕ
  pub links : List Link
  pub chain : Chain P on at links at
  pub through : barred links ≡ true

-- Of two rules in force the first has a conclusion of lower rank, or one of the same rank and the lower number.
abbrev pub LowerRank : Program → (ℕ → ℕ) → ℕ → ℕ → Type 0
LowerRank P rank i j =
    (rank (rule P i).conclusion < rank (rule P j).conclusion)
    ⊎ ((rank (rule P i).conclusion ≡ rank (rule P j).conclusion) × (i < j))

-- Rule i stands before rule j: both are in force, and it has the lower rank or number; or it alone is in force; or neither is, and it has the lower number.
abbrev pub RankedBefore : Program → Mask → (ℕ → ℕ) → ℕ → ℕ → Type 0
RankedBefore P on rank i j =
    (((on i ≡ true) × (on j ≡ true)) × LowerRank P rank i j)
    ⊎ (((on i ≡ true) × (on j ≡ false)) ⊎ (((on i ≡ false) × (on j ≡ false)) × (i < j)))

-- A row names the rules in force by the rank of their conclusions, then by number, and behind them the others, ascending.
abbrev pub ByRank : Program → Mask → (ℕ → ℕ) → List ℕ → Type 0
ByRank P on rank row = (j k : ℕ) → j < k → k < length row → RankedBefore P on rank (get_or row j 0) (get_or row k 0)

-- Computed: the highest of some numbers, 0 where there is none.
abbrev pub higher : ℕ → ℕ → ℕ
higher a b = cond (leb a b) b a

abbrev pub highest : (ℕ → ℕ) → List ℕ → ℕ
highest value [] = 0
highest value (f ∷ fs) = higher (value f) (highest value fs)

-- The rank that rule i asks of its conclusion.
unfoldable pub asks : Program → (ℕ → ℕ) → ℕ → ℕ
asks P rank i = higher (highest rank (rule P i).premises) (highest (λ k. suc (rank k)) (rule P i).constraints)

-- a rule in force that asks for more than its conclusion has
unfoldable pub lacking : Program → Mask → (ℕ → ℕ) → ℕ → Bool
lacking P on rank i = on i && ltb (rank (rule P i).conclusion) (asks P rank i)

-- its conclusion gets the rank that it asks
abbrev pub raise : Program → (ℕ → ℕ) → ℕ → (ℕ → ℕ)
raise P rank i = λ f. cond (eqb f (rule P i).conclusion) (asks P rank i) (rank f)

abbrev pub all_zero : ℕ → ℕ
all_zero f = 0

abbrev pub lowest_lacking : Program → Mask → (ℕ → ℕ) → Option ℕ
lowest_lacking P on rank = seek (lacking P on rank) (up_to (count P))

-- The ranks, from 0 on, while some rule asks for more. Where there are ranks at all, each is below the count of facts, or there is no fact; so that many
-- turns are enough.
unfoldable pub ranks_of : Program → Mask → ℕ → ℕ
ranks_of P on = after (raise P) all_zero (picks (lowest_lacking P on) (raise P) (suc P.facts * suc P.facts) all_zero)

-- Is there an end of it?
unfoldable pub is_layered : Program → Mask → Bool
is_layered P on = not (any (lacking P on (ranks_of P on)) (up_to (count P)))

-- The key of a rule in the order: the rank of its conclusion. Rules that are not in force come last.
abbrev pub rank_key : Program → Mask → (ℕ → ℕ) → ℕ → ℕ
rank_key P on rank i = cond (on i) (rank (rule P i).conclusion) P.facts

-- The order that is handed out: the exception rules in force by least rank of conclusion, then by number; behind them those that are not, ascending.
unfoldable pub layered_order : Program → Mask → List ℕ
layered_order P on = by_key (exception P) (rank_key P on (ranks_of P on)) (count P) 0 (suc P.facts)
