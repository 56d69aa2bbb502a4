-- Internal: rules by premise. Rules are known by places, and which rule has a place is left to who uses them.
use Rattle.std.specs.Prelude.{ℕ, ◌≡◌, Bool, true, not, ◌&&◌, ◌||◌, List, length, get_or, ltb}
use Rattle.theory.specs.Rule.{all, mem, how_many, up_to, Program, FactSet, rule, plain}
use Rattle.items.specs.Item.{narrow, max_facts, max_rules}
use Rattle.bits.specs.Matrix.{Matrix}

-- The places that rules have, and the rule at each of them.
pub record Places : Type 0 where
  pub taken : ℕ → Bool
  pub holder : ℕ → ℕ

-- The rules of a row, such as an order: each has its place there.
abbrev pub in_row : List ℕ → Places
in_row row = record { taken = λ k. ltb k (length row); holder = λ k. get_or row k 0 }

-- The plain rules of a program: each has its number for a place.
abbrev pub plain_ones : Program → Places
plain_ones P = record { taken = plain P; holder = λ k. k }

-- the premises of the rule at a place
abbrev pub premises_at : Program → Places → ℕ → List ℕ
premises_at P R k = (rule P (R.holder k)).premises

-- the rule at place k asks the fact
abbrev pub asks_at : Program → Places → ℕ → ℕ → Bool
asks_at P R f k = R.taken k && mem f (premises_at P R k)

-- The premises of the rule at place k that are not in the set: how many there are, each counted once.
abbrev pub lacks : Program → Places → FactSet → ℕ → ℕ → Bool
lacks P R S k f = mem f (premises_at P R k) && not (S f)

abbrev pub lacking : Program → Places → FactSet → ℕ → ℕ
lacking P R S k = how_many (lacks P R S k) (up_to P.facts)

-- The places whose rules have all their premises in the set.
abbrev pub ripe : Program → Places → FactSet → ℕ → Bool
ripe P R S k = R.taken k && all S (premises_at P R k)

-- Of places that were awake at S, those that are awake at a larger set T: beside them, those whose premises were not all in S and are all in T.
abbrev pub roused : Program → Places → FactSet → FactSet → (ℕ → Bool) → (ℕ → Bool)
roused P R S T p = λ k. p k || R.taken k && (not (all S (premises_at P R k)) && all T (premises_at P R k))

-- The matrix has for each fact the places whose rules ask it.
pub record Asked (P : Program) (R : Places) (asks : List ℕ) : Type 0 where
  pub matrix : Matrix (max_facts narrow) (asks_at P R) asks

-- The count of each place is that of the premises that its rule lacks.
pub record Counted (P : Program) (R : Places) (S : FactSet) (missing : List ℕ) : Type 0 where
  pub places : length missing ≡ max_rules
  pub counts : (k : ℕ) → R.taken k ≡ true → get_or missing k 0 ≡ lacking P R S k
