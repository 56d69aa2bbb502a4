-- Document 02, wish 8, "Rules found by fact": for every accepted file what the index lists, how the counts of missing premises fall, and that from
-- every fact set the closure and its steps, in their order, are those of the definition.
use Rattle.std.specs.Prelude.{ℕ, ◌+◌, ◌<◌, ◌≤◌, ◌≡◌, true, false, ◌&&◌, List, [], ◌∷◌, map, ◌↔◌, length, get_or, take, eqb, Option, Some}
use Rattle.theory.specs.Rule.{all, mem, how_many, Program, Mask, FactSet, adjoin, rule, plain, plain_rules, in_force}
use Rattle.theory.specs.Derive.{fired, derive, steps, step_by}
use Rattle.items.specs.Item.{narrow, max_facts, has}
use Rattle.marking.specs.Marks.{barred_in}
use Rattle.tables.specs.Layout.{program_in}
use Rattle.reader.specs.Questions.{program_of}
use Rattle.reader.specs.Scanned.{Scanned}
use Rattle.premises.specs.Premises.{plain_ones, lacking, Counted}
use Rattle.premises.specs.Plain.{plain_with, RowsAre}
use Rattle.closure.specs.Room.{Room}
use Rattle.closure.specs.Deriving.{Derived}

-- Each number is below the next.
abbrev pub Ascending : List ℕ → Type 0
Ascending [] = Unit {0}
Ascending (x ∷ []) = Unit {0}
Ascending (x ∷ y ∷ ys) = (x < y) × Ascending (y ∷ ys)

-- The facts that rules add, in the order of the rules.
abbrev pub concluded : Program → List ℕ → List ℕ
concluded P is = map (λ i. (rule P i).conclusion) is

-- The plain rules by premise, and the count of the distinct premises that a rule lacks.
pub record FoundByFact (P : Program) : Type 0 where
  -- For each fact exactly the plain rules with that premise, ..
  pub exactly : (f i : ℕ) → mem i (plain_with P f) ≡ plain P i && mem f (rule P i).premises
  -- .. each once, ascending.
  pub ascending : (f : ℕ) → Ascending (plain_with P f)
  -- With one fact more that was missing, a rule that has it as a premise lacks one less, and every other as many.
  pub one_less : (S : FactSet) (f i : ℕ) → S f ≡ false → mem f (rule P i).premises ≡ true → lacking P (plain_ones P) S i ≡ lacking P (plain_ones P) (adjoin S f) i + 1
  pub else_same : (S : FactSet) (f i : ℕ) → S f ≡ false → mem f (rule P i).premises ≡ false → lacking P (plain_ones P) S i ≡ lacking P (plain_ones P) (adjoin S f) i
  -- A rule lacks none exactly where all its premises are in the set.
  pub lacks_none : (S : FactSet) (i : ℕ) → (lacking P (plain_ones P) S i ≡ 0) ↔ (all S (rule P i).premises ≡ true)
  -- In one closure a fact enters at most once, and none that is in the set already: ..
  pub enters_once : (on : Mask) (S : FactSet) (f : ℕ) → how_many (eqb f) (concluded P (fired P on S)) ≤ 1
  pub enters_new : (on : Mask) (S : FactSet) (f : ℕ) → S f ≡ true → mem f (concluded P (fired P on S)) ≡ false
  -- .. so the count falls once for each missing premise that enters, and not otherwise.
  pub falls : (on : Mask) (S : FactSet) (i : ℕ) → lacking P (plain_ones P) S i ≡ lacking P (plain_ones P) (derive P on S) i + how_many (λ f. mem f (rule P i).premises) (concluded P (fired P on S))

-- A derivation by the rules of a mask, over marks, counts of missing premises and a row of the rules fired, is the closure: it fires as many rules, leaves the marks
-- of its set, and the rules in the row give its steps, in their order.
pub record ClosureIs (P : Program) (on : Mask) (marks marks' missing' fired' : List ℕ) (r : Option ℕ) : Type 0 where
  pub closes : r ≡ Some (length (fired P on (has marks)))
  pub set : has marks' ≡ derive P on (has marks)
  pub in_order : map (step_by P) (take (length (fired P on (has marks))) fired') ≡ steps P on (has marks)
  -- The cell of each plain rule has the count of its distinct premises that the set still lacks, ..
  pub missing : Counted P (plain_ones P) (derive P on (has marks)) missing'
  -- .. so over the whole closure, from cells that have the counts of the set at entry, each has fallen by one for each of its missing premises that entered, and by no more.
  pub cells_fall : (missing₀ : List ℕ) → Counted P (plain_ones P) (has marks) missing₀ → (i : ℕ) → plain P i ≡ true → get_or missing₀ i 0 ≡ get_or missing' i 0 + how_many (λ f. mem f (rule P i).premises) (concluded P (fired P on (has marks)))

-- What the closure promises, over the tables of the file, of marks that bar no fact.
abbrev pub DerivesFrom : List ℕ → Mask → List ℕ → List ℕ → List ℕ → List ℕ → Option ℕ → Type 0
DerivesFrom file on marks marks' missing' fired' r =
    (T fired₀ : List ℕ) → Scanned file T → Room (program_in T) marks 0 → length fired₀ ≡ max_facts narrow → ((f : ℕ) → barred_in marks f ≡ false) → Derived (program_in T) on marks fired₀ 0 r marks' missing' fired' → ClosureIs (program_of file) on marks marks' missing' fired' r

-- `wish_08` proves it of every accepted file.
pub record Wish08 (file : List ℕ) : Type 0 where
  -- "for each fact exactly the plain rules with that premise, each once, ascending", and the counts
  pub counted : FoundByFact (program_of file)
  -- what the function that fills the index promises of the tables of the file
  pub indexed : (T index : List ℕ) → Scanned file T → RowsAre (program_in T) index → RowsAre (program_of file) index
  -- "From every fact set, the closure and its steps, in their order": for every mask of rules, ..
  pub closed : (on : Mask) (marks marks' missing' fired' : List ℕ) (r : Option ℕ) → DerivesFrom file on marks marks' missing' fired' r
  -- .. and so for the closure of document 01, by the plain rules, all of which are in force.
  pub by_plain : (marks marks' missing' fired' : List ℕ) (r : Option ℕ) → DerivesFrom file (plain_rules (program_of file) (in_force (program_of file))) marks marks' missing' fired' r
