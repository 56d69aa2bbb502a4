-- Internal: how the working memory of a run holds where the run stands, and what the trial of a rule leaves there.
use Rattle.std.specs.Prelude.{ℕ, ◌+◌, ◌<◌, ◌≤◌, ◌≡◌, true, false, not, List, ◌∷◌, ◌++◌, map, length, take, Option, Some, None}
use Rattle.theory.specs.Rule.{mem, how_many, up_to, Program, in_force, count, plain_rules}
use Rattle.theory.specs.Derive.{conclude, step_by, fired as fired_from}
use Rattle.theory.specs.Run.{Stand, rejected, eligible, stage}
use Rattle.items.specs.Item.{narrow, max_facts, has}
use Rattle.marking.specs.Marks.{barred_in}
use Rattle.closure.specs.Deriving.{AtRest}

-- The marks of the facts show where a run stands: D, and R, whose facts are barred.
pub record Shows (P : Program) (marks : List ℕ) (s : Stand) : Type 0 where
  pub d : has marks ≡ s.derived
  pub r : barred_in marks ≡ rejected P s.applied

-- The memory holds a stand: its marks, with a place for each fact, and the rules of its n steps.
pub record Holds (P : Program) (s : Stand) (marks fired : List ℕ) (n : ℕ) : Type 0 where
  pub shows : Shows P marks s
  pub traced : s.trace ≡ map (step_by P) (take n fired)
  pub marks_places : length marks ≡ max_facts narrow
  pub fired_places : length fired ≡ max_facts narrow
  -- each step is of a fact of its own
  pub fits : n + how_many (λ f. not (s.derived f)) (up_to P.facts) ≤ P.facts
  pub known : (i : ℕ) → mem i (take n fired) ≡ true → i < count P

-- What each plain rule lacks of D is counted, and D is closed.
abbrev pub StandAtRest : Program → Stand → List ℕ → Type 0
StandAtRest P s missing = AtRest P (plain_rules P (in_force P)) s.derived missing

-- The trial of rule i passes: the rule is eligible, and the memory holds the stand after its stage, m steps; to the n rules of before are
-- added rule i and those that fire in the closure.
pub record Passes (P : Program) (s : Stand) (i : ℕ) (fired : List ℕ) (n : ℕ) (marks' missing' fired' : List ℕ) (m : ℕ) : Type 0 where
  pub is_eligible : eligible P (in_force P) s i ≡ true
  pub holds : Holds P (stage P (in_force P) s i) marks' fired' m
  pub rests : StandAtRest P (stage P (in_force P) s i) missing'
  pub added : take m fired' ≡ take n fired ++ (i ∷ fired_from P (plain_rules P (in_force P)) (conclude P s.derived i))

-- It fails: the rule is not eligible, and the memory holds the stand as before.
pub record Fails (P : Program) (s : Stand) (i n : ℕ) (marks' missing' fired' : List ℕ) : Type 0 where
  pub not_eligible : eligible P (in_force P) s i ≡ false
  pub holds : Holds P s marks' fired' n
  pub rests : StandAtRest P s missing'

-- What a trial of rule i answers, and leaves of n rules fired before.
abbrev pub Tried : Program → Stand → ℕ → List ℕ → ℕ → Option ℕ → List ℕ → List ℕ → List ℕ → Type 0
Tried P s i fired n (Some m) marks' missing' fired' = Passes P s i fired n marks' missing' fired' m
Tried P s i fired n None marks' missing' fired' = Fails P s i n marks' missing' fired'
