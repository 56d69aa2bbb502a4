-- The run of a program for an order (document 01, "The run").
use Rattle.std.specs.Prelude.{ℕ, Bool, not, cond, ◌&&◌, List, [], ◌∷◌, ◌++◌, map, length, ltb}
use Rattle.std.proofs.Math.Option.{Option}
use Rattle.theory.specs.Rule.{all, any, clear, mem, up_to, Program, Mask, FactSet, nothing, count, rule, plain, exception, Step, plain_rules, first_case}
use Rattle.theory.specs.Lists.{seek}
use Rattle.theory.specs.Walk.{picks, after}
use Rattle.theory.specs.Derive.{step_by, conclude, closure, steps}

-- Where a run stands: D, the steps that led there, and the rules applied, one at each stage.
pub record Stand : Type 0 where
  pub derived : FactSet
  pub trace : List Step
  pub applied : List ℕ

-- R: the constraints of the rules applied.
unfoldable pub rejected : Program → List ℕ → FactSet
rejected P applied f = any (λ i. mem f (rule P i).constraints) applied

-- T meets none of the constraints of these rules
unfoldable pub spares : Program → FactSet → List ℕ → Bool
spares P T is = all (λ i. clear T (rule P i).constraints) is

-- the closure of D with the conclusion of rule i
abbrev pub trial : Program → Mask → FactSet → ℕ → FactSet
trial P on D i = closure P on (conclude P D i)

-- Eligible (document 01): an exception rule in force, its conclusion not in D, its premises in D, and the closure of D with its conclusion
-- meets neither its constraints nor R.
unfoldable pub eligible : Program → Mask → Stand → ℕ → Bool
eligible P on s i =
    exception P i && on i
    && not (s.derived (rule P i).conclusion)
    && all s.derived (rule P i).premises
    && clear (trial P on s.derived i) (rule P i).constraints
    && spares P (trial P on s.derived i) s.applied

-- A stage applies rule i: its conclusion enters D by a step, D is closed, and its constraints enter R.
abbrev pub stage : Program → Mask → Stand → ℕ → Stand
stage P on s i =
    record {
      derived = trial P on s.derived i;
      trace = s.trace ++ (step_by P i ∷ steps P (plain_rules P on) (conclude P s.derived i));
      applied = s.applied ++ (i ∷ []);
    }

abbrev pub start : Program → Mask → Stand
start P on =
    record { derived = closure P on nothing; trace = steps P (plain_rules P on) nothing; applied = [] }

-- the first rule in the order that is eligible
abbrev pub first_eligible : Program → Mask → List ℕ → Stand → Option ℕ
first_eligible P on order s = seek (eligible P on s) order

-- The end of the run: a stage puts a conclusion into D that was not there, so there are at most as many stages as rules.
unfoldable pub run : Program → Mask → List ℕ → Stand
run P on order =
    after (stage P on) (start P on) (picks (first_eligible P on order) (stage P on) (count P) (start P on))

-- Set aside (document 01): at the end its premises are in D, none of its constraints is, and its conclusion is not.
unfoldable pub set_aside : Program → Mask → FactSet → ℕ → Bool
set_aside P on D i =
    ltb i (count P) && on i
    && all D (rule P i).premises
    && clear D (rule P i).constraints
    && not (D (rule P i).conclusion)

-- the rules in force that are not set aside
abbrev pub kept : Program → Mask → FactSet → Mask
kept P on D i = on i && not (set_aside P on D i)

-- Fact marks: 0 open, 1 in D, 2 in R.
unfoldable pub fact_mark : Program → Stand → ℕ → ℕ
fact_mark P s f = cond (s.derived f) 1 (cond (rejected P s.applied f) 2 0)

-- Rule marks (document 01): "0 plain, 1 applied at a stage, 2 set aside, 3 other", and 4 on a rule that is withheld (document 02, wish 6): one that is not in
-- force.
unfoldable pub rule_mark : Program → Mask → Stand → ℕ → ℕ
rule_mark P on s i =
    first_case
    ((plain P i, 0)
    ∷ (mem i s.applied, 1)
    ∷ (set_aside P on s.derived i, 2)
    ∷ (on i, 3)
    ∷ [])
    4

abbrev pub marks_of_facts : Program → Stand → List ℕ
marks_of_facts P s = map (fact_mark P s) (up_to P.facts)

abbrev pub marks_of_rules : Program → Mask → Stand → List ℕ
marks_of_rules P on s = map (rule_mark P on s) (up_to (count P))

-- The counts that a run returns.
abbrev pub stage_count : Stand → ℕ
stage_count s = length s.applied

abbrev pub step_count : Stand → ℕ
step_count s = length s.trace
