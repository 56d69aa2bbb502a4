-- The starred examples of document 01, from their bytes: what each operation answers and leaves, and what that means by the definitions.
use Rattle.std.specs.Prelude.{ℕ, ◌*◌, ◌≡◌, not, ◌&&◌, List, [], ◌∷◌, replicate, Ok, true, false}
use Rattle.theory.specs.Rule.{mem, Program, Mask, FactSet, in_force, count}
use Rattle.theory.specs.Stable.{Stable, Proof, Admits, Earliest, any_set}
use Rattle.items.specs.declared.refusal.Refusal.TheVariants.{NoStableSet}
use Rattle.items.specs.Item.{narrow, name_width, step_width, has}
use Rattle.reader.specs.Questions.{program_of, exceptions}
use Rattle.questions.specs.Questions.{row_of, naming}
use Rattle.run.specs.Outcome.{done}
use Rattle.run.specs.Outcome.{RunOutcome, run_outcome}
use Rattle.judge.specs.Judged.{judged}
use Rattle.proofcheck.specs.Checked.{checked}
use Rattle.search.specs.Outcome.{SearchOutcome, refused_with, search_outcome, search_number}
use Rattle.demands.specs.Results.{found_set, set_of, RunIs, SearchIs}
use Rattle.demands.specs.Examples as bytes

-- Buffers that just suffice for a file, and before the operation hold a 9 in every byte: for the fact marks, the rule marks, the steps and the
-- order.
abbrev pub nines : ℕ → List ℕ
nines n = replicate n 9

abbrev pub fact_room : List ℕ → List ℕ
fact_room file = nines (program_of file).facts

abbrev pub rule_room : List ℕ → List ℕ
rule_room file = nines (count (program_of file))

abbrev pub step_room : List ℕ → List ℕ
step_room file = nines (step_width narrow * (program_of file).facts)

abbrev pub order_room : List ℕ → List ℕ
order_room file = nines (name_width * exceptions (program_of file))

abbrev pub runs : List ℕ → List ℕ → RunOutcome
runs file order = run_outcome file (naming order) (fact_room file) (rule_room file) (step_room file)

abbrev pub searches : List ℕ → SearchOutcome
searches file = search_outcome file (fact_room file) (rule_room file) (step_room file) (order_room file)

-- every rule in force but these
abbrev pub less : Program → List ℕ → Mask
less P rs i = in_force P i && not (mem i rs)

-- The run of a file under an order answers and leaves this, and is the forward chaining along the order.
pub record Runs (file order : List ℕ) (o : RunOutcome) : Type 0 where
  pub leaves : runs file order ≡ o
  pub is : RunIs file (naming order) (fact_room file) (rule_room file) (step_room file) (runs file order)

-- A set, one byte for each fact, is stable for a file less these rules, and the judge says so; or it is not.
pub record IsStable (file rs set : List ℕ) : Type 0 where
  pub says : judged file (naming rs) set ≡ Ok true
  pub is : Stable (program_of file) (less (program_of file) rs) (has set)

pub record IsNotStable (file rs set : List ℕ) : Type 0 where
  pub says : judged file (naming rs) set ≡ Ok false
  pub is_not : Stable (program_of file) (less (program_of file) rs) (has set) → ⊥

-- A row of steps is a proof of a fact that a set admits, and the check says yes.
pub record IsProof (file set : List ℕ) (fact : ℕ) (row : List ℕ) : Type 0 where
  pub says : checked file set fact row ≡ Ok true
  pub proves : Proof (program_of file) (in_force (program_of file)) (row_of row) fact
  pub admitted : Admits (program_of file) (has set) (row_of row)

-- The search of a file answers and leaves this. The set that a caller reads from it is the earliest stable set.
pub record SearchTakes (file set : List ℕ) (o : SearchOutcome) : Type 0 where
  pub leaves : searches file ≡ o
  pub reads : set_of (program_of file).facts (found_set file (searches file)) ≡ set
  pub earliest : Earliest (program_of file) (in_force (program_of file)) any_set (has set)
  pub is : SearchIs file (fact_room file) (rule_room file) (step_room file) (order_room file) (searches file)

-- The search says 41 and leaves every byte as it was. No set is stable.
pub record SearchTakesNone (file : List ℕ) : Type 0 where
  pub leaves : searches file ≡ refused_with NoStableSet (fact_room file) (rule_room file) (step_room file) (order_room file)
  pub number : search_number (searches file).answer ≡ 41
  pub none_stable : (M : FactSet) → Stable (program_of file) (in_force (program_of file)) M → ⊥

pub record Starred : Type 0 where
  -- A, order 1 2. Its facts are a stable set.
  pub example_a :
      Runs bytes.example_a (1 ∷ 2 ∷ [])
      (record {
        answer = done 1 2;
        fact_marks = 1 ∷ 1 ∷ 2 ∷ 0 ∷ [];
        rule_marks = 0 ∷ 1 ∷ 3 ∷ 0 ∷ [];
        steps = 6 ∷ 0 ∷ 0 ∷ 0 ∷ 6 ∷ 1 ∷ 0 ∷ 1 ∷ 9 ∷ 9 ∷ 9 ∷ 9 ∷ 9 ∷ 9 ∷ 9 ∷ 9 ∷ [];
      })
      × IsStable bytes.example_a [] (1 ∷ 1 ∷ 0 ∷ 0 ∷ [])
  -- A2, order 2 1. Its facts are another one, and its steps prove fact 3.
  pub example_a2 :
      Runs bytes.example_a (2 ∷ 1 ∷ [])
      (record {
        answer = done 1 3;
        fact_marks = 1 ∷ 2 ∷ 1 ∷ 1 ∷ [];
        rule_marks = 0 ∷ 3 ∷ 1 ∷ 0 ∷ [];
        steps = 6 ∷ 0 ∷ 0 ∷ 0 ∷ 6 ∷ 2 ∷ 0 ∷ 2 ∷ 6 ∷ 3 ∷ 0 ∷ 3 ∷ 9 ∷ 9 ∷ 9 ∷ 9 ∷ [];
      })
      × IsStable bytes.example_a [] (1 ∷ 0 ∷ 1 ∷ 1 ∷ [])
      × IsProof bytes.example_a (1 ∷ 0 ∷ 1 ∷ 1 ∷ []) 3 (6 ∷ 0 ∷ 0 ∷ 0 ∷ 6 ∷ 2 ∷ 0 ∷ 2 ∷ 6 ∷ 3 ∷ 0 ∷ 3 ∷ [])
  -- A3, the search takes {0,1}.
  pub example_a3 :
      SearchTakes bytes.example_a (1 ∷ 1 ∷ 0 ∷ 0 ∷ [])
      (record {
        answer = done 1 2;
        fact_marks = 1 ∷ 1 ∷ 2 ∷ 0 ∷ [];
        rule_marks = 0 ∷ 1 ∷ 3 ∷ 0 ∷ [];
        steps = 6 ∷ 0 ∷ 0 ∷ 0 ∷ 6 ∷ 1 ∷ 0 ∷ 1 ∷ 9 ∷ 9 ∷ 9 ∷ 9 ∷ 9 ∷ 9 ∷ 9 ∷ 9 ∷ [];
        order = 5 ∷ 0 ∷ 1 ∷ 5 ∷ 0 ∷ 2 ∷ [];
      })
  -- B: nothing derived, rule 0 set aside, search 41.
  pub example_b :
      Runs bytes.example_b (0 ∷ [])
      (record { answer = done 0 0; fact_marks = 0 ∷ []; rule_marks = 2 ∷ []; steps = 9 ∷ 9 ∷ 9 ∷ 9 ∷ [] })
      × IsStable bytes.example_b (0 ∷ []) (0 ∷ [])
      × SearchTakesNone bytes.example_b
  -- C, order 0 1. Rule 1 is set aside: {0} is stable for the file less that rule, and not for the whole.
  pub example_c :
      Runs bytes.example_c (0 ∷ 1 ∷ [])
      (record {
        answer = done 1 1;
        fact_marks = 1 ∷ 2 ∷ 0 ∷ [];
        rule_marks = 1 ∷ 2 ∷ [];
        steps = 6 ∷ 0 ∷ 0 ∷ 0 ∷ 9 ∷ 9 ∷ 9 ∷ 9 ∷ 9 ∷ 9 ∷ 9 ∷ 9 ∷ [];
      })
      × IsStable bytes.example_c (1 ∷ []) (1 ∷ 0 ∷ 0 ∷ [])
      × IsNotStable bytes.example_c [] (1 ∷ 0 ∷ 0 ∷ [])
  -- C2, order 1 0. Nothing is set aside.
  pub example_c2 :
      Runs bytes.example_c (1 ∷ 0 ∷ [])
      (record {
        answer = done 1 1;
        fact_marks = 0 ∷ 1 ∷ 2 ∷ [];
        rule_marks = 3 ∷ 1 ∷ [];
        steps = 6 ∷ 1 ∷ 0 ∷ 1 ∷ 9 ∷ 9 ∷ 9 ∷ 9 ∷ 9 ∷ 9 ∷ 9 ∷ 9 ∷ [];
      })
      × IsStable bytes.example_c [] (0 ∷ 1 ∷ 0 ∷ [])
  -- C3, search order 1 0.
  pub example_c3 :
      SearchTakes bytes.example_c (0 ∷ 1 ∷ 0 ∷ [])
      (record {
        answer = done 1 1;
        fact_marks = 0 ∷ 1 ∷ 2 ∷ [];
        rule_marks = 3 ∷ 1 ∷ [];
        steps = 6 ∷ 1 ∷ 0 ∷ 1 ∷ 9 ∷ 9 ∷ 9 ∷ 9 ∷ 9 ∷ 9 ∷ 9 ∷ 9 ∷ [];
        order = 5 ∷ 0 ∷ 1 ∷ 5 ∷ 0 ∷ 0 ∷ [];
      })
  -- D: rule 1 set aside, 41.
  pub example_d :
      Runs bytes.example_d (1 ∷ [])
      (record { answer = done 0 0; fact_marks = 0 ∷ 0 ∷ []; rule_marks = 0 ∷ 2 ∷ []; steps = 9 ∷ 9 ∷ 9 ∷ 9 ∷ 9 ∷ 9 ∷ 9 ∷ 9 ∷ [] })
      × IsStable bytes.example_d (1 ∷ []) (0 ∷ 0 ∷ [])
      × SearchTakesNone bytes.example_d
  -- E: the empty set, an empty order.
  pub example_e :
      Runs bytes.example_e [] (record { answer = done 0 0; fact_marks = []; rule_marks = []; steps = [] })
      × IsStable bytes.example_e [] []
      × SearchTakes bytes.example_e [] (record { answer = done 0 0; fact_marks = []; rule_marks = []; steps = []; order = [] })
  -- F: {0} is not stable, the empty set is.
  pub example_f : IsNotStable bytes.example_f [] (1 ∷ []) × IsStable bytes.example_f [] (0 ∷ [])
