-- What a search answers and leaves in the buffers lent to it (document 01, "The search").
use Rattle.std.specs.Prelude.{ℕ, ◌≡◌, List, length, Result, Err}
use Rattle.std.proofs.Math.Option.{Option, none, some}
use Rattle.theory.specs.Rule.{Program, FactSet, in_force, nothing}
use Rattle.theory.specs.Run.{Stand, run, marks_of_facts, marks_of_rules, stage_count, step_count}
use Rattle.theory.specs.Stable.{Stable, Earliest, any_set, order_for}
use Rattle.theory.specs.Search.{search}
use Rattle.items.specs.declared.refusal.Refusal.{Refusal}
use Rattle.items.specs.Question.{no_number}
use Rattle.items.specs.Answer.{answer_number}
use Rattle.reader.specs.Questions.{program_of}
use Rattle.items.specs.Item.{narrow, marked}
use Rattle.questions.specs.Questions.{naming, search_no}
use Rattle.closure.specs.Steps.{step_bytes}
use Rattle.items.specs.Write.{over}
use Rattle.run.specs.declared.answer.Ran.{Ran}
use Rattle.run.specs.Outcome.{done, run_stages, run_steps}

-- The answer, and the four buffers.
pub record SearchOutcome : Type 0 where
  pub answer : Result Ran Refusal
  pub fact_marks : List ℕ
  pub rule_marks : List ℕ
  pub steps : List ℕ
  pub order : List ℕ

-- A run under an order that ends at s: what is answered, and written over the front of each buffer.
unfoldable pub search_written : Program → List ℕ → Stand → List ℕ → List ℕ → List ℕ → List ℕ → SearchOutcome
search_written P row s facts rules steps order =
    record {
      answer = done (stage_count s) (step_count s);
      fact_marks = over (marks_of_facts P s) facts;
      rule_marks = over (marks_of_rules P (in_force P) s) rules;
      steps = over (step_bytes narrow s.trace) steps;
      order = over (naming row) order;
    }

-- The order for a stable set, and the run under it.
abbrev pub found_at : Program → FactSet → List ℕ → List ℕ → List ℕ → List ℕ → SearchOutcome
found_at P M = search_written P (order_for P (in_force P) M) (run P (in_force P) (order_for P (in_force P) M))

-- A refusal alters no byte.
abbrev pub refused_with : Refusal → List ℕ → List ℕ → List ℕ → List ℕ → SearchOutcome
refused_with r facts rules steps order =
    record { answer = Err r; fact_marks = facts; rule_marks = rules; steps = steps; order = order }

-- The set that the search takes. Where there is none, question 41 gets no, and nothing is taken.
unfoldable pub taken_set : Program → FactSet
taken_set P = elim (search P (in_force P)) [ some M ↦ M | none ↦ nothing ]

-- What a search answers and leaves.
unfoldable pub search_outcome : List ℕ → List ℕ → List ℕ → List ℕ → List ℕ → SearchOutcome
search_outcome file facts rules steps order =
    elim (search_no file (length facts) (length rules) (length steps) (length order)) [
      | none ↦ found_at (program_of file) (taken_set (program_of file)) facts rules steps order
      | some r ↦ refused_with r facts rules steps order
    ]

-- The answer's number, 0 where there is a result, and its counts, 0 on a refusal.
abbrev pub search_number : Result Ran Refusal → ℕ
search_number r = answer_number r

abbrev pub search_stages : Result Ran Refusal → ℕ
search_stages r = run_stages r

abbrev pub search_steps : Result Ran Refusal → ℕ
search_steps r = run_steps r

-- What an answer means: its number is that of the first no to the search's questions; a result gives the earliest stable set of the file, read off
-- the fact marks 1, and 41 says that no set is stable.
pub record SearchMeans (file : List ℕ) (no : Option Refusal) (o : SearchOutcome) : Type 0 where
  pub numbered : search_number o.answer ≡ no_number no
  pub earliest : search_number o.answer ≡ 0 → Earliest (program_of file) (in_force (program_of file)) any_set (marked (program_of file).facts 1 o.fact_marks)
  pub none_stable : search_number o.answer ≡ 41 → (M : FactSet) → Stable (program_of file) (in_force (program_of file)) M → ⊥
