-- Document 02, wish 1, "Shorter grounds for one fact", read off the bytes that the operation leaves.
use Rattle.std.specs.Prelude.{ℕ, ◌*◌, ◌<◌, ◌≤◌, ◌≡◌, true, false, List, ◌↔◌, length, take, drop, Ok}
use Rattle.theory.specs.Rule.{Step, in_force}
use Rattle.theory.specs.Stable.{Admits}
use Rattle.theory.specs.Keeping.{StepSet, Kept, select, Subsequence, Minimal}
use Rattle.items.specs.Item.{narrow, step_width}
use Rattle.reader.specs.Questions.{program_of}
use Rattle.questions.specs.Questions.{row_of}
use Rattle.run.specs.Outcome.{RunOutcome, run_outcome, run_number}
use Rattle.keeping.specs.Outcome.{GroundsOutcome, grounds_outcome, grounds_count, grounds_number}
use Rattle.proofcheck.specs.Checked.{checked}
use Rattle.demands.specs.Results.{derived_set, set_bytes, taken_steps}

-- The bytes of the steps that were kept, as many as are counted, and these steps.
abbrev pub kept_bytes : GroundsOutcome → List ℕ
kept_bytes o = take (step_width narrow * grounds_count o.answer) o.steps

abbrev pub kept_row : GroundsOutcome → List Step
kept_row o = row_of (kept_bytes o)

-- What the grounds for a fact are that give a result; `ran` is what the run of the file under the order leaves in the same buffers.
pub record GroundsAre (file : List ℕ) (fact : ℕ) (steps : List ℕ) (ran : RunOutcome) (o : GroundsOutcome) : Type 0 where
  -- "It needs the run's buffers, writes the run's marks ..
  pub run_result : run_number ran.answer ≡ 0
  pub fact_marks : o.fact_marks ≡ ran.fact_marks
  pub rule_marks : o.rule_marks ≡ ran.rule_marks
  -- .. and, in the step buffer, the kept steps only, and returns their count."
  pub counted : length (kept_row o) ≡ grounds_count o.answer
  pub steps_kept : drop (step_width narrow * grounds_count o.answer) o.steps ≡ drop (step_width narrow * grounds_count o.answer) steps
  -- "From the run's steps keep the fact's own step, then, for each premise of its rule, the step of that premise, and so on back. Kept steps stand in their
  -- old order." There is a least set of step numbers that does, and each that there is selects these.
  pub kept_exists : (K : StepSet) × Kept (program_of file) (taken_steps ran) fact K
  pub kept : (K : StepSet) → Kept (program_of file) (taken_steps ran) fact K → kept_row o ≡ select K (taken_steps ran)
  pub subsequence : Subsequence (kept_row o) (taken_steps ran)
  -- "The result is a minimal proof in the sense of document 004: no proof of that fact uses only some of its rules." D admits it.
  pub minimal : Minimal (program_of file) (in_force (program_of file)) (kept_row o) fact
  pub admitted : Admits (program_of file) (derived_set file ran) (kept_row o)
  -- The check, asked about the fact with that row and the set of marks 1, says yes.
  pub says_yes : checked file (set_bytes file (derived_set file ran)) fact (kept_bytes o) ≡ Ok true

-- The operation, on any bytes at all.
pub record ShorterGrounds (file : List ℕ) (fact : ℕ) (steps : List ℕ) (ran : RunOutcome) (o : GroundsOutcome) : Type 0 where
  pub result : grounds_number o.answer ≡ 0 → GroundsAre file fact steps ran o
  -- "It refuses with 50, after the buffers are checked, a fact that the run didn't derive, ..
  pub fifty : run_number ran.answer ≡ 0 → (grounds_number o.answer ≡ 50) ↔ (derived_set file ran fact ≡ false)
  pub derived : run_number ran.answer ≡ 0 → derived_set file ran fact ≡ true → grounds_number o.answer ≡ 0
  -- .. a number not below the count of facts included."
  pub beyond : run_number ran.answer ≡ 0 → (program_of file).facts ≤ fact → grounds_number o.answer ≡ 50
  -- What the run refuses is refused with the run's number.
  pub run_first : 0 < run_number ran.answer → grounds_number o.answer ≡ run_number ran.answer

-- `wish_01` proves it. What the text for the person on the phone shows is `grounds_show` of demand 1.
pub record Wish01 : Type 0 where
  pub shorter : (file order : List ℕ) (fact : ℕ) (facts rules steps : List ℕ) → ShorterGrounds file fact steps (run_outcome file order facts rules steps) (grounds_outcome file order fact facts rules steps)
