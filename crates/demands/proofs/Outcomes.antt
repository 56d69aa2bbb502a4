-- An outcome by its questions and by its number: 0 is a result, and a refusal has a number above it.
use Prim.Native.Nat.{ℕ, ◌<◌}
use native.Mathlib.Omega.{arith}
use mathlib.Core.Path.{◌≡◌, refl, sym, ap}
use mathlib.Core.List.{List}
use mathlib.Core.Option.{Option, none, some}
use lib.ListN.{length}
use Rattle.std.specs.Prelude.{Ok}
use Rattle.theory.specs.Rule.{in_force}
use Rattle.theory.specs.Check.{is_proof}
use Rattle.items.specs.declared.refusal.Refusal.{Refusal}
use Rattle.items.specs.Question as refusal
use Rattle.reader.specs.Questions.{program_of}
use Rattle.items.proofs.RefusalNumbers.{number-above}
use Rattle.items.specs.Item.{has}
use Rattle.questions.specs.Questions.{row_of, run_no, check_no, search_no, run_of}
use Rattle.run.specs.Outcome.{RunOutcome, run_written, run_outcome, run_number}
use Rattle.run.proofs.Outcomes.{outcome-refused, outcome-written}
use Rattle.proofcheck.specs.Checked.{checked}
use Rattle.search.specs.Outcome.{SearchOutcome, found_at, refused_with, taken_set, search_outcome, search_number}

-- where a refusal gives its own number, number 0 means that no question got no
pub answered : (no : Option Refusal) (number : ℕ) → ((r : Refusal) → no ≡ some r → number ≡ refusal.number r) → number ≡ 0 → ◌≡◌ {A = Option Refusal} no none
answered none number own e = refl
answered (some r) number own e =
    let q : number ≡ refusal.number r = own r refl in
    let l : 0 < refusal.number r = number-above r in
    absurd (omega arith)

module _ (file order facts rules steps : List ℕ) where
  pub run-written : ◌≡◌ {A = Option Refusal} (run_no file order (length facts) (length rules) (length steps)) none → run_outcome file order facts rules steps ≡ run_written (program_of file) (run_of file order) facts rules steps
  run-written e = sym (outcome-written file order facts rules steps e)

  pub run-answered : run_number (run_outcome file order facts rules steps).answer ≡ 0 → ◌≡◌ {A = Option Refusal} (run_no file order (length facts) (length rules) (length steps)) none
  run-answered =
      answered (run_no file order (length facts) (length rules) (length steps)) (run_number (run_outcome file order facts rules steps).answer)
      (λ r e. sym (ap (λ (o : RunOutcome). run_number o.answer) (outcome-refused file order facts rules steps r e)))

pub check_checked : (file set : List ℕ) (fact : ℕ) (row : List ℕ) → ◌≡◌ {A = Option Refusal} (check_no file set fact row) none → checked file set fact row ≡ Ok (is_proof (program_of file) (in_force (program_of file)) (has set) (row_of row) fact)
unfolding checked
check_checked file set fact row e = rw (e, checked)

module _ (file facts rules steps order : List ℕ) where
  pub search-refused : (r : Refusal) → search_no file (length facts) (length rules) (length steps) (length order) ≡ some r → search_outcome file facts rules steps order ≡ refused_with r facts rules steps order
  unfolding search_outcome
  search-refused r e = rw (e, search_outcome)

  pub search-found : ◌≡◌ {A = Option Refusal} (search_no file (length facts) (length rules) (length steps) (length order)) none → search_outcome file facts rules steps order ≡ found_at (program_of file) (taken_set (program_of file)) facts rules steps order
  unfolding search_outcome
  search-found e = rw (e, search_outcome)

  pub search-answered : search_number (search_outcome file facts rules steps order).answer ≡ 0 → ◌≡◌ {A = Option Refusal} (search_no file (length facts) (length rules) (length steps) (length order)) none
  search-answered =
      answered (search_no file (length facts) (length rules) (length steps) (length order)) (search_number (search_outcome file facts rules steps order).answer)
      (λ r e. ap (λ (o : SearchOutcome). search_number o.answer) (search-refused r e))
