-- What an answer of the proof check means: yes exactly where the row is a proof of the asked fact that the set admits.
use Prim.Native.Nat.{ℕ}
use mathlib.Core.Path.{◌≡◌, refl, sym, ap}
use mathlib.Core.Bool.{Bool, true, false}
use mathlib.Core.List.{List}
use mathlib.Core.Option.{Option, none, some}
use native.Mathlib.Omega.{arith}
use Rattle.theory.specs.Rule.{in_force}
use Rattle.theory.specs.Check.{is_proof}
use Rattle.theory.proofs.Bools.{never}
use Rattle.theory.proofs.Check.{test_of_proof}
use Rattle.items.specs.declared.refusal.Refusal.{Refusal}
use Rattle.items.specs.Question.{no_number}
use Rattle.reader.specs.Questions.{program_of}
use Rattle.items.specs.Item.{has}
use Rattle.questions.specs.Questions.{row_of, check_no}
use Rattle.std.specs.Prelude.{Result, Ok, Err}
use Rattle.proofcheck.specs.Checked.{checked, CheckMeans}
use Rattle.items.proofs.RefusalNumbers.{number-above}

module _ (file set : List ℕ) (fact : ℕ) (row : List ℕ) where
  -- by the test on the row
  tested : ◌≡◌ {A = Option Refusal} (check_no file set fact row) none → (b : Bool) → is_proof (program_of file) (in_force (program_of file)) (has set) (row_of row) fact ≡ b → CheckMeans file set fact row (Ok b)
  tested q true e = record { numbered = sym (ap no_number q); yes_exactly = λ z. (λ v. (test_of_proof (program_of file) (in_force (program_of file)) (has set) (row_of row) fact).0 e, λ p. refl) }
  tested q false e = record { numbered = sym (ap no_number q); yes_exactly = λ z. (λ v. absurd (omega arith), λ p. never ((test_of_proof (program_of file) (in_force (program_of file)) (has set) (row_of row) fact).1 p) e) }

  refused : (r : Refusal) → check_no file set fact row ≡ some r → CheckMeans file set fact row (Err r)
  refused r q = record { numbered = sym (ap no_number q); yes_exactly = λ z. absurd (omega (arith, number-above r)) }

  pub checked-means : CheckMeans file set fact row (checked file set fact row)
  unfolding checked
  checked-means = go (check_no file set fact row) refl
    where
      go : (o : Option Refusal) → check_no file set fact row ≡ o → CheckMeans file set fact row (elim o [ none ↦ Ok (is_proof (program_of file) (in_force (program_of file)) (has set) (row_of row) fact) | some r ↦ Err r ])
      go none q = tested q (is_proof (program_of file) (in_force (program_of file)) (has set) (row_of row) fact) refl
      go (some r) q = refused r q

  -- an answer that is the one defined means what that one means
  pub meant : (r : Result Bool Refusal) → r ≡ checked file set fact row → (r ≡ checked file set fact row) × CheckMeans file set fact row r
  meant r e = (e, rw e checked-means)
