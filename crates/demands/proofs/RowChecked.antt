-- The check says yes to the bytes of a row that is a proof of a fact and that the set handed to it admits.
use Prim.Native.Nat.{ℕ, ◌<◌}
use mathlib.Core.Path.{◌≡◌, ap, ◌∙◌}
use mathlib.Core.Bool.{Bool, true}
use mathlib.Core.List.{List, ◌++◌}
use mathlib.Core.Option.{Option, none}
use borrow.Author.Tests.{lt-ltb}
use Rattle.std.specs.Prelude.{Result, Ok}
use Rattle.theory.specs.Rule.{Program, FactSet, in_force, Step}
use Rattle.theory.specs.Stable.{Proof, Admits}
use Rattle.theory.specs.Conditions.{Within}
use Rattle.theory.proofs.Check.{test_of_proof}
use Rattle.items.specs.declared.refusal.Refusal.{Refusal}
use Rattle.items.specs.Item.{narrow, has}
use Rattle.items.proofs.FirstNo.{all_yes}
use Rattle.reader.specs.Questions.{program_of, file_questions, file_no}
use Rattle.questions.specs.Questions.{set_questions, row_questions, row_of, check_questions, check_no}
use Rattle.closure.specs.Steps.{step_bytes}
use Rattle.run.proofs.ReadSteps.{steps-read, steps-whole}
use Rattle.proofcheck.specs.Checked.{checked}
use Rattle.demands.specs.Results.{set_bytes}
use Rattle.demands.proofs.SetsReadBack.{set_back, set-yes}
use Rattle.demands.proofs.Outcomes.{check_checked}

module _ (file : List ℕ) (accepted : ◌≡◌ {A = Option Refusal} (file_no file) none) (M : FactSet) (within : Within (program_of file) M) where
  abbrev P : Program
  P = program_of file

  pub set_is : has (set_bytes file M) ≡ M
  set_is = set_back P.facts M within

  module _ (f : ℕ) (known : f < P.facts) (row : List Step) where
    may_check : ◌≡◌ {A = Option Refusal} (check_no file (set_bytes file M) f (step_bytes narrow row)) none
    unfolding check_questions row_questions
    may_check =
        all_yes (file_questions file) (set_questions P.facts (set_bytes file M) ++ row_questions P.facts f (step_bytes narrow row)) accepted
        (all_yes (set_questions P.facts (set_bytes file M)) (row_questions P.facts f (step_bytes narrow row)) (set-yes P.facts M)
        (rw (lt-ltb f P.facts known, steps-whole row)))

    pub row-checked : Proof P (in_force P) row f → Admits P M row → checked file (set_bytes file M) f (step_bytes narrow row) ≡ Ok true
    row-checked p a =
        check_checked file (set_bytes file M) f (step_bytes narrow row) may_check
        ∙ ap {B = Result Bool Refusal} Ok ((test_of_proof P (in_force P) (has (set_bytes file M)) (row_of (step_bytes narrow row)) f).1 (rw (steps-read row) p, rw (steps-read row, set_is) a))
