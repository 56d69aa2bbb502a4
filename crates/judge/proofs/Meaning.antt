-- What an answer of the judge means: stable exactly where the set is stable for the file less the listed rules.
use Prim.Native.Nat.{ℕ}
use mathlib.Core.Path.{◌≡◌, refl, sym, ap, subst, ◌∙◌}
use mathlib.Core.Bool.{Bool, true, false}
use mathlib.Core.List.{List, ◌++◌}
use mathlib.Core.Logic.{◌↔◌}
use mathlib.Core.Option.{Option, none, some}
use native.Mathlib.Omega.{arith}
use Rattle.theory.specs.Rule.{Program, exception}
use Rattle.theory.specs.Check.{is_stable}
use Rattle.theory.specs.Conditions.{Within}
use Rattle.theory.specs.Stable as theory
use Rattle.theory.proofs.Stable.{test_of_stable}
use Rattle.items.specs.declared.refusal.Refusal.{Refusal}
use Rattle.items.specs.Question as refusal
use Rattle.items.specs.Question.{no_number}
use Rattle.reader.specs.Questions.{program_of, file_questions}
use Rattle.items.proofs.FirstNo.{both_yes}
use Rattle.reader.proofs.Accepted.{accepted_file, bounded}
use Rattle.items.specs.Item.{has}
use Rattle.questions.specs.Questions.{list_questions, set_questions, judge_questions, judge_no}
use Rattle.questions.specs.Parts.{set_no}
use Rattle.marking.proofs.MarksPainted.{past_end}
use Rattle.questions.proofs.OperationAsked.{yes_to_set}
use Rattle.std.specs.Prelude.{Result, Ok}
use Rattle.judge.specs.Judged.{unlisted, judged, judged_number, judged_verdict, JudgeMeans}
use Rattle.judge.proofs.JudgeAnswers.{judge_refused, judge_judged}
use Rattle.items.proofs.RefusalNumbers.{number-above}

-- a set that got yes to 21 holds no number past the last fact
set-within : (P : Program) (set : List ℕ) → ◌≡◌ {A = Option Refusal} (set_no P.facts set) none → Within P (has set)
set-within P set e f l = past_end set f (rw (yes_to_set P.facts set e).0 l)

module _ (file list set : List ℕ) where
  -- a refusal has a number
  pub judge_answered : judged_number (judged file list set) ≡ 0 → ◌≡◌ {A = Option Refusal} (judge_no file list set) none
  judge_answered e = go (judge_no file list set) refl
    where
      go : (o : Option Refusal) → judge_no file list set ≡ o → ◌≡◌ {A = Option Refusal} o none
      go none q = refl
      go (some r) q =
          let own : judged_number (judged file list set) ≡ refusal.number r = ap judged_number (judge_refused file list set r q) in
          absurd (omega (arith, number-above r))

  -- where no question got no, the set is in the bounds that the test needs
  exact : ◌≡◌ {A = Option Refusal} (judge_no file list set) none → (is_stable (program_of file) (unlisted (program_of file) list) (has set) ≡ true) ↔ theory.Stable (program_of file) (unlisted (program_of file) list) (has set)
  unfolding judge_questions
  exact e =
      let of-file = both_yes (file_questions file) (list_questions (exception (program_of file)) list ++ set_questions (program_of file).facts set) e in
      let of-set = both_yes (list_questions (exception (program_of file)) list) (set_questions (program_of file).facts set) of-file.1 in
      test_of_stable (program_of file) (unlisted (program_of file) list) (has set) (bounded (accepted_file file of-file.0))
      (set-within (program_of file) set of-set.1)

  pub judged-means : JudgeMeans file list set (judged file list set)
  judged-means = record {
    numbered = numbered (judge_no file list set) refl;
    stable_exactly = λ e. (
      λ v. (exact (judge_answered e)).0 (one (is_stable (program_of file) (unlisted (program_of file) list) (has set)) (sym (ap judged_verdict (is e)) ∙ v)),
      λ m. ap judged_verdict (is e) ∙ ap (λ (b : Bool). judged_verdict (Ok b)) ((exact (judge_answered e)).1 m),
    );
  }
    where
      is : judged_number (judged file list set) ≡ 0 → judged file list set ≡ Ok (is_stable (program_of file) (unlisted (program_of file) list) (has set))
      is e = judge_judged file list set (judge_answered e)

      numbered : (o : Option Refusal) → judge_no file list set ≡ o → judged_number (judged file list set) ≡ no_number (judge_no file list set)
      numbered none q = ap judged_number (judge_judged file list set q) ∙ sym (ap no_number q)
      numbered (some r) q = ap judged_number (judge_refused file list set r q) ∙ sym (ap no_number q)

      one : (b : Bool) → judged_verdict (Ok b) ≡ 1 → b ≡ true
      one true v = refl
      one false v = absurd (omega arith)

  -- an answer that is the one defined, with its meaning
  pub answer_means : (r : Result Bool Refusal) → r ≡ judged file list set → (r ≡ judged file list set) × JudgeMeans file list set r
  answer_means r e = (e, subst (JudgeMeans file list set) (sym e) judged-means)
