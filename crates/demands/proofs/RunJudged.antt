-- Handed what a run leaves, the judge says stable.
use Prim.Native.Nat.{ℕ, ◌≤◌}
use mathlib.Core.Path.{◌≡◌, ◌∙◌, ap}
use mathlib.Core.Bool.{Bool, true, false, not, ◌&&◌}
use mathlib.Core.List.{List, ◌++◌}
use mathlib.Core.Option.{Option, none}
use lib.ListN.{length}
use Rattle.std.specs.Prelude.{Result, Ok}
use Rattle.theory.specs.Rule.{Program, in_force, count, exception}
use Rattle.theory.specs.Check.{is_stable}
use Rattle.theory.proofs.Stable.{test_of_stable}
use Rattle.theory.proofs.Run.{run_sound, exception-known}
use Rattle.theory.proofs.Marks.{aside_supported, aside_exception}
use Rattle.items.specs.declared.refusal.Refusal.{Refusal}
use Rattle.reader.specs.Questions.{program_of, file_questions}
use Rattle.items.proofs.FirstNo.{all_yes}
use Rattle.items.specs.Item.{has}
use Rattle.questions.specs.Questions.{named_in, list_questions, set_questions, run_no, judge_questions, judge_no, run_of}
use Rattle.run.specs.Outcome.{RunOutcome, run_outcome, run_number}
use Rattle.demands.specs.Results.{derived_set, aside_set, listed, set_of, RunIs, JudgedStable}
use Rattle.run.proofs.ReadMarks.{marked-past}
use Rattle.judge.specs.Judged.{unlisted}
use Rattle.judge.proofs.JudgeAnswers.{judge_judged}
use Rattle.demands.proofs.SetsReadBack.{listed_back, listed-yes, set_back, set-yes}
use Rattle.demands.proofs.Outcomes.{run-answered}
use Rattle.demands.proofs.RunIs.{yeses, in_bounds, aside_is, run-passed}

pub run_judged : (file order facts rules steps : List ℕ) → run_number (run_outcome file order facts rules steps).answer ≡ 0 → JudgedStable file (run_outcome file order facts rules steps)
unfolding judge_questions
run_judged file order facts rules steps e =
    judge_judged file list set passed ∙ ap {B = Result Bool Refusal} Ok stable
  where
    o : RunOutcome
    o = run_outcome file order facts rules steps

    P : Program
    P = program_of file

    list : List ℕ
    list = listed (count P) (aside_set file o)

    set : List ℕ
    set = set_of P.facts (derived_set file o)

    ran : ◌≡◌ {A = Option Refusal} (run_no file order (length facts) (length rules) (length steps)) none
    ran = run-answered file order facts rules steps e

    is : RunIs file order facts rules steps o
    is = run-passed file order facts rules steps ran

    within : (f : ℕ) → P.facts ≤ f → derived_set file o f ≡ false
    within f l = marked-past P.facts 1 o.fact_marks f l

    excepted : (i : ℕ) → aside_set file o i ≡ true → exception P i ≡ true
    excepted i a = aside_exception P (in_force P) (run_of file order) (run_sound P (in_force P) (named_in order)) i (aside_supported P (in_force P) (run_of file order).derived i (rw (aside_is file order facts rules steps ran) at a))

    passed : ◌≡◌ {A = Option Refusal} (judge_no file list set) none
    passed =
        all_yes (file_questions file) (list_questions (exception P) list ++ set_questions P.facts set) (yeses file order facts rules steps ran).0
        (all_yes (list_questions (exception P) list) (set_questions P.facts set) (listed-yes (count P) (exception P) (aside_set file o) excepted) (set-yes P.facts (derived_set file o)))

    named_back : unlisted P list ≡ (λ i. in_force P i && not (aside_set file o i))
    named_back = ap {B = ℕ → Bool} (λ p i. in_force P i && not (p i)) (listed_back (count P) (aside_set file o) (λ i a. exception-known P (in_force P) i (excepted i a)))

    back : has set ≡ derived_set file o
    back = set_back P.facts (derived_set file o) within

    stable : is_stable P (unlisted P list) (has set) ≡ true
    stable =
        (test_of_stable P (unlisted P list) (has set) (in_bounds file order facts rules steps ran) (rw back within)).1
        (rw (named_back, back) is.stable)
