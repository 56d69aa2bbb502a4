-- Wish 1: the grounds for one fact.
use Prim.Native.Nat.{ℕ, ◌*◌, ◌<◌}
use native.Mathlib.Omega.{arith}
use native.Mathlib.Decide.{dec_lt}
use mathlib.Core.Path.{◌≡◌, refl, sym, ◌∙◌, ap}
use mathlib.Core.Bool.{Bool, true, false}
use mathlib.Core.List.{List}
use mathlib.Core.Logic.{◌↔◌}
use mathlib.Core.Option.{Option, none, some}
use lib.ListN.{length}
use Rattle.theory.specs.Rule.{Program, in_force, rule}
use Rattle.theory.specs.Run.{Stand}
use Rattle.theory.specs.Conditions.{Within}
use Rattle.theory.specs.Keeping.{grounds_of, kept_steps}
use Rattle.theory.proofs.Bools.{never, false_of}
use Rattle.theory.proofs.Absent.{run-absent}
use Rattle.theory.proofs.Keeping.{run-traced, run-kept, kept-is, grounds_subsequence, grounds_admitted, grounds_minimal}
use Rattle.items.specs.declared.refusal.Refusal.{Refusal}
use Rattle.items.specs.declared.refusal.Refusal.TheVariants.{NotDerived}
use Rattle.items.specs.Item.{narrow, step_width}
use Rattle.items.proofs.FirstNo.{both_yes}
use Rattle.reader.specs.Questions.{program_of}
use Rattle.questions.specs.Questions.{named_in, row_of, run_questions, run_no, grounds_questions, grounds_no, run_of}
use Rattle.closure.specs.Steps.{step_bytes}
use Rattle.results.proofs.StepsWritten.{step-bytes_length}
use Rattle.run.specs.Outcome.{RunOutcome, run_written, run_outcome, run_number}
use Rattle.run.proofs.Outcomes.{outcome-refused}
use Rattle.run.proofs.ReadMarks.{over-kept}
use Rattle.run.proofs.ReadSteps.{steps_front, steps-read}
use Rattle.keeping.specs.Outcome.{GroundsOutcome, grounds_written, grounds_outcome, grounds_count, grounds_number}
use Rattle.keeping.proofs.GroundsAsked.{written_there, refused-there, run-refused, last-asked}
use Rattle.demands.specs.Results.{derived_set, taken_steps}
use Rattle.demands.specs.Wish01.{kept_bytes, kept_row, GroundsAre, ShorterGrounds, Wish01}
use Rattle.demands.proofs.Outcomes.{answered, run-written, run-answered}
use Rattle.demands.proofs.RunIs.{yeses, in_bounds, derived_is, trace_is}
use Rattle.demands.proofs.RowChecked.{row-checked}

module _ (file order : List ℕ) (fact : ℕ) (facts rules steps : List ℕ) where
  abbrev P : Program
  P = program_of file

  abbrev s : Stand
  s = run_of file order

  abbrev ran : RunOutcome
  ran = run_outcome file order facts rules steps

  abbrev o : GroundsOutcome
  o = grounds_outcome file order fact facts rules steps

  abbrev run_asked : Option Refusal
  run_asked = run_no file order (length facts) (length rules) (length steps)

  abbrev asked : Option Refusal
  asked = grounds_no file order fact (length facts) (length rules) (length steps)

  -- the run gives a result
  module _ (yes-to-run : ◌≡◌ {A = Option Refusal} run_asked none) where
    traced : taken_steps ran ≡ s.trace
    traced = trace_is file order facts rules steps yes-to-run

    set : derived_set file ran ≡ s.derived
    set = derived_is file order facts rules steps yes-to-run

    -- no fact past the count is derived
    within : Within P s.derived
    within f l =
        run-absent P (in_force P) (named_in order) f
        (λ i k _ e. let c : (rule P i).conclusion < P.facts = (in_bounds file order facts rules steps yes-to-run).conclusion_below i k in absurd (omega arith))

    -- 50 is asked last
    pub not_derived : s.derived fact ≡ false → grounds_number o.answer ≡ 50
    not_derived e =
        sym (ap (λ (x : GroundsOutcome). grounds_number x.answer) (refused-there file order fact facts rules steps NotDerived (last-asked file order fact facts rules steps yes-to-run ∙ rw e)))

    pub was_derived : s.derived fact ≡ true → grounds_number o.answer ≡ 0
    unfolding grounds_written
    was_derived e =
        sym (ap (λ (x : GroundsOutcome). grounds_number x.answer) (written_there file order fact facts rules steps (last-asked file order fact facts rules steps yes-to-run ∙ rw e)))

  -- a result: every question got yes
  module _ (passed : ◌≡◌ {A = Option Refusal} asked none) where
    run-passed : ◌≡◌ {A = Option Refusal} run_asked none
    unfolding grounds_questions
    run-passed = (both_yes (run_questions file order (length facts) (length rules) (length steps)) _ passed).0

    derived : s.derived fact ≡ true
    derived = go (s.derived fact) refl
      where
        go : (b : Bool) → s.derived fact ≡ b → b ≡ true
        go true e = refl
        go false e =
            let no : asked ≡ some NotDerived = last-asked file order fact facts rules steps run-passed ∙ rw e in
            absurd (let z : ◌≡◌ {A = ℕ} 0 1 = cc (no, passed) in omega arith)

    o_is : o ≡ grounds_written P s fact facts rules steps
    o_is = sym (written_there file order fact facts rules steps passed)

    count-is : grounds_count o.answer ≡ length (grounds_of P fact s.trace)
    unfolding grounds_written
    count-is = ap (λ (x : GroundsOutcome). grounds_count x.answer) o_is

    bytes_are : kept_bytes o ≡ step_bytes narrow (grounds_of P fact s.trace)
    unfolding grounds_written
    bytes_are = ap kept_bytes o_is ∙ steps_front (grounds_of P fact s.trace) steps

    pub row_is : kept_row o ≡ grounds_of P fact s.trace
    row_is = ap row_of bytes_are ∙ steps-read (grounds_of P fact s.trace)

    below : fact < P.facts
    below = go (dec_lt fact P.facts)
      where
        go : Dec (fact < P.facts) → fact < P.facts
        go (yes l) = l
        go (no n) = never derived (within run-passed fact (omega arith))

    pub grounds_are : GroundsAre file fact steps ran o
    unfolding grounds_written run_written
    grounds_are =
        record {
          run_result = ap (λ (x : RunOutcome). run_number x.answer) (run-written file order facts rules steps run-passed);
          fact_marks = ap (λ (x : GroundsOutcome). x.fact_marks) o_is ∙ sym (ap (λ (x : RunOutcome). x.fact_marks) (run-written file order facts rules steps run-passed));
          rule_marks = ap (λ (x : GroundsOutcome). x.rule_marks) o_is ∙ sym (ap (λ (x : RunOutcome). x.rule_marks) (run-written file order facts rules steps run-passed));
          counted = ap length row_is ∙ sym count-is;
          steps_kept = rw o_is (over-kept (step_bytes narrow (grounds_of P fact s.trace)) steps (step_width narrow * length (grounds_of P fact s.trace)) (step-bytes_length (grounds_of P fact s.trace)));
          kept_exists = (kept_steps P fact s.trace, rw (traced run-passed) (run-kept P (in_force P) (named_in order) fact));
          kept = λ K k. row_is ∙ sym (rw (traced run-passed) (kept-is P s.trace fact K (run-traced P (in_force P) (named_in order)) (rw (traced run-passed) at k)));
          subsequence = rw (row_is, traced run-passed) (grounds_subsequence P (in_force P) (named_in order) fact);
          minimal = rw row_is (grounds_minimal P (in_force P) (named_in order) fact derived);
          admitted = rw (row_is, set run-passed) (grounds_admitted P (in_force P) (named_in order) fact);
          says_yes = rw (bytes_are, set run-passed) (row-checked file (yeses file order facts rules steps run-passed).0 s.derived (within run-passed) fact below (grounds_of P fact s.trace) (grounds_minimal P (in_force P) (named_in order) fact derived).proof (grounds_admitted P (in_force P) (named_in order) fact));
        }

  -- a number 0 is a result, of the run and of its grounds
  pub no-refusal : grounds_number o.answer ≡ 0 → ◌≡◌ {A = Option Refusal} asked none
  no-refusal =
      answered asked (grounds_number o.answer)
      (λ r e. sym (ap (λ (x : GroundsOutcome). grounds_number x.answer) (refused-there file order fact facts rules steps r e)))

  run-answers : run_number ran.answer ≡ 0 → ◌≡◌ {A = Option Refusal} run_asked none
  run-answers = run-answered file order facts rules steps

  -- what the run refuses
  refused-first : 0 < run_number ran.answer → grounds_number o.answer ≡ run_number ran.answer
  unfolding run_written
  refused-first l = go run_asked refl
    where
      go : (no : Option Refusal) → run_asked ≡ no → grounds_number o.answer ≡ run_number ran.answer
      go none e =
          let z : run_number ran.answer ≡ 0 = ap (λ (x : RunOutcome). run_number x.answer) (run-written file order facts rules steps e) in
          absurd (omega arith)
      go (some r) e =
          sym (ap (λ (x : GroundsOutcome). grounds_number x.answer) (run-refused file order fact facts rules steps r e))
          ∙ ap (λ (x : RunOutcome). run_number x.answer) (outcome-refused file order facts rules steps r e)

  fifty_exactly : run_number ran.answer ≡ 0 → (grounds_number o.answer ≡ 50) ↔ (derived_set file ran fact ≡ false)
  fifty_exactly n = (
    λ e. rw (set (run-answers n)) (false_of (s.derived fact) (λ d. let z : grounds_number o.answer ≡ 0 = was_derived (run-answers n) d in omega arith)),
    λ e. not_derived (run-answers n) (rw (set (run-answers n)) at e),
  )

  shorter : ShorterGrounds file fact steps ran o
  shorter =
      record {
        result = λ n. grounds_are (no-refusal n);
        fifty = fifty_exactly;
        derived = λ n d. was_derived (run-answers n) (rw (set (run-answers n)) at d);
        beyond = λ n l. not_derived (run-answers n) (within (run-answers n) fact l);
        run_first = refused-first;
      }

pub wish_01 : Wish01
wish_01 = record { shorter = shorter }
