-- The run is the forward chaining along the order, for any bytes that get a result.
use Prim.Native.Nat.{ℕ, ◌*◌, ◌<◌}
use mathlib.Core.Path.{◌≡◌, sym, ◌∙◌, ap}
use mathlib.Core.Bool.{Bool, true, false, cond}
use mathlib.Core.List.{List}
use mathlib.Core.Option.{Option, none}
use lib.ListN.{length, get_or, take, drop}
use lib.Dec.{eqb}
use Rattle.theory.specs.Rule.{how_many, mem, Program, FactSet, withheld, in_force, count, plain, exception, Step}
use Rattle.theory.specs.Conditions.{Bounded, Names}
use Rattle.theory.specs.Run.{Stand, rejected, set_aside, fact_mark, rule_mark, marks_of_facts, marks_of_rules}
use Rattle.theory.specs.Stable.{row_to}
use Rattle.theory.proofs.Bools.{never, both_ways}
use Rattle.theory.proofs.Run.{run_sound, run-none_eligible, exception-known}
use Rattle.theory.proofs.Absent.{run-absent}
use Rattle.theory.proofs.RunStable.{run-stable, none_aside_stable}
use Rattle.theory.proofs.Counts.{run-stages}
use Rattle.theory.proofs.Stages.{stands}
use Rattle.theory.proofs.Rows.{run-proof, run-admits}
use Rattle.theory.proofs.Chaining.{applicable_eligible, run-chains, chaining_derived, chaining_rejected, chaining_disjoint, chaining_applied, chaining_taken}
use Rattle.theory.proofs.StepsInTurn.{run-in_turn, in_turn_unique}
use Rattle.theory.proofs.Marks.{aside_supported, supported_aside, aside_inconsistent}
use Rattle.theory.proofs.Withheld.{read_on}
use Rattle.items.specs.declared.refusal.Refusal.{Refusal}
use Rattle.items.specs.Item.{narrow, step_width}
use Rattle.reader.specs.Questions.{program_of, file_questions, file_no}
use Rattle.reader.proofs.Accepted.{accepted_file, bounded}
use Rattle.items.proofs.FirstNo.{both_yes}
use Rattle.questions.specs.Questions.{named_in, order_questions, order_no, row_of, buffer_questions, run_questions, buffers_no, run_no, run_of}
use Rattle.questions.proofs.OperationAsked.{yes_to_order}
use Rattle.closure.specs.Steps.{step_bytes}
use Rattle.run.specs.Outcome.{RunOutcome, run_written, run_outcome, run_number, run_stages, run_steps}
use Rattle.demands.specs.Results.{derived_set, rejected_set, plain_set, applied_set, aside_set, withheld_set, step_row, ChainsAlong, RunIs, taken_steps, row_up_to}
use Rattle.results.proofs.StepsWritten.{step-bytes_length}
use Rattle.theory.proofs.Lists.{mapped_length}
use Rattle.run.proofs.ReadMarks.{mark_at, marks_front, read_derived, read_rejected, read_plain, read_applied, read_aside, read_withheld, over-kept}
use Rattle.run.proofs.ReadSteps.{steps_front, row-front, steps-read}
use Rattle.demands.proofs.Outcomes.{run-written, run-answered}

-- a mark that is none of the others
open_mark : (d r : Bool) → d ≡ false → r ≡ false → ◌≡◌ {A = ℕ} (cond d 1 (cond r 2 0)) 0
open_mark d r e h = rw (e, h)

other_mark : (p a s o : Bool) → p ≡ false → a ≡ false → s ≡ false → o ≡ true → ◌≡◌ {A = ℕ} (cond p 0 (cond a 1 (cond s 2 (cond o 3 4)))) 3
other_mark p a s o e h k l = rw (e, h, k, l)

module _ (file order facts rules steps : List ℕ) (passed : ◌≡◌ {A = Option Refusal} (run_no file order (length facts) (length rules) (length steps)) none) where
  abbrev P : Program
  P = program_of file

  abbrev names : List ℕ
  names = named_in order

  abbrev s : Stand
  s = run_of file order

  abbrev o : RunOutcome
  o = run_outcome file order facts rules steps

  pub yeses : (◌≡◌ {A = Option Refusal} (file_no file) none) × ((◌≡◌ {A = Option Refusal} (order_no (exception P) (count P) order) none) × (◌≡◌ {A = Option Refusal} (buffers_no narrow P (length facts) (length rules) (length steps)) none))
  unfolding run_questions
  yeses =
      let t = both_yes (file_questions file) _ passed in
      (t.0, both_yes (order_questions (exception P) (count P) order) (buffer_questions narrow P (length facts) (length rules) (length steps)) t.1)

  pub in_bounds : Bounded P
  in_bounds = bounded (accepted_file file yeses.0)

  all_named : Names P (in_force P) names
  all_named c x _ = yes_to_order (exception P) (count P) order yeses.1.0 c (exception-known P (in_force P) c x) ∙ x

  o_is : o ≡ run_written P s facts rules steps
  o_is = run-written file order facts rules steps passed

  pub derived_is : derived_set file o ≡ s.derived
  unfolding run_written
  derived_is = ap (derived_set file) o_is ∙ read_derived P in_bounds names facts

  rejected-is : rejected_set file o ≡ rejected P s.applied
  unfolding run_written
  rejected-is = ap (rejected_set file) o_is ∙ read_rejected P in_bounds names facts

  plain-is : plain_set file o ≡ plain P
  unfolding run_written
  plain-is = ap (plain_set file) o_is ∙ read_plain P in_bounds names rules

  applied_is : applied_set file o ≡ (λ i. mem i s.applied)
  unfolding run_written
  applied_is = ap (applied_set file) o_is ∙ read_applied P in_bounds names rules

  pub aside_is : aside_set file o ≡ set_aside P (in_force P) s.derived
  unfolding run_written
  aside_is = ap (aside_set file) o_is ∙ read_aside P in_bounds names rules

  pub withheld-is : withheld_set file o ≡ withheld P
  unfolding run_written
  withheld-is = ap (withheld_set file) o_is ∙ read_withheld P in_bounds names rules

  open_is : (f : ℕ) → f < P.facts → derived_set file o f ≡ false → rejected_set file o f ≡ false → get_or o.fact_marks f 0 ≡ 0
  unfolding run_written fact_mark
  open_is f l d r =
      ap (λ (x : RunOutcome). get_or x.fact_marks f 0) o_is
      ∙ (mark_at (fact_mark P s) P.facts facts f l
      ∙ open_mark (s.derived f) (rejected P s.applied f) (rw derived_is at d) (rw rejected-is at r))

  other_is : (c : ℕ) → c < count P → plain_set file o c ≡ false → applied_set file o c ≡ false → aside_set file o c ≡ false → withheld_set file o c ≡ false → get_or o.rule_marks c 0 ≡ 3
  unfolding run_written rule_mark
  other_is c l p a x w =
      ap (λ (x : RunOutcome). get_or x.rule_marks c 0) o_is
      ∙ (mark_at (rule_mark P (in_force P) s) (count P) rules c l
      ∙ other_mark (plain P c) (mem c s.applied) (set_aside P (in_force P) s.derived c) (in_force P c) (rw plain-is at p) (rw applied_is at a) (rw aside_is at x) (read_on P c (rw withheld-is at w)))

  stages_are : run_stages o.answer ≡ how_many (λ m. eqb m 1) (take (count P) o.rule_marks)
  unfolding run_written
  stages_are =
      rw o_is
      (sym (run-stages P (in_force P) names)
      ∙ ap (how_many (λ m. eqb m 1)) (sym (marks_front (rule_mark P (in_force P) s) (count P) rules)))

  pub stage-count : run_stages o.answer ≡ length s.applied
  unfolding run_written
  stage-count = ap (λ (x : RunOutcome). run_stages x.answer) o_is

  step_count : run_steps o.answer ≡ length s.trace
  unfolding run_written
  step_count = ap (λ (x : RunOutcome). run_steps x.answer) o_is

  pub steps-are : step_row o ≡ step_bytes narrow s.trace
  unfolding run_written
  steps-are = ap step_row o_is ∙ steps_front s.trace steps

  pub trace_is : taken_steps o ≡ s.trace
  trace_is = ap row_of steps-are ∙ steps-read s.trace

  -- the bytes up to a fact's own step
  pub row_is : (f : ℕ) → row_up_to f o ≡ step_bytes narrow (row_to f s.trace)
  unfolding run_written
  row_is f =
      ap (λ (row : List Step). take (step_width narrow * length (row_to f row)) o.steps) trace_is
      ∙ (ap (λ (x : RunOutcome). take (step_width narrow * length (row_to f s.trace)) x.steps) o_is ∙ row-front f s.trace steps)

  steps-stay : drop (step_width narrow * run_steps o.answer) o.steps ≡ drop (step_width narrow * run_steps o.answer) steps
  unfolding run_written
  steps-stay = rw o_is (over-kept (step_bytes narrow s.trace) steps (step_width narrow * length s.trace) (step-bytes_length s.trace))

  facts-stay : drop P.facts o.fact_marks ≡ drop P.facts facts
  unfolding run_written
  facts-stay =
      ap (λ (x : RunOutcome). drop P.facts x.fact_marks) o_is
      ∙ over-kept (marks_of_facts P s) facts P.facts (mapped_length (fact_mark P s) P.facts)

  rules-stay : drop (count P) o.rule_marks ≡ drop (count P) rules
  unfolding run_written
  rules-stay =
      ap (λ (x : RunOutcome). drop (count P) x.rule_marks) o_is
      ∙ over-kept (marks_of_rules P (in_force P) s) rules (count P) (mapped_length (rule_mark P (in_force P) s) (count P))

  pub run-passed : RunIs file order facts rules steps o
  run-passed =
      record {
        chains = ((λ n. (stands P (in_force P) names n).derived), ((λ n. rejected P (stands P (in_force P) names n).applied), run-chains P (in_force P) names all_named));
        derived = λ D R c. rw derived_is (chaining_derived P (in_force P) names D R c);
        rejections = λ D R c. rw rejected-is (chaining_rejected P (in_force P) names D R c);
        open_facts = open_is;
        disjoint = λ D R c. chaining_disjoint P (in_force P) names D R c;
        plain-rules = λ c. ap (λ (p : ℕ → Bool). p c) plain-is;
        applied = λ D R h c. rw applied_is (chaining_applied P (in_force P) names D R h c);
        set-aside = λ c. rw (aside_is, derived_is) (aside_supported P (in_force P) s.derived c, supported_aside P (in_force P) s.derived c);
        inconsistent = λ c. rw (aside_is, derived_is, rejected-is) (aside_inconsistent P (in_force P) names all_named c);
        withheld_rules = λ c. ap (λ (p : ℕ → Bool). p c) withheld-is;
        other_rules = other_is;
        stages_taken = λ D R h n. rw stage-count (chaining_taken P (in_force P) names D R h n);
        stages = stages_are;
        none_applicable = λ c a. never (applicable_eligible P (in_force P) s c (rw (derived_is, rejected-is) at a)) (run-none_eligible P (in_force P) names all_named c);
        absent = λ f h. rw derived_is (run-absent P (in_force P) names f h);
        stable = rw (aside_is, derived_is) (run-stable P (in_force P) names);
        whole_stable = λ h. rw derived_is (none_aside_stable P (in_force P) names (λ i. sym (ap (λ (p : ℕ → Bool). p i) aside_is) ∙ h i));
        step_count = ap length trace_is ∙ sym step_count;
        step-facts = λ f. rw (trace_is, derived_is) (sym ((run_sound P (in_force P) names).facts f));
        in_turn = λ D R h. rw trace_is (run-in_turn P (in_force P) names D R h);
        row_proves = λ f d. rw trace_is (run-proof P (in_force P) names f (sym (ap (λ (p : ℕ → Bool). p f) derived_is) ∙ d));
        row_admitted = λ f _. rw (trace_is, derived_is) (run-admits P (in_force P) names f);
        fact_marks_kept = facts-stay;
        rule_marks_kept = rules-stay;
        steps_kept = steps-stay;
      }

-- Number 0 is a result.
pub run_is : (file order facts rules steps : List ℕ) → run_number (run_outcome file order facts rules steps).answer ≡ 0 → RunIs file order facts rules steps (run_outcome file order facts rules steps)
run_is file order facts rules steps e =
    run-passed file order facts rules steps (run-answered file order facts rules steps e)

-- It leaves no step open: of all outcomes for a file and an order of which it holds, the steps are the same.
pub steps-determined : (file order : List ℕ) {facts rules steps facts' rules' steps' : List ℕ} (o o' : RunOutcome) → RunIs file order facts rules steps o → RunIs file order facts' rules' steps' o' → taken_steps o ≡ taken_steps o'
steps-determined file order o o' r r' =
    in_turn_unique (program_of file) (in_force (program_of file)) (named_in order) D R (taken_steps o) (taken_steps o') (r.in_turn D R chain) (r'.in_turn D R chain)
    (λ f. r.step-facts f ∙ (both_ways _ _ (λ t. (r'.derived D R chain f).1 ((r.derived D R chain f).0 t)) (λ t. (r.derived D R chain f).1 ((r'.derived D R chain f).0 t)) ∙ sym (r'.step-facts f)))
  where
    D : ℕ → FactSet
    D = r.chains.0

    R : ℕ → FactSet
    R = r.chains.1.0

    chain : ChainsAlong file order D R
    chain = r.chains.1.1
