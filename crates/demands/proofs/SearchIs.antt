-- The search gives the earliest stable set with an order that leads to it, for any bytes that get a result.
use Prim.Native.Nat.{ℕ, ◌*◌}
use mathlib.Core.Path.{◌≡◌, refl, sym, ◌∙◌, ap}
use mathlib.Core.Bool.{Bool, true}
use mathlib.Core.List.{List, [], ◌∷◌, ◌++◌}
use mathlib.Core.Option.{Option, none, some}
use lib.ListN.{length, take, drop}
use lib.Seq.{take_at}
use lib.Dec.{eqb}
use Rattle.theory.specs.Rule.{how_many, Program, FactSet, in_force, count, Step}
use Rattle.theory.specs.Conditions.{Bounded}
use Rattle.theory.specs.Run.{Stand, run, fact_mark, rule_mark, marks_of_facts, marks_of_rules}
use Rattle.theory.specs.Stable.{row_to, Earliest, any_set, order_for}
use Rattle.theory.specs.Search.{search}
use Rattle.theory.proofs.Bools.{never}
use Rattle.theory.proofs.Search.{search-earliest}
use Rattle.theory.proofs.Order.{order-none_aside}
use Rattle.theory.proofs.Counts.{run-stages}
use Rattle.items.specs.declared.refusal.Refusal.{Refusal}
use Rattle.items.specs.declared.refusal.Refusal.TheVariants.{NoStableSet}
use Rattle.items.specs.Item.{narrow, name_width, step_width, marked}
use Rattle.reader.specs.Questions.{program_of, file_questions, file_no, exceptions}
use Rattle.reader.proofs.Accepted.{accepted_file, bounded, all_asked}
use Rattle.items.proofs.FirstNo.{both_yes}
use Rattle.questions.specs.Questions.{named_in, row_of, buffer_questions, buffers_no, some_stable, stable_question, limit_questions, early_questions, search_questions, search_no, naming}
use Rattle.questions.proofs.Orders.{naming-names}
use Rattle.closure.specs.Steps.{step_bytes}
use Rattle.run.specs.Outcome.{RunOutcome, run_written, run_outcome, run_stages, run_steps}
use Rattle.demands.specs.Results.{step_row, found_set, written_order, written_steps, written_proof, SameResult, SearchIs}
use Rattle.results.proofs.StepsWritten.{step-bytes_length}
use Rattle.theory.proofs.Lists.{mapped_length}
use Rattle.run.proofs.ReadMarks.{marks_front, read_derived, read_aside, read_withheld, over-kept}
use Rattle.run.proofs.ReadSteps.{steps_front, row-front, steps-read}
use Rattle.search.specs.Outcome.{SearchOutcome, search_written, found_at, taken_set, search_outcome, search_number, search_stages, search_steps}
use Rattle.orders.proofs.OrderGroups.{order-width}
use Rattle.demands.proofs.Outcomes.{search-found, search-answered}
use Rattle.demands.proofs.LeadsTo.{reaches, rows_read, rows_prove, ran, leads-to}

-- Where question 41 gets yes, the set that is taken is the earliest.
taken-earliest : (P : Program) → Bounded P → some_stable P ≡ true → Earliest P (in_force P) any_set (taken_set P)
unfolding some_stable taken_set
taken-earliest P b t = go (search P (in_force P)) refl
  where
    go : (found : Option FactSet) → search P (in_force P) ≡ found → Earliest P (in_force P) any_set (taken_set P)
    go (some M) e = rw (e, taken_set) (search-earliest P (in_force P) b M e)
    go none e = never t (rw (e, some_stable))

module _ (file facts rules steps order : List ℕ) (passed : ◌≡◌ {A = Option Refusal} (search_no file (length facts) (length rules) (length steps) (length order)) none) where
  abbrev P : Program
  P = program_of file

  abbrev M : FactSet
  M = taken_set P

  abbrev row : List ℕ
  row = order_for P (in_force P) M

  abbrev s : Stand
  s = run P (in_force P) row

  abbrev o : SearchOutcome
  o = search_outcome file facts rules steps order

  yeses : (◌≡◌ {A = Option Refusal} (file_no file) none) × ((◌≡◌ {A = Option Refusal} (buffers_no narrow P (length facts) (length rules) (length steps)) none) × (some_stable P ≡ true))
  unfolding search_questions early_questions
  yeses =
      let t = both_yes (early_questions file (length facts) (length rules) (length steps) (length order)) (stable_question P ∷ []) passed in
      let f = both_yes (file_questions file) (buffer_questions narrow P (length facts) (length rules) (length steps) ++ limit_questions P (length order)) t.0 in
      let b = both_yes (buffer_questions narrow P (length facts) (length rules) (length steps)) (limit_questions P (length order)) f.1 in
      (f.0, (b.0, (all_asked NoStableSet (some_stable P) none t.1).0))

  in_bounds : Bounded P
  in_bounds = bounded (accepted_file file yeses.0)

  earliest : Earliest P (in_force P) any_set M
  earliest = taken-earliest P in_bounds yeses.1.1

  o_is : o ≡ found_at P M facts rules steps order
  o_is = search-found file facts rules steps order passed

  pub set_is : found_set file o ≡ M
  unfolding search_written
  set_is =
      ap (found_set file) o_is ∙ (read_derived P in_bounds row facts ∙ reaches file yeses.0 M earliest.stable)

  bytes_are : written_order file o ≡ naming row
  unfolding search_written
  bytes_are =
      ap (written_order file) o_is
      ∙ take_at (naming row) (drop (length (naming row)) order) (name_width * exceptions P) (order-width P M)

  steps-are : written_steps o ≡ step_bytes narrow s.trace
  unfolding search_written
  steps-are = ap written_steps o_is ∙ steps_front s.trace steps

  pub searched_trace : row_of (written_steps o) ≡ s.trace
  searched_trace = ap row_of steps-are ∙ steps-read s.trace

  row_is : (f : ℕ) → written_proof f o ≡ step_bytes narrow (row_to f s.trace)
  unfolding search_written
  row_is f =
      ap (λ (taken : List Step). take (step_width narrow * length (row_to f taken)) o.steps) searched_trace
      ∙ (ap (λ (x : SearchOutcome). take (step_width narrow * length (row_to f s.trace)) x.steps) o_is ∙ row-front f s.trace steps)

  -- The run under the order that was written.
  module _ (facts' rules' steps' : List ℕ) (fit : ◌≡◌ {A = Option Refusal} (buffers_no narrow P (length facts') (length rules') (length steps')) none) where
    ran-so : run_outcome file (written_order file o) facts' rules' steps' ≡ run_written P s facts' rules' steps'
    ran-so =
        ap (λ (bytes : List ℕ). run_outcome file bytes facts' rules' steps') bytes_are
        ∙ ran file yeses.0 M earliest.stable facts' rules' steps' fit

    agrees : SameResult file o (run_outcome file (written_order file o) facts' rules' steps')
    unfolding search_written run_written
    agrees =
        record {
          fact_marks = ap (λ (x : RunOutcome). take P.facts x.fact_marks) ran-so ∙ (marks_front (fact_mark P s) P.facts facts' ∙ sym (ap (λ (x : SearchOutcome). take P.facts x.fact_marks) o_is ∙ marks_front (fact_mark P s) P.facts facts));
          rule_marks = ap (λ (x : RunOutcome). take (count P) x.rule_marks) ran-so ∙ (marks_front (rule_mark P (in_force P) s) (count P) rules' ∙ sym (ap (λ (x : SearchOutcome). take (count P) x.rule_marks) o_is ∙ marks_front (rule_mark P (in_force P) s) (count P) rules));
          steps = ap step_row ran-so ∙ (steps_front s.trace steps' ∙ sym steps-are);
          stage-count = ap (λ (x : RunOutcome). run_stages x.answer) ran-so ∙ sym (ap (λ (x : SearchOutcome). search_stages x.answer) o_is);
          step_count = ap (λ (x : RunOutcome). run_steps x.answer) ran-so ∙ sym (ap (λ (x : SearchOutcome). search_steps x.answer) o_is);
        }

  same_bytes : run_outcome file (written_order file o) facts rules steps ≡ run_written P s facts rules steps
  same_bytes = ran-so facts rules steps yeses.1.0

  pub search-passed : SearchIs file facts rules steps order o
  unfolding search_written run_written
  search-passed =
      record {
        earliest = rw set_is earliest;
        leads = rw (set_is, bytes_are) (leads-to file yeses.0 M earliest.stable);
        order_is = ap named_in bytes_are ∙ (naming-names row ∙ ap (order_for P (in_force P)) (sym set_is));
        same_result = agrees;
        same_fact_marks = ap (λ (x : RunOutcome). x.fact_marks) same_bytes ∙ sym (ap (λ (x : SearchOutcome). x.fact_marks) o_is);
        same_rule_marks = ap (λ (x : RunOutcome). x.rule_marks) same_bytes ∙ sym (ap (λ (x : SearchOutcome). x.rule_marks) o_is);
        same_steps = ap (λ (x : RunOutcome). x.steps) same_bytes ∙ sym (ap (λ (x : SearchOutcome). x.steps) o_is);
        none_aside = λ i. ap (λ (x : SearchOutcome). marked (count P) 2 x.rule_marks i) o_is ∙ (ap (λ (p : ℕ → Bool). p i) (read_aside P in_bounds row rules) ∙ order-none_aside P (in_force P) M earliest.stable i);
        withheld_rules = λ i. ap (λ (x : SearchOutcome). marked (count P) 4 x.rule_marks i) o_is ∙ ap (λ (p : ℕ → Bool). p i) (read_withheld P in_bounds row rules);
        stages = rw o_is (sym (run-stages P (in_force P) row) ∙ ap (how_many (λ m. eqb m 1)) (sym (marks_front (rule_mark P (in_force P) s) (count P) rules)));
        rows_are = λ f. rows_read file yeses.0 M earliest.stable (λ g. written_proof g o) row_is f ∙ ap (row_to f) (sym searched_trace);
        rows_prove = rw set_is (rows_prove file yeses.0 M earliest.stable (λ g. written_proof g o) row_is);
        fact_marks_kept = ap (λ (x : SearchOutcome). drop P.facts x.fact_marks) o_is ∙ over-kept (marks_of_facts P s) facts P.facts (mapped_length (fact_mark P s) P.facts);
        rule_marks_kept = ap (λ (x : SearchOutcome). drop (count P) x.rule_marks) o_is ∙ over-kept (marks_of_rules P (in_force P) s) rules (count P) (mapped_length (rule_mark P (in_force P) s) (count P));
        steps_kept = rw o_is (over-kept (step_bytes narrow s.trace) steps (step_width narrow * length s.trace) (step-bytes_length s.trace));
        order_kept = ap (λ (x : SearchOutcome). drop (name_width * exceptions P) x.order) o_is ∙ over-kept (naming row) order (name_width * exceptions P) (order-width P M);
      }

-- Number 0 is a result.
pub search_is : (file facts rules steps order : List ℕ) → search_number (search_outcome file facts rules steps order).answer ≡ 0 → SearchIs file facts rules steps order (search_outcome file facts rules steps order)
search_is file facts rules steps order e =
    search-passed file facts rules steps order (search-answered file facts rules steps order e)
