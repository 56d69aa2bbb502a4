-- An order that names every exception rule once, and under which the run ends at a stable set, leads to the set.
use Prim.Native.Nat.{ℕ, ◌*◌, ◌<◌}
use native.Mathlib.Omega.{arith}
use native.Mathlib.Decide.{dec_lt}
use mathlib.Core.Path.{◌≡◌, refl, sym, ◌∙◌, ap, fun_ext, subst}
use mathlib.Core.Bool.{Bool, true, false}
use Rattle.std.specs.Prelude.{Result, Ok, Err}
use mathlib.Core.List.{List, ◌++◌}
use mathlib.Core.Option.{Option, none}
use lib.ListN.{length}
use lib.Dec.{eqb}
use Rattle.theory.specs.Rule.{how_many, Program, FactSet, Same, in_force, count, exception, Step}
use Rattle.theory.specs.Run.{Stand, run}
use Rattle.theory.specs.Stable.{Stable, Proof, Admits, row_to}
use Rattle.theory.specs.Conditions.{Within}
use Rattle.theory.proofs.Bools.{never}
use Rattle.theory.proofs.Order.{stable_none_aside}
use Rattle.theory.proofs.Rows.{run-proof, run-admits}
use Rattle.theory.proofs.Stable.{stable_within, outside-no_proof}
use Rattle.items.specs.declared.refusal.Refusal.{Refusal}
use Rattle.reader.specs.Questions.{program_of, file_questions, file_no, exceptions}
use Rattle.reader.proofs.Accepted.{accepted_file, bounded}
use Rattle.items.proofs.FirstNo.{all_yes}
use Rattle.items.specs.Item.{narrow, name_width}
use Rattle.questions.specs.Questions.{order_questions, order_no, row_of, buffer_questions, run_questions, buffers_no, run_no, naming, run_of}
use Rattle.questions.proofs.Orders.{naming-names, naming-length, once-yes}
use Rattle.closure.specs.Steps.{step_bytes}
use Rattle.run.specs.Outcome.{RunOutcome, run_written, run_outcome, run_number}
use Rattle.run.proofs.ReadSteps.{steps-read}
use Rattle.proofcheck.specs.Checked.{checked, checked_number, checked_verdict}
use Rattle.proofcheck.proofs.Meaning.{checked-means}
use Rattle.demands.specs.Results.{set_bytes, RowsProve, row_up_to, EndsAt, LeadsTo}
use Rattle.demands.proofs.RowChecked.{set_is, row-checked}
use Rattle.demands.proofs.Outcomes.{run-written}
use Rattle.demands.proofs.RunIs.{derived_is, aside_is, trace_is, row_is}

-- A row names every exception rule once, and nothing else.
pub record NamesOnce (P : Program) (row : List ℕ) : Type 0 where
  pub once : (r : ℕ) → exception P r ≡ true → how_many (eqb r) row ≡ 1
  pub only : (r : ℕ) → exception P r ≡ false → how_many (eqb r) row ≡ 0
  pub long : length row ≡ exceptions P

-- a verdict that is not yes is 0
not_yes : (a : Result Bool Refusal) → (checked_number a ≡ 0 → checked_verdict a ≡ 1 → ⊥) → checked_verdict a ≡ 0
not_yes (Ok true) n = absurd (n refl refl)
not_yes (Ok false) n = refl
not_yes (Err r) n = refl

module _ (file : List ℕ) (accepted : ◌≡◌ {A = Option Refusal} (file_no file) none) (M : FactSet) (stable : Stable (program_of file) (in_force (program_of file)) M) (row : List ℕ) (names : NamesOnce (program_of file) row) (ends_there : Same (run (program_of file) (in_force (program_of file)) row).derived M) where
  abbrev P : Program
  P = program_of file

  abbrev s : Stand
  s = run P (in_force P) row

  pub reached : s.derived ≡ M
  reached = fun_ext ends_there

  -- Questions 11 to 14 get yes.
  order_right : ◌≡◌ {A = Option Refusal} (order_no (exception P) (count P) (naming row)) none
  order_right = once-yes (exception P) (count P) row names.once names.only

  -- The set as bytes.
  within : Within P M
  within = stable_within P (in_force P) M (bounded (accepted_file file accepted)) stable

  known : (f : ℕ) → M f ≡ true → f < P.facts
  known f m = go (dec_lt f P.facts)
    where
      go : Dec (f < P.facts) → f < P.facts
      go (yes l) = l
      go (no n) = never m (within f (omega arith))

  -- The rows up to each fact's own step, wherever they are written.
  module _ (rows : ℕ → List ℕ) (rows_are : (f : ℕ) → rows f ≡ step_bytes narrow (row_to f s.trace)) where
    pub rows_read : (f : ℕ) → row_of (rows f) ≡ row_to f s.trace
    rows_read f = ap row_of (rows_are f) ∙ steps-read (row_to f s.trace)

    proves : (f : ℕ) → M f ≡ true → Proof P (in_force P) (row_of (rows f)) f
    proves f m = rw (rows_read f) (run-proof P (in_force P) row f (ap (λ (X : FactSet). X f) reached ∙ m))

    admits : (f : ℕ) → Admits P M (row_of (rows f))
    admits f = rw (rows_read f) (subst (λ (X : FactSet). Admits P X (row_to f s.trace)) reached (run-admits P (in_force P) row f))

    yes_said : (f : ℕ) → M f ≡ true → checked file (set_bytes file M) f (rows f) ≡ Ok true
    yes_said f m =
        ap (checked file (set_bytes file M) f) (rows_are f)
        ∙ row-checked file accepted M within f (known f m) (row_to f s.trace) (rw (rows_read f) at (proves f m)) (rw (rows_read f) at (admits f))

    pub rows_prove : RowsProve file M rows
    rows_prove = record { proves = proves; admitted = λ f _. admits f; says_yes = yes_said }

  -- The run under the order.
  module _ (facts rules steps : List ℕ) (fit : ◌≡◌ {A = Option Refusal} (buffers_no narrow P (length facts) (length rules) (length steps)) none) where
    may_run : ◌≡◌ {A = Option Refusal} (run_no file (naming row) (length facts) (length rules) (length steps)) none
    unfolding run_questions
    may_run =
        all_yes (file_questions file) (order_questions (exception P) (count P) (naming row) ++ buffer_questions narrow P (length facts) (length rules) (length steps)) accepted
        (all_yes (order_questions (exception P) (count P) (naming row)) (buffer_questions narrow P (length facts) (length rules) (length steps)) order_right fit)

    pub ran-under : run_of file (naming row) ≡ s
    ran-under = ap (run P (in_force P)) (naming-names row)

    abbrev o : RunOutcome
    o = run_outcome file (naming row) facts rules steps

    pub ran : o ≡ run_written P s facts rules steps
    ran =
        run-written file (naming row) facts rules steps may_run
        ∙ ap (λ (t : Stand). run_written P t facts rules steps) ran-under

    row-there : (f : ℕ) → row_up_to f o ≡ step_bytes narrow (row_to f s.trace)
    row-there f =
        row_is file (naming row) facts rules steps may_run f
        ∙ ap (λ (t : Stand). step_bytes narrow (row_to f t.trace)) ran-under

    ends : EndsAt file M o
    unfolding run_written
    ends =
        record {
          number = ap (λ (x : RunOutcome). run_number x.answer) ran;
          ends_there = derived_is file (naming row) facts rules steps may_run ∙ (ap (λ (t : Stand). t.derived) ran-under ∙ reached);
          none_aside = λ i. rw (aside_is file (naming row) facts rules steps may_run, ran-under, reached) (stable_none_aside P (in_force P) M stable i);
          rows_are = λ f. rows_read (λ g. row_up_to g o) row-there f ∙ ap (row_to f) (sym (trace_is file (naming row) facts rules steps may_run ∙ ap (λ (t : Stand). t.trace) ran-under));
          rows_prove = rows_prove (λ g. row_up_to g o) row-there;
        }

  outside : (f : ℕ) → M f ≡ false → (taken : List Step) → Proof P (in_force P) taken f → Admits P M taken → ⊥
  outside f out taken p a = outside-no_proof P (in_force P) M f stable out taken p a

  no-said : (f : ℕ) → M f ≡ false → (bytes : List ℕ) → checked_verdict (checked file (set_bytes file M) f bytes) ≡ 0
  no-said f out bytes =
      not_yes (checked file (set_bytes file M) f bytes)
      (λ n v.
      let t = ((checked-means file (set_bytes file M) f bytes).yes_exactly n).0 v in
      outside f out (row_of bytes) t.0 (rw (set_is file accepted M within) at t.1))

  pub order-leads : LeadsTo file (naming row) M
  order-leads =
      record {
        named_once = λ r e. ap (how_many (eqb r)) (naming-names row) ∙ names.once r e;
        named_only = λ r e. ap (how_many (eqb r)) (naming-names row) ∙ names.only r e;
        whole_items = naming-length row ∙ ap (λ (n : ℕ). name_width * n) names.long;
        order_right = order_right;
        run_ends = ends;
        outside_unproved = outside;
        outside_unchecked = no-said;
      }
