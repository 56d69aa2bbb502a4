-- The texts show what the run and the grounds under the ascending order leave.
use Prim.Native.Nat.{ℕ, ◌<◌}
use native.Mathlib.Omega.{arith}
use mathlib.Core.Path.{◌≡◌, refl, sym, ap, ◌∙◌}
use mathlib.Core.Bool.{Bool, true, false, cond}
use mathlib.Core.List.{List}
use mathlib.Core.Option.{Option, none, some, map}
use borrow.Author.Tests.{lt-ltb, le-leb}
use lib.ListN.{length, get_or, drop}
use lib.Seq.{take-append_seam}
use lib.Dec.{eqb}
use Rattle.theory.specs.Rule.{up_to, Program, in_force, count, exception}
use Rattle.theory.specs.Run.{Stand, run, fact_mark}
use Rattle.theory.specs.Keeping.{grounds_of}
use Rattle.theory.proofs.Lists.{mem-up_to, keep_same}
use Rattle.items.specs.declared.refusal.Refusal.{Refusal}
use Rattle.items.specs.declared.refusal.Refusal.TheVariants.{NotDerived}
use Rattle.items.specs.Question as refusal
use Rattle.items.specs.Item.{narrow, marked}
use Rattle.items.proofs.RefusalNumbers.{number-above}
use Rattle.items.proofs.FirstNo.{first-no, first-yes, all_yes}
use Rattle.reader.specs.Questions.{program_of, file_questions, file_no}
use Rattle.questions.specs.Questions.{each, order_questions, buffer_questions, run_questions, run_no, run_of}
use Rattle.questions.proofs.Orders.{naming-names}
use Rattle.run.specs.Outcome.{RunOutcome, run_written, run_outcome, run_number}
use Rattle.run.proofs.ReadMarks.{mark_at, over-kept}
use Rattle.keeping.specs.Outcome.{GroundsOutcome, grounds_outcome, grounds_number}
use Rattle.keeping.proofs.GroundsAsked.{run-refused}
use Rattle.panel_lines.specs.Text.{ascending, line, step_line, rejected_facts, run_text}
use Rattle.panel_text.proofs.AscendingOrder.{ascending-yes}
use Rattle.panel_text.proofs.RunLines.{accepted_text}
use Rattle.panel_text.proofs.TextShown.{too_long}
use Rattle.panel_text.proofs.RefusalText.{panel_refusal}
use Rattle.grounds_text.specs.Text.{text_questions, text_no, grounds_text}
use Rattle.grounds_text.proofs.RefusalTold.{grounds_refusal}
use Rattle.demands.specs.PanelShows.{ascending_order, Suffice, rejected_in, lines_of, RunShown, PanelShows, GroundsShown, GroundsShow, Rendered}
use Rattle.demands.proofs.Outcomes.{run-written}
use Rattle.demands.proofs.RunIs.{aside_is, stage-count, trace_is}
use Rattle.demands.proofs.Wish01.{not_derived, was_derived, no-refusal, row_is}

module _ (file : List ℕ) where
  abbrev P : Program
  P = program_of file

  abbrev order : List ℕ
  order = ascending_order file

  abbrev s : Stand
  s = run_of file order

  same_run : s ≡ run P (in_force P) (ascending P)
  same_run = ap (run P (in_force P)) (naming-names (ascending P))

  module _ (facts rules steps : List ℕ) (enough : Suffice file facts rules steps) where
    -- only the file can be refused
    run-asked : ◌≡◌ {A = Option Refusal} (file_no file) none → ◌≡◌ {A = Option Refusal} (run_no file order (length facts) (length rules) (length steps)) none
    unfolding run_questions
    run-asked accepted =
        all_yes (file_questions file) _ accepted
        (all_yes (order_questions (exception P) (count P) order) (buffer_questions narrow P (length facts) (length rules) (length steps)) (ascending-yes (exception P) (count P)) enough)

    module _ (accepted : ◌≡◌ {A = Option Refusal} (file_no file) none) where
      abbrev o : RunOutcome
      o = run_outcome file order facts rules steps

      o_is : o ≡ run_written P s facts rules steps
      o_is = run-written file order facts rules steps (run-asked accepted)

      -- a mark 2 is read where the mark that was given is 2
      rejected-lines : rejected_in file o ≡ rejected_facts P s
      unfolding run_written marked
      rejected-lines =
          keep_same _ _ (up_to P.facts)
          (λ f h.
          let l : f < P.facts = mem-up_to P.facts f h in
          rw (lt-ltb f P.facts l)
          (ap (λ (x : RunOutcome). eqb (get_or x.fact_marks f 0) 2) o_is ∙ ap (λ (m : ℕ). eqb m 2) (mark_at (fact_mark P s) P.facts facts f l)))

      lines_are : run_text P s ≡ lines_of file o
      unfolding run_text
      lines_are =
          rw (rejected-lines, stage-count file order facts rules steps (run-asked accepted), trace_is file order facts rules steps (run-asked accepted), aside_is file order facts rules steps (run-asked accepted))

      run_shown : RunShown file o
      unfolding run_written
      run_shown =
          record {
            result = ap (λ (x : RunOutcome). run_number x.answer) o_is;
            lines = accepted_text file accepted ∙ ap (run_text P) (sym same_run) ∙ lines_are;
          }

  pub panel_shows : PanelShows file
  panel_shows =
      record {
        run_shown = λ accepted facts rules steps enough. run_shown facts rules steps enough accepted;
        refusal_shown = panel_refusal file;
      }

  module _ (fact : ℕ) where
    -- the text of a refusal, and behind an accepted file
    text_refused : (r : Refusal) → text_no file fact ≡ some r → grounds_text file fact ≡ line 0x45 (refusal.number r)
    text_refused r e = (grounds_refusal file fact (refusal.number r)).1 (ap (map refusal.number) e)

    text_last : ◌≡◌ {A = Option Refusal} (file_no file) none → text_no file fact ≡ cond (s.derived fact) none (some NotDerived)
    unfolding text_questions
    text_last accepted = first-yes (file_questions file) _ accepted ∙ ap (λ (x : Stand). cond (x.derived fact) none (some NotDerived)) (sym same_run)

    text_kept : ◌≡◌ {A = Option Refusal} (text_no file fact) none → grounds_text file fact ≡ each step_line (grounds_of P fact s.trace)
    unfolding grounds_text
    text_kept e = rw (e, grounds_text) (ap (λ (x : Stand). each step_line (grounds_of P fact x.trace)) (sym same_run))

    module _ (facts rules steps : List ℕ) (enough : Suffice file facts rules steps) where
      abbrev g : GroundsOutcome
      g = grounds_outcome file order fact facts rules steps

      by_refusal : (r : Refusal) → grounds_number g.answer ≡ refusal.number r → text_no file fact ≡ some r → GroundsShown file fact g
      by_refusal r n e =
          record {
            lines = λ z. absurd (omega (arith, number-above r, n, z));
            refusal = λ _. text_refused r e ∙ ap (line 0x45) (sym n);
          }

      by_fact : (accepted : ◌≡◌ {A = Option Refusal} (file_no file) none) (b : Bool) → s.derived fact ≡ b → GroundsShown file fact g
      by_fact accepted true d =
          let asked = run-asked facts rules steps enough accepted in
          let zero : grounds_number g.answer ≡ 0 = was_derived file order fact facts rules steps asked d in
          record {
            lines = λ _. text_kept (text_last accepted ∙ rw d) ∙ ap (each step_line) (sym (row_is file order fact facts rules steps (no-refusal file order fact facts rules steps zero)));
            refusal = λ l. absurd (omega (arith, zero, l));
          }
      by_fact accepted false d =
          by_refusal NotDerived (not_derived file order fact facts rules steps (run-asked facts rules steps enough accepted) d) (text_last accepted ∙ rw d)

      by_file : (no : Option Refusal) → file_no file ≡ no → GroundsShown file fact g
      unfolding run_questions text_questions
      by_file none accepted = by_fact accepted (s.derived fact) refl
      by_file (some r) e =
          by_refusal r
          (sym (ap (λ (x : GroundsOutcome). grounds_number x.answer) (run-refused file order fact facts rules steps r (first-no (file_questions file) _ r e))))
          (first-no (file_questions file) _ r e)

    pub grounds_show : GroundsShow file fact
    grounds_show =
        record {
          grounds_shown = λ facts rules steps enough. by_file facts rules steps enough (file_no file) refl;
          refusal_shown = grounds_refusal file fact;
        }

-- What is left in a buffer.
pub rendered : (text out : List ℕ) → Rendered text out
rendered text out =
    record {
      written = λ l. rw (le-leb (length text) (length out) l) (take-append_seam text (drop (length text) out));
      past_kept = λ l. rw (le-leb (length text) (length out) l) (over-kept text out (length text) refl);
      short_kept = λ l. sym (too_long text out l);
    }
