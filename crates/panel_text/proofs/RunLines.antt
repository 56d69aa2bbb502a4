-- What the run leaves gives the lines of the text.
use Prim.Native.Nat.{ℕ, ◌*◌, ◌≤◌, ◌<◌}
use native.Mathlib.Omega.{arith}
use mathlib.Core.Path.{◌≡◌, sym, ap, ◌∙◌}
use mathlib.Core.Bool.{Bool}
use borrow.Author.Tests.{lt-ltb}
use mathlib.Core.List.{List, map}
use mathlib.Core.Option.{Option, none, some}
use lib.ListN.{length, take, drop, replicate, length-append, length-replicate}
use lib.Dec.{eqb}
use lib.Seq.{length-take-le, get_or-take}
use Rattle.std.specs.Prelude.{Ok}
use Rattle.theory.specs.Rule.{keep, up_to, Program, in_force, count, Step as Taken}
use Rattle.theory.specs.Conditions.{Bounded}
use Rattle.theory.specs.Run.{Stand, run, fact_mark, marks_of_facts, rule_mark, marks_of_rules, stage_count, step_count}
use Rattle.theory.proofs.Lists.{mem-up_to, keep_same, mapped_length}
use Rattle.items.specs.declared.refusal.Refusal.{Refusal}
use Rattle.items.specs.Question.{number}
use Rattle.items.specs.Item.{narrow, step_width, max_facts, max_rules, marked}
use Rattle.reader.specs.Questions.{program_of, file_no}
use Rattle.tables.specs.Layout.{program_in, WellFormed}
use Rattle.tables.proofs.ProgramHeld.{facts_below, rules-below}
use Rattle.closure.specs.Steps.{step_bytes}
use Rattle.run.specs.declared.answer.Ran.{Ran}
use Rattle.questions.specs.Questions.{row_of, naming, named_in}
use Rattle.questions.specs.Answer.{answer_of}
use Rattle.questions.proofs.OperationAsked.{Passed}
use Rattle.run.specs.Outcome.{RunOutcome, run_written, run_stages, run_steps}
use Rattle.run.specs.Stands.{MayRun, run_in}
use Rattle.run.proofs.RunAsked.{may_run}
use Rattle.items.specs.Write.{over}
use Rattle.run.proofs.FewSteps.{Paced, run-paced}
use Rattle.items.proofs.PlacedBytes.{over-length}
use Rattle.results.proofs.StepsWritten.{step-bytes_length}
use Rattle.run.proofs.ReadMarks.{mark_at, read_aside}
use Rattle.run.proofs.ReadSteps.{steps_front, steps-read}
use Rattle.panel_lines.specs.Text.{line, aside_rules, run_text, ascending, panel_text}
use Rattle.theory.specs.Places.{places_marked}
use Rattle.panel_text.specs.Left.{left_text}
use Rattle.questions.proofs.Orders.{naming-names}
use Rattle.panel_text.proofs.AscendingOrder.{ascending-runs}

-- the row of the steps taken
pub front-steps : (row : List Taken) (room : List ℕ) → row_of (take (length row * step_width narrow) (over (step_bytes narrow row) room)) ≡ row
front-steps row room =
    let taken : length row * step_width narrow ≡ step_width narrow * length row = omega arith in
    ap (λ (n : ℕ). row_of (take n (over (step_bytes narrow row) room))) taken ∙ ap row_of (steps_front row room) ∙ steps-read row

-- the numbers that were given the mark m
front-marked : (f : ℕ → ℕ) (n m : ℕ) (room : List ℕ) → places_marked m (over (map f (up_to n)) room) n ≡ keep (λ i. eqb (f i) m) (up_to n)
unfolding places_marked
front-marked f n m room = keep_same _ _ (up_to n) (λ i h. ap (λ (x : ℕ). eqb x m) (mark_at f n room i (mem-up_to n i h)))

-- the rules set aside, which have mark 2
front-aside : (P : Program) → Bounded P → (order room : List ℕ) → places_marked 2 (over (marks_of_rules P (in_force P) (run P (in_force P) order)) room) (count P) ≡ aside_rules P (run P (in_force P) order)
unfolding places_marked marked
front-aside P b order room =
    keep_same _ _ (up_to (count P))
    (λ i h.
    let known : i < count P = mem-up_to (count P) i h in
    rw (lt-ltb i (count P) known) at (ap (λ (S : ℕ → Bool). S i) (read_aside P b order room)))

-- As many of the marks as there are numbers show what all of them show.
taken-marked : (m n : ℕ) (marks : List ℕ) → places_marked m (take n marks) n ≡ places_marked m marks n
unfolding places_marked
taken-marked m n marks = keep_same _ _ (up_to n) (λ i h. ap (λ (x : ℕ). eqb x m) (get_or-take n marks i 0 (mem-up_to n i h)))

front-places : (f : ℕ → ℕ) (n : ℕ) (room : List ℕ) → n ≤ length (over (map f (up_to n)) room)
front-places f n room =
    omega (arith, length-append (map f (up_to n)) (drop (length (map f (up_to n))) room), mapped_length f n)

-- Where the run has ended at s.
pub record RunEnded (P : Program) (s : Stand) (ran : Ran) (fact_marks rule_marks steps : List ℕ) : Type 0 where
  pub stages_counted : ran.stages ≡ stage_count s
  pub steps_counted : ran.steps ≡ step_count s
  pub facts_marked : fact_marks ≡ over (marks_of_facts P s) (replicate (max_facts narrow) 0)
  pub rules_marked : rule_marks ≡ over (marks_of_rules P (in_force P) s) (replicate max_rules 0)
  pub steps_written : steps ≡ over (step_bytes narrow s.trace) (replicate (max_facts narrow * step_width narrow) 0)

-- The run of the program in the tables, in ascending order.
module _ {T : List ℕ} (w : WellFormed T) where
  abbrev P : Program
  P = program_in T

  abbrev e : Stand
  e = run P (in_force P) (ascending P)

  module _ (order : List ℕ) (o : order ≡ naming (ascending P)) where
    pub ascending-may_run : MayRun P (named_in order) (max_facts narrow) max_rules (max_facts narrow * step_width narrow)
    ascending-may_run =
        rw o (may_run P (rules-below w) (naming (ascending P)) _ _ _ (sym (ap answer_of (ascending-runs P (omega (arith, facts_below w)) (rules-below w)))))

    pub in_order : run_in T order ≡ e
    in_order = ap (λ (l : List ℕ). run P (in_force P) (named_in l)) o ∙ ap (run P (in_force P)) (naming-names (ascending P))

    pub ran-through : (ran : Ran) (fact_marks rule_marks steps : List ℕ) → ◌≡◌ {A = RunOutcome} (record { answer = Ok ran; fact_marks = fact_marks; rule_marks = rule_marks; steps = steps }) (run_written P (run_in T order) (replicate (max_facts narrow) 0) (replicate max_rules 0) (replicate (max_facts narrow * step_width narrow) 0)) → RunEnded P e ran fact_marks rule_marks steps
    unfolding run_written
    ran-through ran fm rm st q =
        record {
          stages_counted = ap (λ (x : RunOutcome). run_stages x.answer) all;
          steps_counted = ap (λ (x : RunOutcome). run_steps x.answer) all;
          facts_marked = ap (λ (x : RunOutcome). x.fact_marks) all;
          rules_marked = ap (λ (x : RunOutcome). x.rule_marks) all;
          steps_written = ap (λ (x : RunOutcome). x.steps) all;
        }
      where
        all : ◌≡◌ {A = RunOutcome} (record { answer = Ok ran; fact_marks = fm; rule_marks = rm; steps = st }) (run_written P e (replicate (max_facts narrow) 0) (replicate max_rules 0) (replicate (max_facts narrow * step_width narrow) 0))
        all = q ∙ ap (λ (s : Stand). run_written P s (replicate (max_facts narrow) 0) (replicate max_rules 0) (replicate (max_facts narrow * step_width narrow) 0)) in_order

  -- The marks that it leaves have a place for each fact and each rule, the steps have room for those taken, and all of them give the lines.
  module _ (ran : Ran) (fact_marks rule_marks steps : List ℕ) (r : RunEnded P e ran fact_marks rule_marks steps) where
    pub facts-inside : P.facts ≤ length fact_marks
    facts-inside = rw r.facts_marked (front-places (fact_mark P e) P.facts (replicate (max_facts narrow) 0))

    pub rules-inside : count P ≤ length rule_marks
    rules-inside = rw r.rules_marked (front-places (rule_mark P (in_force P) e) (count P) (replicate max_rules 0))

    pub steps-inside : ran.steps * step_width narrow ≤ length steps
    steps-inside =
        let pace : Paced P e = run-paced P w.in_bounds (in_force P) (ascending P) in
        omega (arith, r.steps_counted, facts_below w, ap length r.steps_written, over-length (step_bytes narrow e.trace) (replicate (max_facts narrow * step_width narrow) 0) (omega (arith, step-bytes_length e.trace, pace.room, facts_below w, length-replicate {A = ℕ} (max_facts narrow * step_width narrow) 0)), length-replicate {A = ℕ} (max_facts narrow * step_width narrow) 0, pace.room)

    pub left-lines : left_text ran.stages (take P.facts fact_marks) (take (count P) rule_marks) (take (ran.steps * step_width narrow) steps) ≡ run_text P e
    unfolding left_text run_text
    left-lines =
        rw (length-take-le _ _ facts-inside, length-take-le _ _ rules-inside, taken-marked 2 P.facts fact_marks, taken-marked 2 (count P) rule_marks, r.stages_counted, r.steps_counted, r.facts_marked, r.rules_marked, r.steps_written, front-steps e.trace (replicate (max_facts narrow * step_width narrow) 0), front-marked (fact_mark P e) P.facts 2 (replicate (max_facts narrow) 0), front-aside P w.in_bounds (ascending P) (replicate max_rules 0))

-- The text of a file that is refused, and of one that is accepted.
pub refused-text : (s : List ℕ) (r : Refusal) → file_no s ≡ some r → panel_text s ≡ line 0x45 (number r)
unfolding panel_text
refused-text s r e = rw (e, panel_text)

pub accepted_text : (s : List ℕ) → ◌≡◌ {A = Option Refusal} (file_no s) none → panel_text s ≡ run_text (program_of s) (run (program_of s) (in_force (program_of s)) (ascending (program_of s)))
unfolding panel_text
accepted_text s e = rw (e, panel_text)

-- The text by the tables of an accepted file.
pub tabled_text : {s T : List ℕ} → Passed s T → run_text (program_in T) (run (program_in T) (in_force (program_in T)) (ascending (program_in T))) ≡ panel_text s
tabled_text {s} p =
    ap (λ (P : Program). run_text P (run P (in_force P) (ascending P))) p.tabled.program ∙ sym (accepted_text s p.accepted)
