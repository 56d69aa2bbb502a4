-- Wish 6: barcodes that could not be read.
use Prim.Native.Nat.{ℕ, suc, ◌+◌, ◌*◌, ◌<◌, ◌≤◌}
use native.Mathlib.Omega.{arith}
use mathlib.Core.Path.{◌≡◌, refl, sym, ap, ◌∙◌}
use Rattle.std.specs.Prelude.{Result, Ok, Err}
use mathlib.Core.Bool.{Bool, true, false, not, cond, ◌&&◌, ◌||◌}
use mathlib.Core.List.{List, [], ◌∷◌, ◌++◌, map}
use mathlib.Core.Logic.{⊎_elim, ◌↔◌}
use mathlib.Core.Option.{Option, none, some}
use borrow.Author.Tests.{lt-ltb, lt-leb, ne_eqb}
use lib.ListN.{length}
use Rattle.theory.specs.Rule.{all, mem, keep, how_many, up_to, Program, Step, nothing, adjoin, null, count, rule, plain, exception, constraint_fact, plain_rules, withheld, in_force}
use Rattle.theory.specs.Conditions.{Bounded, every_rule}
use Rattle.theory.specs.Derive.{fired, derive, steps}
use Rattle.theory.specs.Run.{Stand, rejected, spares, eligible, run, stage_count, set_aside, fact_mark, rule_mark}
use Rattle.theory.specs.Check.{least_of}
use Rattle.theory.specs.Stable.{reduct, step_at, Proof, order_for}
use Rattle.theory.specs.Search.{guessed, fits, search}
use Rattle.theory.specs.Layers.{ranks_of, layered_order}
use Rattle.theory.proofs.Bools.{never, and_right, false_of, both_ways}
use Rattle.theory.proofs.Lists.{all-elem, any-witness, any_of, keep_same, up_to-mem}
use Rattle.theory.proofs.Run.{exception-known, not-both}
use Rattle.theory.proofs.Rows.{run-steps_on}
use Rattle.theory.proofs.Ranks.{least_below}
use Rattle.theory.proofs.Withheld.{withheld_exception, withheld-off, off_withheld, plain_in_force, withheld-any, in_force_read, all-in_force, aside_on}
use Rattle.theory.proofs.OffLast.{off_rules, OffLast, order-off_last, rank_off_last}
use Rattle.items.specs.declared.refusal.Refusal.{Refusal}
use Rattle.items.specs.declared.refusal.Refusal.TheVariants.{NotAnException, NotAllNamed, RuleMarksShort, OrderShort, UnreadAfterRule}
use Rattle.items.specs.declared.item.FactId.{FactId}
use Rattle.items.specs.declared.item.Item.{Item}
use Rattle.items.specs.declared.item.Item.TheVariants.{Facts, Opens, Premise, Constraint, Rules, Names, Step as TakesStep, Unread}
use Rattle.items.specs.Item.{narrow, name_width, body_length, item_of, class_of, has, marked}
use Rattle.items.specs.Question.{first_no, no_number}
use Rattle.items.specs.Question as refusal
use Rattle.items.proofs.FirstNo.{first-no, first-yes, both_yes}
use Rattle.items.proofs.ItemSays.{by_tags, alone}
use Rattle.cursors.specs.Cursor.{Token, item, front, items_at, file_start}
use Rattle.reader.specs.Questions.{unread_of, program_of, exceptions, constraint_facts, body_questions, file_questions, file_no, Scan}
use Rattle.reader.specs.Accept.{accept_of}
use Rattle.reader.proofs.Accepted.{accepted_file, bounded, rules_few}
use Rattle.reader.proofs.AnswerNumbers.{accept_answered}
use Rattle.reader.proofs.UnreadFacts.{unread_front, front-named, first-named}
use Rattle.questions.specs.Questions.{named_in, row_of, each, name_questions, names_questions, list_questions, order_questions, order_no, ask_order_questions, buffer_questions, buffers_no, run_questions, run_no, some_stable, stable_question, limit_questions, early_questions, search_questions}
use Rattle.questions.specs.Parts.{list_no, limits_no}
use Rattle.questions.proofs.NamesAsked.{not_known, past-rules}
use Rattle.questions.proofs.OperationAsked.{file_accepted, list_refused, rules-short}
use Rattle.run.specs.Outcome.{RunOutcome, run_written, run_outcome, run_number}
use Rattle.run.proofs.Outcomes.{outcome-refused}
use Rattle.proofcheck.specs.Checked.{checked, checked_number, checked_verdict}
use Rattle.proofcheck.proofs.Meaning.{checked-means}
use Rattle.search.specs.Outcome.{SearchOutcome, found_at, search_written, taken_set, search_outcome, search_number}
use Rattle.layers.specs.Outcome.{layered_outcome, layered_number}
use Rattle.layers.proofs.LayeredAnswers.{all_yes}
use Rattle.layers.proofs.LayersMeaning.{no-refusal, last-room, named_are, least}
use Rattle.panel_lines.specs.Text.{head_line, step_line, line, last_line, rejected_facts, aside_rules, run_text, ascending, panel_text}
use Rattle.demands.specs.Results.{aside_set, found_set}
use Rattle.demands.specs.Wish04.{handed_over}
use Rattle.demands.specs.Wish06.{AfterRule, NamesUnread, ReadAlone, WithheldLast, OrderGets, NamesOther, Wish06, UnreadExample, held}
use Rattle.demands.proofs.Outcomes.{run-written, run-answered, search-refused, search-found, search-answered}
use Rattle.demands.proofs.RunIs.{run_is, aside_is, trace_is}
use Rattle.demands.proofs.SearchIs.{search_is, set_is, searched_trace}
use Rattle.demands.proofs.Starred.{ran-so, taken-so, earliest_so}
use Rattle.demands.proofs.ItemsLead.{items, leads-cut, FileStops, file_stops, asked-on, all-facts, all-rules, refuses_at, file_refused}
use Rattle.demands.proofs.EachRefuses.{each_refuses}
use Rattle.demands.proofs.Wish01.{wish_01}

-- The item is an unread fact behind a rule.
record Late (end : Scan) (i : Item) : Type 0 where
  pub fact : FactId
  pub is-unread : (class_of i).unread ≡ some fact
  pub below : fact.0 < end.facts
  pub opened : end.rules ≡ 0 → ⊥

late_refuses : (end : Scan) (i : Item) {f : FactId} (ts : List Token) → (class_of i).unread ≡ some f → f.0 < end.facts → (end.rules ≡ 0 → ⊥) → first_no (body_questions end (item i ∷ ts)) ≡ some UnreadAfterRule
late_refuses end i {f} ts s below opened =
    rw (alone (by_tags i).unread s (by_tags i).opens (tt, tt), alone (by_tags i).unread s (by_tags i).own (tt, (tt, tt)), alone (by_tags i).unread s (by_tags i).rules (tt, tt), s, lt-ltb f.0 end.facts below, ne_eqb end.rules 0 opened)

-- A verdict is 1 only where no question got no, and else 0.
answered_so : (r : Result Bool Refusal) → checked_verdict r ≡ 1 → checked_number r ≡ 0
answered_so (Ok b) e = refl
answered_so (Err r) e = absurd (omega (arith, e))

else_no : (r : Result Bool Refusal) → (checked_verdict r ≡ 1 → ⊥) → checked_verdict r ≡ 0
else_no (Ok true) h = absurd (h refl)
else_no (Ok false) h = refl
else_no (Err r) h = refl

no-count : {A : Type 0} (n : ℕ) → ◌≡◌ {A = Option ℕ} none (some n) → A
no-count n e = absurd (let z : ◌≡◌ {A = ℕ} 0 1 = cc in omega arith)

-- Only a 10 item counts facts.
count-item : (i : Item) (n : ℕ) → (class_of i).facts ≡ some n → i ≡ Facts n
count-item (Facts m) n e = ap Facts (same m n e)
  where
    same : (m n : ℕ) → ◌≡◌ {A = Option ℕ} (some m) (some n) → m ≡ n
    same m n e = cc
count-item (Opens f) n e = no-count n e
count-item (Premise f) n e = no-count n e
count-item (Constraint f) n e = no-count n e
count-item (Rules m) n e = no-count n e
count-item (Names r) n e = no-count n e
count-item (TakesStep f r) n e = no-count n e
count-item (Unread f) n e = no-count n e

-- The first name that is no exception rule gets no to 12.
first-unknown : (known seen : ℕ → Bool) (before : List ℕ) (other : ℕ) (after : List ℕ) → ◌≡◌ {A = Option Refusal} (first_no (names_questions known seen before)) none → known other ≡ false → first_no (names_questions known seen (before ++ (other ∷ after))) ≡ some NotAnException
first-unknown known seen [] other after e k = first-no (name_questions known seen other) (names_questions known (adjoin seen other) after) NotAnException (not_known known seen other k)
first-unknown known seen (r ∷ before) other after e k =
    let y = both_yes (name_questions known seen r) (names_questions known (adjoin seen r) before) e in
    first-yes (name_questions known seen r) (names_questions known (adjoin seen r) (before ++ (other ∷ after))) y.0
    ∙ first-unknown known (adjoin seen r) before other after y.1 k

-- Of the numbers that pass a test, those that pass a second one, which none else passes, and the others.
counted_apart : (p q : ℕ → Bool) → ((x : ℕ) → q x ≡ true → p x ≡ true) → (xs : List ℕ) → how_many p xs ≡ how_many q xs + how_many (λ x. p x && not (q x)) xs
counted_apart p q h [] = refl
counted_apart p q h (x ∷ xs) = go (p x) (q x) (h x) _ _ _ (counted_apart p q h xs)
  where
    go : (a b : Bool) → (b ≡ true → a ≡ true) → (m n k : ℕ) → m ≡ n + k → cond a (suc m) m ≡ cond b (suc n) n + cond (a && not b) (suc k) k
    go true true h m n k e = omega arith
    go true false h m n k e = omega arith
    go false true h m n k e = never (h refl) refl
    go false false h m n k e = e

module _ (file : List ℕ) where
  abbrev P : Program
  P = program_of file

  -- 56 exactly there
  says_56 : no_number (file_no file) ≡ 56 → AfterRule file
  says_56 e = found (file_stops 56 (omega arith) Late (λ scan i o s b f m q. absurd (omega arith)) (λ scan i f s b h _. record { fact = f; is-unread = s; below = b; opened = h }) file e)
    where
      found : FileStops Late file → AfterRule file
      found f =
          let t = f.stops in
          record {
            before = f.first ∷ t.before;
            next = t.next;
            after = t.after;
            stands = f.stands ∙ ap (λ ts. item f.first ∷ ts) t.stands;
            fact = t.why.fact;
            is-unread = t.why.is-unread;
            below = rw (all-facts f.first f.counts t.leads) t.why.below;
            follows = omega (arith, all-rules f.first f.counts t.leads, t.why.opened);
            short = f.short;
            asked = asked-on f.first f.counts (items t.before) ∙ leads-cut t.leads;
          }

  stands-56 : AfterRule file → no_number (file_no file) ≡ 56
  stands-56 t =
      ap no_number
      (file_refused UnreadAfterRule file t.before t.next t.after t.short t.stands
      (refuses_at UnreadAfterRule t.before t.next t.after (ap no_number t.asked) (λ first before n end is c l.
      late_refuses end t.next t.after t.is-unread (rw (all-facts first c l) at (rw is at t.below)) (λ e. omega (arith, all-rules first c l, rw is at t.follows)))))

  -- where the unread facts stand
  names-unread : ◌≡◌ {A = Option Refusal} (file_no file) none → NamesUnread file
  names-unread e =
      let a = accepted_file file e in
      let t = unread_front a.good in
      let named : unread_of (items_at file file_start) ≡ map (λ f. f.0) t.names = first-named file a ∙ (ap unread_of t.stands ∙ front-named t.names t.rest t.none_behind) in
      record {
        names = t.names;
        rest = t.rest;
        stands = a.read.items ∙ (ap (λ ts. item a.first ∷ ts) t.stands ∙ ap (λ (i : Item). item i ∷ (map (λ f. item (Unread f)) t.names ++ t.rest)) (count-item a.first P.facts a.counts));
        none_later = t.none_behind;
        unread = λ f. ap (λ (fs : List ℕ). mem f fs) named;
        below = λ f u. t.below f (sym (ap (λ (fs : List ℕ). mem f fs) named) ∙ u);
      }

  withheld-so : (i : ℕ) → i < count P → (withheld P i ≡ true) ↔ ((k : ℕ) × ((mem k (rule P i).constraints ≡ true) × (P.unread k ≡ true)))
  withheld-so i l = (
    λ w. let (k, m, u) = any-witness P.unread (rule P i).constraints (sym (withheld-any P i l) ∙ w) in (k, (m, u)),
    λ t. withheld-any P i l ∙ any_of P.unread (rule P i).constraints t.0 t.1.0 t.1.1,
  )

  -- steps by rules in force have no unread constraint
  in_force_reads : (row : List Step) → ((k : ℕ) → k < length row → ((step_at row k).by < count P) × (in_force P (step_at row k).by ≡ true)) → ReadAlone file row
  in_force_reads row h k l = in_force_read P (step_at row k).by (h k l).0 (h k l).1

  proof_so : (row : List Step) (f : ℕ) → Proof P (in_force P) row f → ReadAlone file row
  proof_so row f p = in_force_reads row (λ k l. (p.known k l, p.in-force k l))

  trace_so : (names : List ℕ) (row : List Step) → row ≡ (run P (in_force P) names).trace → ReadAlone file row
  trace_so names row e = rw e (in_force_reads (run P (in_force P) names).trace (run-steps_on P (in_force P) names))

  checked-so : (set : List ℕ) (fact : ℕ) (row : List ℕ) → checked_verdict (checked file set fact row) ≡ 1 → Proof P (in_force P) (row_of row) fact
  checked-so set fact row v = (((checked-means file set fact row).yes_exactly (answered_so (checked file set fact row) v)).0 v).0

  -- the rules that are not in force are the withheld ones
  off_are : off_rules P (in_force P) ≡ keep (withheld P) (up_to (count P))
  off_are = keep_same _ (withheld P) (up_to (count P)) (λ i _. both_ways _ (withheld P i) (λ t. off_withheld P i (not-in_force i (and_right (exception P i) _ t))) (λ w. rw (withheld_exception P i w, withheld-off P i w) refl))
    where
      not-in_force : (i : ℕ) → not (in_force P i) ≡ true → in_force P i ≡ false
      not-in_force i e = false_of (in_force P i) (λ t. never e (ap not t))

  last-so : (row : List ℕ) → OffLast P (in_force P) row → WithheldLast P row
  last-so row t = record { front = t.front; is = t.is ∙ ap (λ (xs : List ℕ). t.front ++ xs) off_are; in-force = t.in-force }

  layered_so : (order : List ℕ) → layered_number (layered_outcome file order).answer ≡ 0 → WithheldLast P (named_in (handed_over (layered_outcome file order)))
  unfolding layered_order
  layered_so order z =
      let passed = no-refusal file order z in
      let b : Bounded P = bounded (accepted_file file (all_yes file order passed).accepted) in
      rw (named_are file order passed)
      (last-so (layered_order P (in_force P)) (rank_off_last P (in_force P) (ranks_of P (in_force P)) (λ i x _.
      least_below P (in_force P) b (ranks_of P (in_force P)) (least file order passed) (rule P i).conclusion (b.conclusion_below i (exception-known P (in_force P) i x)))))

  -- Of an accepted file the operation's own questions are left.
  module _ (accepted : ◌≡◌ {A = Option Refusal} (file_no file) none) where
    run-no : (order facts rules steps : List ℕ) (r : Refusal) → run_no file order (length facts) (length rules) (length steps) ≡ some r → run_number (run_outcome file order facts rules steps).answer ≡ refusal.number r
    run-no order facts rules steps r e = sym (ap (λ (o : RunOutcome). run_number o.answer) (outcome-refused file order facts rules steps r e))

    order-gets : (order : List ℕ) (r : Refusal) → order_no (exception P) (count P) order ≡ some r → OrderGets file order (refusal.number r)
    unfolding ask_order_questions run_questions
    order-gets order r e =
        record {
          asked = ap no_number (file_accepted file (order_questions (exception P) (count P) order) accepted ∙ e);
          run = λ facts rules steps. run-no order facts rules steps r (file_accepted file _ accepted ∙ first-no (order_questions (exception P) (count P) order) _ r e);
        }

    leaves_out : (order : List ℕ) (i : ℕ) → ◌≡◌ {A = Option Refusal} (list_no (exception P) order) none → withheld P i ≡ true → mem i (named_in order) ≡ false → order_no (exception P) (count P) order ≡ some NotAllNamed
    unfolding order_questions
    leaves_out order i yes-list w unnamed =
        first-yes (list_questions (exception P) order) _ yes-list ∙ ap (λ b. cond b none (some NotAllNamed)) (false_of (all named (up_to (count P))) not-all)
      where
        named : ℕ → Bool
        named j = not (exception P j) || mem j (named_in order)

        not-all : all named (up_to (count P)) ≡ true → ⊥
        not-all t =
            let x : exception P i ≡ true = withheld_exception P i w in
            let n : named i ≡ true = all-elem named (up_to (count P)) t i (up_to-mem (count P) i (exception-known P every_rule i x)) in
            never (rw (x, unnamed) at n) refl

    names-other : (order : List ℕ) → NamesOther P order → order_no (exception P) (count P) order ≡ some NotAnException
    unfolding list_questions
    names-other order t =
        list_refused (exception P) order (count P) NotAnException
        (rw (t.items, t.named) (first-unknown (exception P) nothing t.before t.other t.after t.asked unknown))
      where
        unknown : exception P t.other ≡ false
        unknown = ⊎_elim (λ l. past-rules P t.other l) (λ p. false_of (exception P t.other) (λ x. not-both P every_rule t.other p x)) t.is_other

    run_short : (order facts rules steps : List ℕ) → ◌≡◌ {A = Option Refusal} (order_no (exception P) (count P) order) none → P.facts ≤ length facts → length rules < count P → run_number (run_outcome file order facts rules steps).answer ≡ 32
    unfolding run_questions
    run_short order facts rules steps yes-order f short =
        run-no order facts rules steps RuleMarksShort
        (file_accepted file _ accepted ∙ (first-yes (order_questions (exception P) (count P) order) _ yes-order ∙ rules-short P (length facts) (length rules) (length steps) f short))

    -- what the search asks behind the file's questions
    search_no : (facts rules steps order : List ℕ) (r : Refusal) → first_no (buffer_questions narrow P (length facts) (length rules) (length steps) ++ limit_questions P (length order)) ≡ some r → search_number (search_outcome file facts rules steps order).answer ≡ refusal.number r
    unfolding search_questions early_questions
    search_no facts rules steps order r e =
        ap (λ (o : SearchOutcome). search_number o.answer)
        (search-refused file facts rules steps order r (first-no (early_questions file (length facts) (length rules) (length steps) (length order)) (stable_question P ∷ []) r (file_accepted file _ accepted ∙ e)))

    search-marks : (facts rules steps order : List ℕ) → P.facts ≤ length facts → length rules < count P → search_number (search_outcome file facts rules steps order).answer ≡ 32
    search-marks facts rules steps order f short =
        search_no facts rules steps order RuleMarksShort (first-no (buffer_questions narrow P (length facts) (length rules) (length steps)) _ RuleMarksShort (rules-short P (length facts) (length rules) (length steps) f short))

    search-room : (facts rules steps order : List ℕ) → ◌≡◌ {A = Option Refusal} (buffers_no narrow P (length facts) (length rules) (length steps)) none → length order < name_width * exceptions P → search_number (search_outcome file facts rules steps order).answer ≡ 34
    unfolding limit_questions
    search-room facts rules steps order yes-buffers short =
        search_no facts rules steps order OrderShort (first-yes (buffer_questions narrow P (length facts) (length rules) (length steps)) _ yes-buffers ∙ no_room)
      where
        no_room : limits_no P (length order) ≡ some OrderShort
        no_room = rw (lt-leb (name_width * exceptions P) (length order) short)

    text_begins : (rest : List ℕ) × (panel_text file ≡ head_line P.facts (count P) (stage_count (run P (in_force P) (ascending P))) ++ rest)
    unfolding panel_text run_text
    text_begins = (lines (run P (in_force P) (ascending P)), rw (accepted, panel_text))
      where
        lines : Stand → List ℕ
        lines s = each step_line s.trace ++ (each (line 0x58) (rejected_facts P s) ++ (each (line 0x41) (aside_rules P s) ++ last_line (null (aside_rules P s))))

  pub wish_06 : Wish06 file
  unfolding exceptions constraint_facts in_force
  wish_06 =
      record {
        names = names-unread;
        fifty_six = (says_56, stands-56);
        each_refuses = each_refuses file 56 (omega arith);
        withheld_exactly = withheld-so;
        withheld_exception = withheld_exception P;
        plain_in_force = plain_in_force P;
        none_withheld = λ e. all-in_force P (λ f. ap (λ (fs : List ℕ). mem f fs) e);
        run_writes = λ order facts rules steps e. run-written file order facts rules steps (run-answered file order facts rules steps e);
        run_marks = λ order facts rules steps e. (run_is file order facts rules steps e).withheld_rules;
        never_aside = λ order facts rules steps e i w.
            false_of (aside_set file (run_outcome file order facts rules steps) i)
            (λ a. never (aside_on P (in_force P) _ i (rw (aside_is file order facts rules steps (run-answered file order facts rules steps e)) at a)) (withheld-off P i w));
        search_writes = λ facts rules steps order e.
            let passed = search-answered file facts rules steps order e in
            search-found file facts rules steps order passed ∙ ap (λ M. found_at P M facts rules steps order) (sym (set_is file facts rules steps order passed));
        run_reads = λ order facts rules steps e. trace_so (named_in order) _ (trace_is file order facts rules steps (run-answered file order facts rules steps e));
        grounds_read = λ order fact facts rules steps e. proof_so _ fact ((wish_01.shorter file order fact facts rules steps).result e).minimal.proof;
        search_reads = λ facts rules steps order e. trace_so _ _ (searched_trace file facts rules steps order (search-answered file facts rules steps order e));
        proof_reads = λ set fact row v. proof_so (row_of row) fact (checked-so set fact row v);
        step_refused = λ set fact row k l w. else_no (checked file set fact row) (λ v. never ((checked-so set fact row v).in-force k l) (withheld-off P (step_at (row_of row) k).by w));
        search_last = λ facts rules steps order e. rw (search_is file facts rules steps order e).order_is (last-so _ (order-off_last P (in_force P) (found_set file (search_outcome file facts rules steps order))));
        layered_last = layered_so;
        left_out = λ order i accepted yes-list w unnamed. order-gets accepted order NotAllNamed (leaves_out accepted order i yes-list w unnamed);
        other_named = λ order accepted t. order-gets accepted order NotAnException (names-other accepted order t);
        run_marks_short = λ order facts rules steps accepted yes-order f short. run_short accepted order facts rules steps yes-order f short;
        search_marks_short = λ facts rules steps order accepted f short. search-marks accepted facts rules steps order f short;
        search_order_short = λ facts rules steps order accepted yes-buffers short. search-room accepted facts rules steps order yes-buffers short;
        layered_order_short = λ order accepted short. last-room file order accepted (lt-leb _ _ short);
        exceptions_all = counted_apart (exception P) (withheld P) (withheld_exception P) (up_to (count P));
        panel_head = text_begins;
        rules_few = λ e. rules_few (accepted_file file e);
        rules_counted = (accept_answered file (accept_of file) refl).1.rules_counted;
        exceptions_counted = (accept_answered file (accept_of file) refl).1.exceptions_counted;
        constraints_counted = (accept_answered file (accept_of file) refl).1.constraints_counted;
      }

pub unread_example : UnreadExample
unfolding search_outcome search_written search_questions early_questions limit_questions some_stable taken_set exceptions constraint_facts constraint_fact guessed fits search order_for run_outcome run_written run_questions buffer_questions least_of reduct has marked list_questions order_questions file_questions items_at front body_length item_of run eligible rejected spares set_aside fact_mark rule_mark fired derive steps plain_rules plain exception in_force withheld
unread_example =
    record {
      runs = record { leaves = refl; is = ran-so held (0 ∷ []) refl };
      takes = record { leaves = refl; reads = refl; earliest = earliest_so held (0 ∷ 0 ∷ []) refl refl; is = taken-so held refl };
    }
