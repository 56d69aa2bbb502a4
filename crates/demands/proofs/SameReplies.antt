-- Two accepted files whose programs are alike get the same replies. Each equation is the definition itself, with the parts of the program on
-- their way from one file to the other.
use Prim.Native.Nat.{ℕ, ◌*◌}
use mathlib.Core.Path.{◌≡◌, sym, ◌∙◌, ap}
use mathlib.Core.Bool.{Bool, true, false}
use mathlib.Core.List.{List, [], ◌∷◌, ◌++◌, append_assoc}
use mathlib.Core.Option.{Option, none, some}
use lib.ListN.{length}
use lib.Dec.{eqb, leb}
use Rattle.theory.specs.Rule.{keep, up_to, Program, FactSet, in_force, nothing, null, count, exception, Alike}
use Rattle.theory.specs.Run.{run, stage_count, step_count}
use Rattle.theory.specs.Stable.{order_for}
use Rattle.theory.proofs.Repeats.{alike_exception, alike_exception_count, alike_constraint_count, alike_run, alike_aside, alike_aside_count, alike_fact_mark, alike_fact_marks, alike_rule_marks, alike_grounds, alike_is_stable, alike_is_proof, alike_search, alike_order_for, alike_is_layered, alike_layered_order}
use Rattle.std.specs.Prelude.{Result, Ok, Err}
use Rattle.reader.specs.declared.answer.AcceptedFile.{AcceptedFile}
use Rattle.items.specs.declared.refusal.Refusal.{Refusal}
use Rattle.items.specs.declared.refusal.Refusal.TheVariants.{FactMarksShort, RuleMarksShort, StepsShort, OrderShort, TooManyConstraints, NoStableSet, NotDerived, NotLayered}
use Rattle.items.specs.Question.{Question, ask, first_no, no_number}
use Rattle.items.specs.Question as refusal
use Rattle.items.specs.Item.{narrow, step_width, name_width, has, max_guessed}
use Rattle.reader.specs.Questions.{program_of, file_questions, file_no, exceptions, constraint_facts}
use Rattle.reader.specs.Accept.{accept_of}
use Rattle.items.proofs.FirstNo.{first-yes}
use Rattle.questions.specs.Answer.{answer_of}
use Rattle.questions.specs.Questions.{row_of, named_in, list_questions, order_questions, set_questions, row_questions, ask_list_questions, ask_order_questions, ask_set_questions, ask_row_questions, buffer_questions, run_questions, run_no, derived_question, grounds_questions, grounds_no, judge_questions, judge_no, check_questions, check_no, some_stable, stable_question, limit_questions, early_questions, search_questions, search_no, order_room_question, layered_question, layered_questions, layered_no, both_questions, better_questions, better_no, each, naming, run_of}
use Rattle.closure.specs.Steps.{step_bytes}
use Rattle.run.specs.Outcome.{done, RunOutcome, run_written, run_outcome}
use Rattle.items.specs.Write.{over}
use Rattle.keeping.specs.Outcome.{GroundsOutcome, grounds_written, grounds_refused, grounds_outcome}
use Rattle.judge.specs.Judged.{judged}
use Rattle.proofcheck.specs.Checked.{checked}
use Rattle.search.specs.Outcome.{SearchOutcome, search_written, refused_with, taken_set, search_outcome}
use Rattle.panel_lines.specs.Text.{head_line, step_line, line, last_line, rejected_facts, aside_rules, run_text, ascending, panel_text, shown}
use Rattle.layers.specs.Outcome.{LayeredOutcome, ordered_by, layered_outcome}
use Rattle.better.specs.declared.answer.Choice.{Choice}
use Rattle.better.specs.Outcome.{aside_of, preferred, choice_of, handed}
use Rattle.grounds_text.specs.Text.{text_questions, text_no, grounds_text}
use Rattle.replies.specs.Reply.{file_of, verdict_of, run_reply, search_reply, grounds_reply, layered_reply, reply_of_choice}
use Rattle.demands.specs.Results.{SameReplies}

module _ (s t : List ℕ) (yes-s : ◌≡◌ {A = Option Refusal} (file_no s) none) (yes-t : ◌≡◌ {A = Option Refusal} (file_no t) none) (a : Alike (program_of s) (program_of t)) where
  abbrev P : Program
  P = program_of s

  abbrev Q : Program
  Q = program_of t

  -- The file's questions got yes; what is asked behind them is the same.
  behind : (xs ys : List Question) → first_no xs ≡ first_no ys → first_no (file_questions s ++ xs) ≡ first_no (file_questions t ++ ys)
  behind xs ys e = first-yes (file_questions s) xs yes-s ∙ (e ∙ sym (first-yes (file_questions t) ys yes-t))

  same_list : (list : List ℕ) → list_questions (exception P) list ≡ list_questions (exception Q) list
  same_list list i = list_questions (alike_exception a i) list

  same_order : (order : List ℕ) → order_questions (exception P) (count P) order ≡ order_questions (exception Q) (count Q) order
  same_order order i = order_questions (alike_exception a i) (a.same_count i) order

  same_set : (set : List ℕ) → set_questions P.facts set ≡ set_questions Q.facts set
  same_set set i = set_questions (a.same_facts i) set

  same_row : (fact : ℕ) (row : List ℕ) → row_questions P.facts fact row ≡ row_questions Q.facts fact row
  same_row fact row i = row_questions (a.same_facts i) fact row

  same_buffers : (facts rules steps : ℕ) → buffer_questions narrow P facts rules steps ≡ buffer_questions narrow Q facts rules steps
  unfolding buffer_questions
  same_buffers facts rules steps i =
      ask FactMarksShort (leb (a.same_facts i) facts)
      ∷ ask RuleMarksShort (leb (a.same_count i) rules)
      ∷ ask StepsShort (leb (step_width narrow * a.same_facts i) steps)
      ∷ []

  same_exceptions : exceptions P ≡ exceptions Q
  unfolding exceptions
  same_exceptions = alike_exception_count a

  same_constraints : constraint_facts P ≡ constraint_facts Q
  unfolding constraint_facts
  same_constraints = alike_constraint_count a

  same_limits : (order : ℕ) → limit_questions P order ≡ limit_questions Q order
  unfolding limit_questions
  same_limits order i =
      ask OrderShort (leb (name_width * same_exceptions i) order)
      ∷ ask TooManyConstraints (leb (same_constraints i) max_guessed)
      ∷ []

  accepted : accept_of s ≡ accept_of t
  unfolding accept_of
  accepted i =
      elim (none_refused i) as (λ _. Result AcceptedFile Refusal) [
        | none ↦ Ok (record { facts = a.same_facts i; rules = a.same_count i; exceptions = same_exceptions i; constraints = same_constraints i })
        | some r ↦ Err r
      ]
    where
      none_refused : file_no s ≡ file_no t
      none_refused = yes-s ∙ sym yes-t

  -- The four questions beside the file.
  list_asked : (list : List ℕ) → first_no (ask_list_questions s list) ≡ first_no (ask_list_questions t list)
  unfolding ask_list_questions
  list_asked list =
      behind (list_questions (exception P) list) (list_questions (exception Q) list) (ap first_no (same_list list))

  order-asked : (order : List ℕ) → first_no (ask_order_questions s order) ≡ first_no (ask_order_questions t order)
  unfolding ask_order_questions
  order-asked order =
      behind (order_questions (exception P) (count P) order) (order_questions (exception Q) (count Q) order) (ap first_no (same_order order))

  set-asked : (set : List ℕ) → first_no (ask_set_questions s set) ≡ first_no (ask_set_questions t set)
  unfolding ask_set_questions
  set-asked set = behind (set_questions P.facts set) (set_questions Q.facts set) (ap first_no (same_set set))

  row-asked : (fact : ℕ) (row : List ℕ) → first_no (ask_row_questions s fact row) ≡ first_no (ask_row_questions t fact row)
  unfolding ask_row_questions
  row-asked fact row =
      behind (row_questions P.facts fact row) (row_questions Q.facts fact row) (ap first_no (same_row fact row))

  -- The run.
  run-asked : (order : List ℕ) (facts rules steps : ℕ) → run_no s order facts rules steps ≡ run_no t order facts rules steps
  unfolding run_questions
  run-asked order facts rules steps =
      behind (order_questions (exception P) (count P) order ++ buffer_questions narrow P facts rules steps) (order_questions (exception Q) (count Q) order ++ buffer_questions narrow Q facts rules steps)
      (λ i. first_no (same_order order i ++ same_buffers facts rules steps i))

  same_run : (order facts rules steps : List ℕ) → run_outcome s order facts rules steps ≡ run_outcome t order facts rules steps
  unfolding run_outcome run_written
  same_run order facts rules steps i =
      elim (run-asked order (length facts) (length rules) (length steps) i) as (λ _. RunOutcome) [
        | none ↦ record {
          answer = done (stage_count (end i)) (step_count (end i));
          fact_marks = over (alike_fact_marks a (named_in order) i) facts;
          rule_marks = over (alike_rule_marks a (named_in order) i) rules;
          steps = over (step_bytes narrow (end i).trace) steps;
        }
        | some r ↦ record { answer = Err r; fact_marks = facts; rule_marks = rules; steps = steps }
      ]
    where
      end : run_of s order ≡ run_of t order
      end = alike_run a (named_in order)

  -- The grounds for one fact.
  grounds_asked : (order : List ℕ) (fact facts rules steps : ℕ) → grounds_no s order fact facts rules steps ≡ grounds_no t order fact facts rules steps
  unfolding grounds_questions run_questions
  grounds_asked order fact facts rules steps =
      ap first_no (append_assoc (file_questions s) (order_questions (exception P) (count P) order ++ buffer_questions narrow P facts rules steps) (derived_question (run_of s order) fact ∷ []))
      ∙ (behind ((order_questions (exception P) (count P) order ++ buffer_questions narrow P facts rules steps) ++ (derived_question (run_of s order) fact ∷ [])) ((order_questions (exception Q) (count Q) order ++ buffer_questions narrow Q facts rules steps) ++ (derived_question (run_of t order) fact ∷ []))
      (λ i. first_no ((same_order order i ++ same_buffers facts rules steps i) ++ (ask NotDerived ((alike_run a (named_in order) i).derived fact) ∷ [])))
      ∙ sym (ap first_no (append_assoc (file_questions t) (order_questions (exception Q) (count Q) order ++ buffer_questions narrow Q facts rules steps) (derived_question (run_of t order) fact ∷ []))))

  same_grounds : (order : List ℕ) (fact : ℕ) (facts rules steps : List ℕ) → grounds_outcome s order fact facts rules steps ≡ grounds_outcome t order fact facts rules steps
  unfolding grounds_outcome grounds_written
  same_grounds order fact facts rules steps i =
      elim (grounds_asked order fact (length facts) (length rules) (length steps) i) as (λ _. GroundsOutcome) [
        | none ↦ record {
          answer = Ok (length (alike_grounds a (named_in order) fact i));
          fact_marks = over (alike_fact_marks a (named_in order) i) facts;
          rule_marks = over (alike_rule_marks a (named_in order) i) rules;
          steps = over (step_bytes narrow (alike_grounds a (named_in order) fact i)) steps;
        }
        | some r ↦ grounds_refused r facts rules steps
      ]
    where
      end : run_of s order ≡ run_of t order
      end = alike_run a (named_in order)

  -- The judge and the proof check.
  judge_asked : (list set : List ℕ) → judge_no s list set ≡ judge_no t list set
  unfolding judge_questions
  judge_asked list set =
      behind (list_questions (exception P) list ++ set_questions P.facts set) (list_questions (exception Q) list ++ set_questions Q.facts set)
      (λ i. first_no (same_list list i ++ same_set set i))

  same_judge : (list set : List ℕ) → judged s list set ≡ judged t list set
  unfolding judged
  same_judge list set i =
      elim (judge_asked list set i) as (λ _. Result Bool Refusal) [
        | none ↦ Ok (alike_is_stable a (named_in list) (has set) i)
        | some r ↦ Err r
      ]

  check_asked : (set : List ℕ) (fact : ℕ) (row : List ℕ) → check_no s set fact row ≡ check_no t set fact row
  unfolding check_questions
  check_asked set fact row =
      behind (set_questions P.facts set ++ row_questions P.facts fact row) (set_questions Q.facts set ++ row_questions Q.facts fact row)
      (λ i. first_no (same_set set i ++ same_row fact row i))

  same_check : (set : List ℕ) (fact : ℕ) (row : List ℕ) → checked s set fact row ≡ checked t set fact row
  unfolding checked
  same_check set fact row i =
      elim (check_asked set fact row i) as (λ _. Result Bool Refusal) [
        | none ↦ Ok (alike_is_proof a (has set) (row_of row) fact i)
        | some r ↦ Err r
      ]

  -- The search.
  same_stable : some_stable P ≡ some_stable Q
  unfolding some_stable
  same_stable i = elim (alike_search a i) as (λ _. Bool) [ some M ↦ true | none ↦ false ]

  same_taken : taken_set P ≡ taken_set Q
  unfolding taken_set
  same_taken i = elim (alike_search a i) as (λ _. FactSet) [ some M ↦ M | none ↦ nothing ]

  later : Program → ℕ → ℕ → ℕ → ℕ → List Question
  later R facts rules steps order =
      (buffer_questions narrow R facts rules steps ++ limit_questions R order) ++ (stable_question R ∷ [])

  same_later : (facts rules steps order : ℕ) → later P facts rules steps order ≡ later Q facts rules steps order
  unfolding later
  same_later facts rules steps order i =
      (same_buffers facts rules steps i ++ same_limits order i) ++ (ask NoStableSet (same_stable i) ∷ [])

  search-asked : (facts rules steps order : ℕ) → search_no s facts rules steps order ≡ search_no t facts rules steps order
  unfolding search_questions early_questions later
  search-asked facts rules steps order =
      ap first_no (append_assoc (file_questions s) (buffer_questions narrow P facts rules steps ++ limit_questions P order) (stable_question P ∷ []))
      ∙ (behind (later P facts rules steps order) (later Q facts rules steps order) (ap first_no (same_later facts rules steps order))
      ∙ sym (ap first_no (append_assoc (file_questions t) (buffer_questions narrow Q facts rules steps ++ limit_questions Q order) (stable_question Q ∷ []))))

  -- the order for the set that is taken, and the run under it
  same_written : order_for P (in_force P) (taken_set P) ≡ order_for Q (in_force Q) (taken_set Q)
  same_written i = alike_order_for a i (same_taken i)

  same_end : run P (in_force P) (order_for P (in_force P) (taken_set P)) ≡ run Q (in_force Q) (order_for Q (in_force Q) (taken_set Q))
  same_end i = alike_run a (same_written i) i

  same_search : (facts rules steps order : List ℕ) → search_outcome s facts rules steps order ≡ search_outcome t facts rules steps order
  unfolding search_outcome search_written
  same_search facts rules steps order i =
      elim (search-asked (length facts) (length rules) (length steps) (length order) i) as (λ _. SearchOutcome) [
        | none ↦ record {
          answer = done (stage_count (same_end i)) (step_count (same_end i));
          fact_marks = over (alike_fact_marks a (same_written i) i) facts;
          rule_marks = over (alike_rule_marks a (same_written i) i) rules;
          steps = over (step_bytes narrow (same_end i).trace) steps;
          order = over (naming (same_written i)) order;
        }
        | some r ↦ refused_with r facts rules steps order
      ]

  -- The order by rank.
  layered_asked : (order : ℕ) → layered_no s order ≡ layered_no t order
  unfolding layered_questions
  layered_asked order =
      behind (order_room_question P order ∷ layered_question P ∷ []) (order_room_question Q order ∷ layered_question Q ∷ [])
      (λ i. first_no (ask OrderShort (leb (name_width * same_exceptions i) order) ∷ ask NotLayered (alike_is_layered a i) ∷ []))

  same_layered : (order : List ℕ) → layered_outcome s order ≡ layered_outcome t order
  unfolding layered_outcome ordered_by
  same_layered order i =
      elim (layered_asked (length order) i) as (λ _. LayeredOutcome) [
        | none ↦ record { answer = Ok (length (alike_layered_order a i)); order = over (naming (alike_layered_order a i)) order }
        | some r ↦ record { answer = Err r; order = order }
      ]

  -- The better of two orders.
  better-asked : (first second : List ℕ) → better_no s first second ≡ better_no t first second
  unfolding better_questions both_questions
  better-asked first second = behind (both_questions P first second) (both_questions Q first second) (λ i. first_no (same_order first i ++ same_order second i))

  same_asides : (order : List ℕ) → aside_of s order ≡ aside_of t order
  same_asides order = alike_aside_count a (named_in order)

  same_choice : (first second : List ℕ) → choice_of s first second ≡ choice_of t first second
  unfolding choice_of
  same_choice first second i =
      elim (better-asked first second i) as (λ _. Result Choice Refusal) [
        | none ↦ Ok (preferred (same_asides first i) (same_asides second i))
        | some r ↦ Err r
      ]

  -- The panel's text.
  text_of : (u : List ℕ) → ◌≡◌ {A = Option Refusal} (file_no u) none → panel_text u ≡ run_text (program_of u) (run (program_of u) (in_force (program_of u)) (ascending (program_of u)))
  unfolding panel_text
  text_of u e = rw (e, panel_text)

  ascending-same : ascending P ≡ ascending Q
  ascending-same i = keep (alike_exception a i) (up_to (a.same_count i))

  same_ascending : run P (in_force P) (ascending P) ≡ run Q (in_force Q) (ascending Q)
  same_ascending i = alike_run a (ascending-same i) i

  same_rejected : rejected_facts P (run P (in_force P) (ascending P)) ≡ rejected_facts Q (run Q (in_force Q) (ascending Q))
  same_rejected i = keep (λ f. eqb (alike_fact_mark a (ascending-same i) i f) 2) (up_to (a.same_facts i))

  same_aside : aside_rules P (run P (in_force P) (ascending P)) ≡ aside_rules Q (run Q (in_force Q) (ascending Q))
  same_aside i = keep (alike_aside a i (same_ascending i).derived) (up_to (a.same_count i))

  same_lines : run_text P (run P (in_force P) (ascending P)) ≡ run_text Q (run Q (in_force Q) (ascending Q))
  unfolding run_text
  same_lines i =
      head_line (a.same_facts i) (a.same_count i) (stage_count (same_ascending i))
      ++ (each step_line (same_ascending i).trace
      ++ (each (line 0x58) (same_rejected i)
      ++ (each (line 0x41) (same_aside i)
      ++ last_line (null (same_aside i)))))

  same_text : panel_text s ≡ panel_text t
  same_text = text_of s yes-s ∙ (same_lines ∙ sym (text_of t yes-t))

  text_asked : (fact : ℕ) → text_no s fact ≡ text_no t fact
  unfolding text_questions
  text_asked fact =
      behind (derived_question (run P (in_force P) (ascending P)) fact ∷ []) (derived_question (run Q (in_force Q) (ascending Q)) fact ∷ [])
      (λ i. first_no (ask NotDerived ((same_ascending i).derived fact) ∷ []))

  same_grounds_text : (fact : ℕ) → grounds_text s fact ≡ grounds_text t fact
  unfolding grounds_text
  same_grounds_text fact i =
      elim (text_asked fact i) as (λ _. List ℕ) [
        | none ↦ each step_line (alike_grounds a (ascending-same i) fact i)
        | some r ↦ line 0x45 (refusal.number r)
      ]

  pub same_replies : SameReplies s t
  same_replies =
      record {
        accept = accepted;
        ask_list = λ list. ap answer_of (list_asked list);
        ask_order = λ order. ap answer_of (order-asked order);
        ask_set = λ set. ap answer_of (set-asked set);
        ask_row = λ fact row. ap answer_of (row-asked fact row);
        run = same_run;
        grounds = same_grounds;
        judge = same_judge;
        check = same_check;
        search = same_search;
        layered = same_layered;
        choose = same_choice;
        better = λ first second. ap (λ (c : Result Choice Refusal). handed c first second) (same_choice first second);
        better_number = λ first second. ap no_number (better-asked first second);
        render = λ room. (ap length same_text, ap (λ (text : List ℕ). shown text room) same_text);
        render_grounds = λ fact room. (ap length (same_grounds_text fact), ap (λ (text : List ℕ). shown text room) (same_grounds_text fact));
        retention_accept = ap file_of accepted;
        retention_run = λ order facts rules steps. ap run_reply (same_run order facts rules steps);
        retention_grounds = λ order fact facts rules steps. ap grounds_reply (same_grounds order fact facts rules steps);
        retention_judge = λ list set. ap verdict_of (same_judge list set);
        retention_check = λ set fact row. ap verdict_of (same_check set fact row);
        retention_search = λ facts rules steps order. ap search_reply (same_search facts rules steps order);
        retention_layered = λ order. ap layered_reply (same_layered order);
        retention_better = λ first second. ap reply_of_choice (same_choice first second);
      }
