-- What the results of a run and of a search are (demands 2 and 3), read off the bytes that they leave, and what it is for two files to get the
-- same results.
use Rattle.std.specs.Prelude.{ℕ, ◌*◌, ◌<◌, ◌≤◌, Bool, cond, true, false, not, ◌&&◌, List, map, take, length, get_or, drop, ◌≡◌, ◌↔◌, ◌⊎◌, eqb, Ok}
use Rattle.theory.specs.Rule.{keep, up_to, how_many, FactSet, count, withheld, in_force, plain, exception, Step, rule}
use Rattle.items.specs.Item.{narrow, step_width, name_width, marked}
use Rattle.questions.specs.Questions.{naming, named_in, order_no, row_of, buffers_no, ask_list_questions, ask_order_questions, ask_set_questions, ask_row_questions, better_no}
use Rattle.reader.specs.Questions.{program_of, file_no, exceptions, constraint_facts}
use Rattle.run.specs.Outcome.{RunOutcome, run_outcome, run_number, run_stages, run_steps}
use Rattle.theory.specs.Chaining.{Disjoint, Supported, Applicable, First, Chaining, IsUnion, Inconsistent, StepsInTurn}
use Rattle.theory.specs.Stable.{Stable, row_to, Earliest, any_set, Proof, Admits, facts_of, order_for}
use Rattle.keeping.specs.Outcome.{grounds_outcome}
use Rattle.judge.specs.Judged.{judged}
use Rattle.std.proofs.Math.Option.{none}
use Rattle.proofcheck.specs.Checked.{checked, checked_verdict}
use Rattle.search.specs.Outcome.{SearchOutcome, search_outcome, search_number, search_stages, search_steps}
use Rattle.layers.specs.Outcome.{layered_outcome}
use Rattle.better.specs.Outcome.{choice_of, better_of}
use Rattle.items.specs.Question.{first_no, no_number}
use Rattle.reader.specs.Accept.{accept_of}
use Rattle.questions.specs.Answer.{answer_of}
use Rattle.panel_lines.specs.Text.{panel_text, shown}
use Rattle.grounds_text.specs.Text.{grounds_text}
use Rattle.replies.specs.Reply.{file_of, verdict_of, run_reply, search_reply, grounds_reply, layered_reply, reply_of_choice}

-- the numbers below n that pass a test, as the bytes of an order or a list
abbrev pub listed : ℕ → (ℕ → Bool) → List ℕ
listed n p = naming (keep p (up_to n))

-- a set of n facts, one byte for each, 1 in, 0 out
abbrev pub set_of : ℕ → (ℕ → Bool) → List ℕ
set_of n S = map (λ f. cond (S f) 1 0) (up_to n)

-- D, the facts with mark 1; R, those with mark 2
abbrev pub derived_set : List ℕ → RunOutcome → FactSet
derived_set file o = marked (program_of file).facts 1 o.fact_marks

abbrev pub rejected_set : List ℕ → RunOutcome → FactSet
rejected_set file o = marked (program_of file).facts 2 o.fact_marks

-- the plain rules, mark 0; the rules applied at a stage, mark 1; the rules set aside, mark 2; the withheld rules, mark 4
abbrev pub plain_set : List ℕ → RunOutcome → ℕ → Bool
plain_set file o = marked (count (program_of file)) 0 o.rule_marks

abbrev pub applied_set : List ℕ → RunOutcome → ℕ → Bool
applied_set file o = marked (count (program_of file)) 1 o.rule_marks

abbrev pub aside_set : List ℕ → RunOutcome → ℕ → Bool
aside_set file o = marked (count (program_of file)) 2 o.rule_marks

abbrev pub withheld_set : List ℕ → RunOutcome → ℕ → Bool
withheld_set file o = marked (count (program_of file)) 4 o.rule_marks

-- the bytes of the steps that it wrote, as many as it counts
abbrev pub step_row : RunOutcome → List ℕ
step_row o = take (step_width narrow * run_steps o.answer) o.steps

-- What a run is that gives a result (demand 2): the forward chaining of document 000 along the order given, read off the bytes that it leaves.

-- D and R chain along the order (definition 3.1), for the rules of the file.
abbrev pub ChainsAlong : List ℕ → List ℕ → (ℕ → FactSet) → (ℕ → FactSet) → Type 0
ChainsAlong file order D R = Chaining (program_of file) (in_force (program_of file)) (named_in order) D R

-- Rule c is the one that is taken at stage n.
abbrev pub TakenAt : List ℕ → List ℕ → (ℕ → FactSet) → (ℕ → FactSet) → ℕ → ℕ → Type 0
TakenAt file order D R n c = First (program_of file) (in_force (program_of file)) (named_in order) (D n) (R n) c

-- The steps that a run wrote, and of them those from the first up to the fact's own.
abbrev pub taken_steps : RunOutcome → List Step
taken_steps o = row_of (step_row o)

abbrev pub steps_up_to : ℕ → RunOutcome → List Step
steps_up_to f o = row_to f (taken_steps o)

-- The buffers are those lent, before the run.
pub record RunIs (file order facts rules steps : List ℕ) (o : RunOutcome) : Type 0 where
  -- There is a chaining along the order. What follows holds of each that there is.
  pub chains : (D : ℕ → FactSet) × ((R : ℕ → FactSet) × ChainsAlong file order D R)
  -- Fact mark 1 is on exactly the facts that D ever has, fact mark 2 on those of R, mark 0 on all others.
  pub derived : (D R : ℕ → FactSet) → ChainsAlong file order D R → IsUnion D (derived_set file o)
  pub rejections : (D R : ℕ → FactSet) → ChainsAlong file order D R → IsUnion R (rejected_set file o)
  pub open_facts : (f : ℕ) → f < (program_of file).facts → derived_set file o f ≡ false → rejected_set file o f ≡ false → get_or o.fact_marks f 0 ≡ 0
  -- No fact is ever in both.
  pub disjoint : (D R : ℕ → FactSet) → ChainsAlong file order D R → (m n : ℕ) → Disjoint (D m) (R n)
  -- Rule mark 0 is on exactly the plain rules, ..
  pub plain-rules : (c : ℕ) → plain_set file o c ≡ plain (program_of file) c
  -- .. mark 1 on those that are taken at some stage, ..
  pub applied : (D R : ℕ → FactSet) → ChainsAlong file order D R → (c : ℕ) → (applied_set file o c ≡ true) ↔ ((n : ℕ) × TakenAt file order D R n c)
  -- .. mark 2 on those set aside (document 01: "its premises are in D, none of its constraints is, and its conclusion is not"), which are the inconsistent clauses
  -- (clause 5), mark 4 on the withheld rules, and mark 3 on all others.
  pub set-aside : (c : ℕ) → (aside_set file o c ≡ true) ↔ Supported (program_of file) (in_force (program_of file)) (derived_set file o) c
  pub inconsistent : (c : ℕ) → (aside_set file o c ≡ true) ↔ Inconsistent (program_of file) (in_force (program_of file)) (derived_set file o) (rejected_set file o) c
  pub withheld_rules : (c : ℕ) → withheld_set file o c ≡ withheld (program_of file) c
  pub other_rules : (c : ℕ) → c < count (program_of file) → plain_set file o c ≡ false → applied_set file o c ≡ false → aside_set file o c ≡ false → withheld_set file o c ≡ false → get_or o.rule_marks c 0 ≡ 3
  -- A rule is taken at each stage that is counted, and at none after these; the stage count is the number of rule marks 1.
  pub stages_taken : (D R : ℕ → FactSet) → ChainsAlong file order D R → (n : ℕ) → (n < run_stages o.answer) ↔ ((c : ℕ) × TakenAt file order D R n c)
  pub stages : run_stages o.answer ≡ how_many (λ m. eqb m 1) (take (count (program_of file)) o.rule_marks)
  -- No applicable rule is left.
  pub none_applicable : (c : ℕ) → Applicable (program_of file) (in_force (program_of file)) (derived_set file o) (rejected_set file o) c → ⊥
  -- A fact that no rule in force concludes counts as absent.
  pub absent : (f : ℕ) → ((i : ℕ) → i < count (program_of file) → in_force (program_of file) i ≡ true → (rule (program_of file) i).conclusion ≡ f → ⊥) → derived_set file o f ≡ false
  -- Theorem 3.3: the facts with mark 1 are stable for the rules in force less those with mark 2; where no rule has mark 2, for all rules in force.
  pub stable : Stable (program_of file) (λ i. in_force (program_of file) i && not (aside_set file o i)) (derived_set file o)
  pub whole_stable : ((i : ℕ) → aside_set file o i ≡ false) → Stable (program_of file) (in_force (program_of file)) (derived_set file o)
  -- The steps are as many as counted, and their facts are those with mark 1.
  pub step_count : length (taken_steps o) ≡ run_steps o.answer
  pub step-facts : (f : ℕ) → facts_of (taken_steps o) f ≡ derived_set file o f
  -- Each stands in its turn: by the lowest-numbered plain rule that is ready on the facts so far, and where none is, by the rule taken at the next stage. No fact has two steps.
  pub in_turn : (D R : ℕ → FactSet) → ChainsAlong file order D R → StepsInTurn (program_of file) (in_force (program_of file)) (named_in order) D R (taken_steps o)
  -- For each fact with mark 1 the steps up to its own are a proof of it that D admits.
  pub row_proves : (f : ℕ) → derived_set file o f ≡ true → Proof (program_of file) (in_force (program_of file)) (steps_up_to f o) f
  pub row_admitted : (f : ℕ) → derived_set file o f ≡ true → Admits (program_of file) (derived_set file o) (steps_up_to f o)
  -- Past what is written each buffer keeps its contents.
  pub fact_marks_kept : drop (program_of file).facts o.fact_marks ≡ drop (program_of file).facts facts
  pub rule_marks_kept : drop (count (program_of file)) o.rule_marks ≡ drop (count (program_of file)) rules
  pub steps_kept : drop (step_width narrow * run_steps o.answer) o.steps ≡ drop (step_width narrow * run_steps o.answer) steps

-- Handed the rules with mark 2 as a list and the facts with mark 1 as a set, the judge says stable.
abbrev pub JudgedStable : List ℕ → RunOutcome → Type 0
JudgedStable file o =
    judged file (listed (count (program_of file)) (aside_set file o)) (set_of (program_of file).facts (derived_set file o))
    ≡ Ok true

-- An order that leads to a set of facts, with a proof for each fact of the set and for no other (demand 3; for any stable set, not only the
-- earliest).

-- The set as it is handed to the check: one byte for each fact of the file, 1 in, 0 out.
abbrev pub set_bytes : List ℕ → FactSet → List ℕ
set_bytes file M = set_of (program_of file).facts M

-- Each fact of M has a row of bytes that is a proof of it, that M admits, and to which the check says yes.
pub record RowsProve (file : List ℕ) (M : FactSet) (row : ℕ → List ℕ) : Type 0 where
  pub proves : (f : ℕ) → M f ≡ true → Proof (program_of file) (in_force (program_of file)) (row_of (row f)) f
  pub admitted : (f : ℕ) → M f ≡ true → Admits (program_of file) M (row_of (row f))
  pub says_yes : (f : ℕ) → M f ≡ true → checked file (set_bytes file M) f (row f) ≡ Ok true

-- The bytes of the steps that a run wrote from the first up to the fact's own.
abbrev pub row_up_to : ℕ → RunOutcome → List ℕ
row_up_to f o = take (step_width narrow * length (steps_up_to f o)) o.steps

-- A run gives a result, ends at M, sets nothing aside, and its steps prove the facts of M.
pub record EndsAt (file : List ℕ) (M : FactSet) (o : RunOutcome) : Type 0 where
  pub number : run_number o.answer ≡ 0
  pub ends_there : derived_set file o ≡ M
  pub none_aside : (i : ℕ) → aside_set file o i ≡ false
  pub rows_are : (f : ℕ) → row_of (row_up_to f o) ≡ steps_up_to f o
  pub rows_prove : RowsProve file M (λ f. row_up_to f o)

pub record LeadsTo (file order : List ℕ) (M : FactSet) : Type 0 where
  -- The order names every exception rule once, and nothing else, ..
  pub named_once : (r : ℕ) → exception (program_of file) r ≡ true → how_many (eqb r) (named_in order) ≡ 1
  pub named_only : (r : ℕ) → exception (program_of file) r ≡ false → how_many (eqb r) (named_in order) ≡ 0
  -- .. in whole items throughout: questions 11 to 14 get yes.
  pub whole_items : length order ≡ name_width * exceptions (program_of file)
  pub order_right : order_no (exception (program_of file)) (count (program_of file)) order ≡ none
  -- In any buffers that suffice for it, the run under the order ends at M.
  pub run_ends : (facts rules steps : List ℕ) → buffers_no narrow (program_of file) (length facts) (length rules) (length steps) ≡ none → EndsAt file M (run_outcome file order facts rules steps)
  -- No fact outside has any proof that M admits, and whatever row is handed to the check, it does not say yes.
  pub outside_unproved : (f : ℕ) → M f ≡ false → (row : List Step) → Proof (program_of file) (in_force (program_of file)) row f → Admits (program_of file) M row → ⊥
  pub outside_unchecked : (f : ℕ) → M f ≡ false → (row : List ℕ) → checked_verdict (checked file (set_bytes file M) f row) ≡ 0

-- the set that a search found: the facts with mark 1
abbrev pub found_set : List ℕ → SearchOutcome → FactSet
found_set file o = marked (program_of file).facts 1 o.fact_marks

-- the order that it wrote: an item for each exception rule
abbrev pub written_order : List ℕ → SearchOutcome → List ℕ
written_order file o = take (name_width * exceptions (program_of file)) o.order

-- the steps that it wrote: as many as it counts
abbrev pub written_steps : SearchOutcome → List ℕ
written_steps o = take (step_width narrow * search_steps o.answer) o.steps

-- the steps from the first up to the fact's own, the proof that it gives for the fact
abbrev pub written_proof : ℕ → SearchOutcome → List ℕ
written_proof f o = take (step_width narrow * length (row_to f (row_of (written_steps o)))) o.steps

-- What a search is that gives a result (demand 3).

-- A run gives the marks, steps and counts that the search gives.
pub record SameResult (file : List ℕ) (o : SearchOutcome) (r : RunOutcome) : Type 0 where
  pub fact_marks : take (program_of file).facts r.fact_marks ≡ take (program_of file).facts o.fact_marks
  pub rule_marks : take (count (program_of file)) r.rule_marks ≡ take (count (program_of file)) o.rule_marks
  pub steps : step_row r ≡ written_steps o
  pub stage-count : run_stages r.answer ≡ search_stages o.answer
  pub step_count : run_steps r.answer ≡ search_steps o.answer

-- The buffers are those lent, before the search.
pub record SearchIs (file facts rules steps order : List ℕ) (o : SearchOutcome) : Type 0 where
  -- It gives the earliest stable set: every other one has the highest-numbered constraint fact on which the two differ.
  pub earliest : Earliest (program_of file) (in_force (program_of file)) any_set (found_set file o)
  -- The order that it writes leads to that set: ..
  pub leads : LeadsTo file (written_order file o) (found_set file o)
  -- .. ascending, the exception rules with premises in the set and no constraint in it, then the others ascending, and the withheld ones last, ascending.
  pub order_is : named_in (written_order file o) ≡ order_for (program_of file) (in_force (program_of file)) (found_set file o)
  -- The run under that order gives the same marks, steps and counts, in any buffers that suffice for it; ..
  pub same_result : (facts' rules' steps' : List ℕ) → buffers_no narrow (program_of file) (length facts') (length rules') (length steps') ≡ none → SameResult file o (run_outcome file (written_order file o) facts' rules' steps')
  -- .. in the buffers that the search was lent, byte for byte.
  pub same_fact_marks : (run_outcome file (written_order file o) facts rules steps).fact_marks ≡ o.fact_marks
  pub same_rule_marks : (run_outcome file (written_order file o) facts rules steps).rule_marks ≡ o.rule_marks
  pub same_steps : (run_outcome file (written_order file o) facts rules steps).steps ≡ o.steps
  -- By the search's own rule marks nothing is set aside, mark 4 is on exactly the withheld rules, and the stage count is the number of rule marks 1.
  pub none_aside : (i : ℕ) → marked (count (program_of file)) 2 o.rule_marks i ≡ false
  pub withheld_rules : (i : ℕ) → marked (count (program_of file)) 4 o.rule_marks i ≡ withheld (program_of file) i
  pub stages : search_stages o.answer ≡ how_many (λ m. eqb m 1) (take (count (program_of file)) o.rule_marks)
  -- Its own steps, from the first up to a fact's own, prove each fact of the set.
  pub rows_are : (f : ℕ) → row_of (written_proof f o) ≡ row_to f (row_of (written_steps o))
  pub rows_prove : RowsProve file (found_set file o) (λ f. written_proof f o)
  -- Past what is written each buffer keeps its contents.
  pub fact_marks_kept : drop (program_of file).facts o.fact_marks ≡ drop (program_of file).facts facts
  pub rule_marks_kept : drop (count (program_of file)) o.rule_marks ≡ drop (count (program_of file)) rules
  pub steps_kept : drop (step_width narrow * search_steps o.answer) o.steps ≡ drop (step_width narrow * search_steps o.answer) steps
  pub order_kept : drop (name_width * exceptions (program_of file)) o.order ≡ drop (name_width * exceptions (program_of file)) order

-- What the search answers (demand 3), by what it is handed.

-- Buffers are large enough (document 01) for a file: questions 31 to 34 get yes.
pub record LargeEnough (file facts rules steps order : List ℕ) : Type 0 where
  pub fact_marks : (program_of file).facts ≤ length facts
  pub rule_marks : count (program_of file) ≤ length rules
  pub step_items : step_width narrow * (program_of file).facts ≤ length steps
  pub rule-items : name_width * exceptions (program_of file) ≤ length order

-- An accepted file with at most 16 constraint facts and large enough buffers.
pub record Searchable (file facts rules steps order : List ℕ) : Type 0 where
  pub accepted : file_no file ≡ none
  pub few : constraint_facts (program_of file) ≤ 16
  pub large : LargeEnough file facts rules steps order

-- What the search answers there.
pub record Searches (file facts rules steps order : List ℕ) (o : SearchOutcome) : Type 0 where
  -- 41 exactly when no set is stable, ..
  pub none_exactly : (search_number o.answer ≡ 41) ↔ ((M : FactSet) → Stable (program_of file) (in_force (program_of file)) M → ⊥)
  -- .. else a result, and nothing else.
  pub else_found : (M : FactSet) → Stable (program_of file) (in_force (program_of file)) M → search_number o.answer ≡ 0
  pub found : search_number o.answer ≡ 0 → SearchIs file facts rules steps order o
  pub one_or_other : (search_number o.answer ≡ 0) ⊎ (search_number o.answer ≡ 41)

-- What it answers whatever the number of constraint facts, for an accepted file in large enough buffers: 40 exactly when there are more than 16.
abbrev pub FortyExactly : List ℕ → SearchOutcome → Type 0
FortyExactly file o = (search_number o.answer ≡ 40) ↔ (16 < constraint_facts (program_of file))

-- Two files get equal replies, and leave equal bytes in the buffers lent, from every operation that asks the file's questions. Each field is the
-- definition that the operation's contract names.
pub record SameReplies (s t : List ℕ) : Type 0 where
  pub accept : accept_of s ≡ accept_of t
  pub ask_list : (list : List ℕ) → answer_of (first_no (ask_list_questions s list)) ≡ answer_of (first_no (ask_list_questions t list))
  pub ask_order : (order : List ℕ) → answer_of (first_no (ask_order_questions s order)) ≡ answer_of (first_no (ask_order_questions t order))
  pub ask_set : (set : List ℕ) → answer_of (first_no (ask_set_questions s set)) ≡ answer_of (first_no (ask_set_questions t set))
  pub ask_row : (fact : ℕ) (row : List ℕ) → answer_of (first_no (ask_row_questions s fact row)) ≡ answer_of (first_no (ask_row_questions t fact row))
  pub run : (order facts rules steps : List ℕ) → run_outcome s order facts rules steps ≡ run_outcome t order facts rules steps
  pub grounds : (order : List ℕ) (fact : ℕ) (facts rules steps : List ℕ) → grounds_outcome s order fact facts rules steps ≡ grounds_outcome t order fact facts rules steps
  pub judge : (list set : List ℕ) → judged s list set ≡ judged t list set
  pub check : (set : List ℕ) (fact : ℕ) (row : List ℕ) → checked s set fact row ≡ checked t set fact row
  pub search : (facts rules steps order : List ℕ) → search_outcome s facts rules steps order ≡ search_outcome t facts rules steps order
  pub layered : (order : List ℕ) → layered_outcome s order ≡ layered_outcome t order
  pub choose : (first second : List ℕ) → choice_of s first second ≡ choice_of t first second
  pub better : (first second : List ℕ) → better_of s first second ≡ better_of t first second
  pub better_number : (first second : List ℕ) → no_number (better_no s first second) ≡ no_number (better_no t first second)
  pub render : (room : List ℕ) → (length (panel_text s) ≡ length (panel_text t)) × (shown (panel_text s) room ≡ shown (panel_text t) room)
  pub render_grounds : (fact : ℕ) (room : List ℕ) → (length (grounds_text s fact) ≡ length (grounds_text t fact)) × (shown (grounds_text s fact) room ≡ shown (grounds_text t fact) room)
  -- The operations for callers in C and Rust; the panel's is `render`.
  pub retention_accept : file_of (accept_of s) ≡ file_of (accept_of t)
  pub retention_run : (order facts rules steps : List ℕ) → run_reply (run_outcome s order facts rules steps) ≡ run_reply (run_outcome t order facts rules steps)
  pub retention_grounds : (order : List ℕ) (fact : ℕ) (facts rules steps : List ℕ) → grounds_reply (grounds_outcome s order fact facts rules steps) ≡ grounds_reply (grounds_outcome t order fact facts rules steps)
  pub retention_judge : (list set : List ℕ) → verdict_of (judged s list set) ≡ verdict_of (judged t list set)
  pub retention_check : (set : List ℕ) (fact : ℕ) (row : List ℕ) → verdict_of (checked s set fact row) ≡ verdict_of (checked t set fact row)
  pub retention_search : (facts rules steps order : List ℕ) → search_reply (search_outcome s facts rules steps order) ≡ search_reply (search_outcome t facts rules steps order)
  pub retention_layered : (order : List ℕ) → layered_reply (layered_outcome s order) ≡ layered_reply (layered_outcome t order)
  pub retention_better : (first second : List ℕ) → reply_of_choice (choice_of s first second) ≡ reply_of_choice (choice_of t first second)
