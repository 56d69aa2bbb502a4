-- Document 02, wish 6, "Barcodes that could not be read", on any bytes at all.
use Rattle.std.specs.Prelude.{ℕ, ◌+◌, ◌*◌, ◌<◌, ◌≤◌, ◌≡◌, true, false, ◌&&◌, List, [], ◌∷◌, ◌++◌, map, ◌⊎◌, ◌↔◌, length}
use Rattle.std.proofs.Math.Option.{none, some}
use Rattle.theory.specs.Rule.{all, clear, mem, keep, how_many, up_to, Program, Step, nothing, count, rule, plain, exception, constraint_fact, withheld, in_force}
use Rattle.theory.specs.Run.{run, stage_count}
use Rattle.theory.specs.Stable.{step_at, used_rule}
use Rattle.items.specs.declared.refusal.Refusal.TheVariants.{FileCutOff}
use Rattle.items.specs.declared.item.FactId.{FactId}
use Rattle.items.specs.declared.item.Item.{Item}
use Rattle.items.specs.declared.item.Item.TheVariants.{Facts, Unread}
use Rattle.items.specs.Item.{narrow, max_bytes, max_rules, name_width, class_of}
use Rattle.items.specs.Question.{first_no, no_number}
use Rattle.cursors.specs.Cursor.{Token, item, items_at, file_start, order_start}
use Rattle.reader.specs.Questions.{rules_of, unread_of, fact_count, program_of, exceptions, opening_questions, file_no}
use Rattle.reader.specs.Accept.{accept_of}
use Rattle.reader.specs.Accept as accepted
use Rattle.questions.specs.Questions.{whole, named_in, row_of, names_questions, order_no, ask_order_questions, buffers_no, list_questions}
use Rattle.run.specs.Outcome.{done}
use Rattle.run.specs.Outcome.{run_written, run_outcome, run_number}
use Rattle.keeping.specs.Outcome.{grounds_outcome, grounds_number}
use Rattle.proofcheck.specs.Checked.{checked, checked_verdict}
use Rattle.search.specs.Outcome.{found_at, search_outcome, search_number}
use Rattle.layers.specs.Outcome.{layered_outcome, layered_number}
use Rattle.panel_lines.specs.Text.{head_line, ascending, panel_text}
use Rattle.demands.specs.Results.{aside_set, withheld_set, taken_steps, found_set, written_order, written_steps}
use Rattle.demands.specs.Wish01.{kept_row}
use Rattle.demands.specs.Wish04.{handed_over}
use Rattle.demands.specs.EachRefuses.{EachRefuses}
use Rattle.demands.specs.Starred.{Runs, SearchTakes}

-- Somewhere in the file there stands a 07 item that follows a rule, and it is the first item that gets a no.
pub record AfterRule (file : List ℕ) : Type 0 where
  pub before : List Item
  pub next : Item
  pub after : List Token
  pub stands : items_at file file_start ≡ map item before ++ (item next ∷ after)
  -- it names an unread fact, below the count (6)
  pub fact : FactId
  pub is-unread : (class_of next).unread ≡ some fact
  pub below : fact.0 < fact_count (map item before)
  -- a rule was opened before it
  pub follows : 0 < length (rules_of (map item before))
  -- all that is asked of the items before gets yes: nothing is missing but a next byte
  pub short : length file ≤ max_bytes
  pub asked : first_no (opening_questions (map item before)) ≡ some FileCutOff

-- Of an accepted file: its 07 items stand between the 10 item, which gives the count of facts, and the first rule, and the facts that they name are the unread
-- ones, below the count.
pub record NamesUnread (file : List ℕ) : Type 0 where
  pub names : List FactId
  pub rest : List Token
  pub stands : items_at file file_start ≡ item (Facts (program_of file).facts) ∷ (map (λ f. item (Unread f)) names ++ rest)
  pub none_later : unread_of rest ≡ []
  pub unread : (f : ℕ) → (program_of file).unread f ≡ mem f (map (λ f. f.0) names)
  pub below : (f : ℕ) → (program_of file).unread f ≡ true → f < (program_of file).facts

-- No step of the row is by a rule with an unread constraint: no unread fact is taken as absent.
abbrev pub ReadAlone : List ℕ → List Step → Type 0
ReadAlone file row = (k : ℕ) → k < length row → clear (program_of file).unread (used_rule (program_of file) row k).constraints ≡ true

-- The rules in force come first, and behind them the withheld ones, ascending.
pub record WithheldLast (P : Program) (row : List ℕ) : Type 0 where
  pub front : List ℕ
  pub is : row ≡ front ++ keep (withheld P) (up_to (count P))
  pub in-force : all (in_force P) front ≡ true

-- An order gets a number from the question on orders, and from the run in any buffers.
pub record OrderGets (file order : List ℕ) (n : ℕ) : Type 0 where
  pub asked : no_number (first_no (ask_order_questions file order)) ≡ n
  pub run : (facts rules steps : List ℕ) → run_number (run_outcome file order facts rules steps).answer ≡ n

-- An order of 05 items names a rule past the last one, or a plain one, and all that is asked of the items before gets yes.
pub record NamesOther (P : Program) (order : List ℕ) : Type 0 where
  pub before : List ℕ
  pub other : ℕ
  pub after : List ℕ
  pub items : whole (items_at order order_start) ≡ true
  pub named : named_in order ≡ before ++ (other ∷ after)
  pub asked : first_no (names_questions (exception P) nothing before) ≡ none
  pub is_other : (count P ≤ other) ⊎ (plain P other ≡ true)

-- `wish_06` proves it of every file. "Every operation works on the file without the withheld rules" is the mask `in_force` in what demands 2 and 3 and the wishes say of each;
-- beyond it `repeats` of demand 2: programs that differ in no more than what withheld rules say are `Alike`, so nothing that such a rule says changes a reply.
pub record Wish06 (file : List ℕ) : Type 0 where
  -- "Kind 07, body 1, names an unread fact and stands between the 10 item and the first rule."
  pub names : file_no file ≡ none → NamesUnread file
  -- "It refuses with 56, after question 6, a 07 item that follows a rule"
  pub fifty_six : (no_number (file_no file) ≡ 56) ↔ AfterRule file
  pub each_refuses : no_number (file_no file) ≡ 56 → EachRefuses 56 file
  -- "An exception rule with an unread constraint is withheld": no other is, and a plain rule never.
  pub withheld_exactly : (i : ℕ) → i < count (program_of file) → (withheld (program_of file) i ≡ true) ↔ ((k : ℕ) × ((mem k (rule (program_of file) i).constraints ≡ true) × ((program_of file).unread k ≡ true)))
  pub withheld_exception : (i : ℕ) → withheld (program_of file) i ≡ true → exception (program_of file) i ≡ true
  pub plain_in_force : (i : ℕ) → plain (program_of file) i ≡ true → in_force (program_of file) i ≡ true
  pub none_withheld : unread_of (items_at file file_start) ≡ [] → (i : ℕ) → in_force (program_of file) i ≡ true
  -- ".. with rule mark 4": run and search write what the run of the rules in force gives, and mark 4 on exactly the withheld rules; none of these is set aside.
  pub run_writes : (order facts rules steps : List ℕ) → run_number (run_outcome file order facts rules steps).answer ≡ 0 → run_outcome file order facts rules steps ≡ run_written (program_of file) (run (program_of file) (in_force (program_of file)) (named_in order)) facts rules steps
  pub run_marks : (order facts rules steps : List ℕ) → run_number (run_outcome file order facts rules steps).answer ≡ 0 → (i : ℕ) → withheld_set file (run_outcome file order facts rules steps) i ≡ withheld (program_of file) i
  pub never_aside : (order facts rules steps : List ℕ) → run_number (run_outcome file order facts rules steps).answer ≡ 0 → (i : ℕ) → withheld (program_of file) i ≡ true → aside_set file (run_outcome file order facts rules steps) i ≡ false
  pub search_writes : (facts rules steps order : List ℕ) → search_number (search_outcome file facts rules steps order).answer ≡ 0 → search_outcome file facts rules steps order ≡ found_at (program_of file) (found_set file (search_outcome file facts rules steps order)) facts rules steps order
  -- "The trade now forbids a rule to take an unread fact itself as absent": no step of a run, of grounds, of a search or of a row to which the check says yes is by a
  -- rule with an unread constraint.
  pub run_reads : (order facts rules steps : List ℕ) → run_number (run_outcome file order facts rules steps).answer ≡ 0 → ReadAlone file (taken_steps (run_outcome file order facts rules steps))
  pub grounds_read : (order : List ℕ) (fact : ℕ) (facts rules steps : List ℕ) → grounds_number (grounds_outcome file order fact facts rules steps).answer ≡ 0 → ReadAlone file (kept_row (grounds_outcome file order fact facts rules steps))
  pub search_reads : (facts rules steps order : List ℕ) → search_number (search_outcome file facts rules steps order).answer ≡ 0 → ReadAlone file (row_of (written_steps (search_outcome file facts rules steps order)))
  pub proof_reads : (set : List ℕ) (fact : ℕ) (row : List ℕ) → checked_verdict (checked file set fact row) ≡ 1 → ReadAlone file (row_of row)
  -- "a row with a step by one is no proof and gets no"
  pub step_refused : (set : List ℕ) (fact : ℕ) (row : List ℕ) (k : ℕ) → k < length (row_of row) → withheld (program_of file) (step_at (row_of row) k).by ≡ true → checked_verdict (checked file set fact row) ≡ 0
  -- "Orders still name them .. and orders handed out put them last, ascending"
  pub search_last : (facts rules steps order : List ℕ) → search_number (search_outcome file facts rules steps order).answer ≡ 0 → WithheldLast (program_of file) (named_in (written_order file (search_outcome file facts rules steps order)))
  pub layered_last : (order : List ℕ) → layered_number (layered_outcome file order).answer ≡ 0 → WithheldLast (program_of file) (named_in (handed_over (layered_outcome file order)))
  -- "Orders still name them .. so questions .. 12, 14 .. count them": an order that leaves one out gets 14, and 12 is for a rule past the last one or a plain one.
  pub left_out : (order : List ℕ) (i : ℕ) → file_no file ≡ none → first_no (list_questions (exception (program_of file)) order) ≡ none → withheld (program_of file) i ≡ true → mem i (named_in order) ≡ false → OrderGets file order 14
  pub other_named : (order : List ℕ) → file_no file ≡ none → NamesOther (program_of file) order → OrderGets file order 12
  -- ".. 32 and 34 ..": too few bytes for the marks of all rules get 32, and for the items of all exception rules 34, where the questions before get yes.
  pub run_marks_short : (order facts rules steps : List ℕ) → file_no file ≡ none → order_no (exception (program_of file)) (count (program_of file)) order ≡ none → (program_of file).facts ≤ length facts → length rules < count (program_of file) → run_number (run_outcome file order facts rules steps).answer ≡ 32
  pub search_marks_short : (facts rules steps order : List ℕ) → file_no file ≡ none → (program_of file).facts ≤ length facts → length rules < count (program_of file) → search_number (search_outcome file facts rules steps order).answer ≡ 32
  pub search_order_short : (facts rules steps order : List ℕ) → file_no file ≡ none → buffers_no narrow (program_of file) (length facts) (length rules) (length steps) ≡ none → length order < name_width * exceptions (program_of file) → search_number (search_outcome file facts rules steps order).answer ≡ 34
  pub layered_order_short : (order : List ℕ) → file_no file ≡ none → length order < name_width * exceptions (program_of file) → layered_number (layered_outcome file order).answer ≡ 34
  pub exceptions_all : exceptions (program_of file) ≡ how_many (withheld (program_of file)) (up_to (count (program_of file))) + how_many (λ i. exception (program_of file) i && in_force (program_of file) i) (up_to (count (program_of file)))
  -- ".. and the panel's R": the text begins with the counts of facts and of all rules.
  pub panel_head : file_no file ≡ none → (rest : List ℕ) × (panel_text file ≡ head_line (program_of file).facts (count (program_of file)) (stage_count (run (program_of file) (in_force (program_of file)) (ascending (program_of file)))) ++ rest)
  -- ".. 8 ..": at most so many rules, the withheld ones among them.
  pub rules_few : file_no file ≡ none → count (program_of file) ≤ max_rules
  -- `accept` counts them among rules and exception rules, and not their constraints: "constraint facts included".
  pub rules_counted : file_no file ≡ none → accepted.rules (accept_of file) ≡ count (program_of file)
  pub exceptions_counted : file_no file ≡ none → accepted.exception_rules (accept_of file) ≡ how_many (exception (program_of file)) (up_to (count (program_of file)))
  pub constraints_counted : file_no file ≡ none → accepted.constraints (accept_of file) ≡ how_many (constraint_fact (program_of file) (in_force (program_of file))) (up_to (program_of file).facts)

-- The bytes of the example below.
abbrev pub held : List ℕ
held = 0x10 ∷ 0x02 ∷ 0x07 ∷ 0x01 ∷ 0x01 ∷ 0x00 ∷ 0x03 ∷ 0x01 ∷ 0x1F ∷ 0x00 ∷ 0x01 ∷ []

-- An unread hold label: 2 facts, 1 is unread; 0 < !1. The rule is withheld, nothing follows, and the search takes the empty set.
pub record UnreadExample : Type 0 where
  pub runs : Runs held (0 ∷ []) (record { answer = done 0 0; fact_marks = 0 ∷ 0 ∷ []; rule_marks = 4 ∷ []; steps = 9 ∷ 9 ∷ 9 ∷ 9 ∷ 9 ∷ 9 ∷ 9 ∷ 9 ∷ [] })
  pub takes : SearchTakes held (0 ∷ 0 ∷ []) (record { answer = done 0 0; fact_marks = 0 ∷ 0 ∷ []; rule_marks = 4 ∷ []; steps = 9 ∷ 9 ∷ 9 ∷ 9 ∷ 9 ∷ 9 ∷ 9 ∷ 9 ∷ []; order = 5 ∷ 0 ∷ 0 ∷ [] })
