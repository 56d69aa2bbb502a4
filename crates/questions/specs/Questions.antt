-- What the bytes lent beside a file mean, and the questions of every operation that asks those of a file, in the order of document 01
-- ("Questions before a result").
use Rattle.std.specs.Prelude.{ℕ, ◌*◌, Bool, true, false, not, ◌||◌, List, [], ◌∷◌, ◌++◌, length, eqb, ltb, leb, ◌≡◌, ◌↔◌}
use Rattle.std.proofs.Math.Option.{Option, none, some}
use Rattle.theory.specs.Rule.{all, mem, up_to, nothing, adjoin, count, exception, Program, FactSet, in_force, Step}
use Rattle.items.specs.declared.refusal.Refusal.{Refusal}
use Rattle.items.specs.declared.refusal.Refusal.TheVariants.{NotRuleItems, NotAnException, NamedTwice, NotAllNamed, WrongSetLength, NotZeroOrOne, NotStepItems, AskedFactTooHigh, FactMarksShort, RuleMarksShort, StepsShort, OrderShort, TooManyConstraints, NoStableSet, NotDerived, NotLayered}
use Rattle.items.specs.Item.{narrow, class_of, where_said, Width, step_width, name_width, max_guessed}
use Rattle.cursors.specs.Cursor.{Token, item, bad, items_at, order_start, steps_start}
use Rattle.items.specs.Question.{Question, ask, first_no}
use Rattle.reader.specs.Questions.{program_of, file_questions, file_no, exceptions, constraint_facts}
use Rattle.items.specs.declared.item.FactId.{FactId}
use Rattle.items.specs.declared.item.RuleId.{RuleId}
use Rattle.theory.specs.Stable.{Stable}
use Rattle.theory.specs.Search.{search}
use Rattle.theory.specs.Layers.{Cycle, is_layered}
use Rattle.theory.specs.Run.{Stand, run}
use Rattle.items.specs.Write.{rule_item}

-- whole items throughout
abbrev pub whole : List Token → Bool
whole [] = true
whole (item i ∷ ts) = whole ts
whole (bad fault ∷ ts) = false

-- the rules that the items name, in their order
abbrev pub names_of : List Token → List ℕ
names_of [] = []
names_of (bad fault ∷ ts) = []
names_of (item i ∷ ts) = where_said (class_of i).names (λ r. r.0 ∷ names_of ts) (names_of ts)

-- the rules that the bytes of an order or a list name
abbrev pub named_in : List ℕ → List ℕ
named_in bytes = names_of (items_at bytes order_start)

-- what f gives of each element, one after another
abbrev pub each : {A : Type 0} → (A → List ℕ) → List A → List ℕ
each f [] = []
each f (x ∷ xs) = f x ++ each f xs

-- the bytes of an order or a list that names these rules
abbrev pub naming : List ℕ → List ℕ
naming rs = each rule_item rs

-- the step that a 06 item gives
abbrev pub step_of : FactId → RuleId → Step
step_of f r = record { fact = f.0; by = r.0 }

-- the steps that the items of a row give
abbrev pub steps_of : List Token → List Step
steps_of [] = []
steps_of (bad fault ∷ ts) = []
steps_of (item i ∷ ts) = where_said (class_of i).step (λ s. step_of s.fact s.rule ∷ steps_of ts) (steps_of ts)

-- the steps that the bytes of a proof row give
abbrev pub row_of : List ℕ → List Step
row_of bytes = steps_of (items_at bytes steps_start)

-- Questions 12 and 13 of one item: an exception rule of the file? Not named before? `known` tells the exception rules, `seen` those named
-- before.
abbrev pub name_questions : (ℕ → Bool) → (ℕ → Bool) → ℕ → List Question
name_questions known seen r = ask NotAnException (known r) ∷ ask NamedTwice (not (seen r)) ∷ []

-- Of each item in turn.
abbrev pub names_questions : (ℕ → Bool) → (ℕ → Bool) → List ℕ → List Question
names_questions known seen [] = []
names_questions known seen (r ∷ rs) = name_questions known seen r ++ names_questions known (adjoin seen r) rs

-- Whole 05 items throughout?
abbrev pub name_items_question : List ℕ → Question
name_items_question row = ask NotRuleItems (whole (items_at row order_start))

-- Every exception rule below n named?
abbrev pub all_named_question : (ℕ → Bool) → ℕ → List ℕ → Question
all_named_question known n order = ask NotAllNamed (all (λ i. not (known i) || mem i (named_in order)) (up_to n))

-- A list of rules: 11 over the whole row, then 12 and 13 of each item. An order: the same, then 14.
unfoldable pub list_questions : (ℕ → Bool) → List ℕ → List Question
list_questions known list = name_items_question list ∷ names_questions known nothing (named_in list)

unfoldable pub order_questions : (ℕ → Bool) → ℕ → List ℕ → List Question
order_questions known n order = list_questions known order ++ (all_named_question known n order ∷ [])

-- One byte for each of n facts? Every byte 0 or 1?
abbrev pub zero_or_one : List ℕ → Bool
zero_or_one set = all (λ b. leb b 1) set

abbrev pub set_length_question : ℕ → List ℕ → Question
set_length_question n set = ask WrongSetLength (eqb (length set) n)

abbrev pub set_bytes_question : List ℕ → Question
set_bytes_question set = ask NotZeroOrOne (zero_or_one set)

-- A fact set of a file with n facts.
unfoldable pub set_questions : ℕ → List ℕ → List Question
set_questions n set = set_length_question n set ∷ set_bytes_question set ∷ []

-- Asked fact below the count? Whole 06 items?
abbrev pub asked_fact_question : ℕ → ℕ → Question
asked_fact_question n fact = ask AskedFactTooHigh (ltb fact n)

abbrev pub step_items_question : List ℕ → Question
step_items_question row = ask NotStepItems (whole (items_at row steps_start))

-- A proof row for a file with n facts.
unfoldable pub row_questions : ℕ → ℕ → List ℕ → List Question
row_questions n fact row = asked_fact_question n fact ∷ step_items_question row ∷ []

-- The first no of an order.
abbrev pub order_no : (ℕ → Bool) → ℕ → List ℕ → Option Refusal
order_no known n order = first_no (order_questions known n order)

-- The questions of the operations `ask_list`, `ask_order`, `ask_set` and `ask_row`: the file's own come first.
unfoldable pub ask_list_questions : List ℕ → List ℕ → List Question
ask_list_questions file list = file_questions file ++ list_questions (exception (program_of file)) list

unfoldable pub ask_order_questions : List ℕ → List ℕ → List Question
ask_order_questions file order = file_questions file ++ order_questions (exception (program_of file)) (count (program_of file)) order

unfoldable pub ask_set_questions : List ℕ → List ℕ → List Question
ask_set_questions file set = file_questions file ++ set_questions (program_of file).facts set

unfoldable pub ask_row_questions : List ℕ → ℕ → List ℕ → List Question
ask_row_questions file fact row = file_questions file ++ row_questions (program_of file).facts fact row

-- Fact marks at least the count of facts? Rule marks at least the count of rules? Steps at least a step's bytes × facts?
abbrev pub fact_marks_question : Program → ℕ → Question
fact_marks_question P facts = ask FactMarksShort (leb P.facts facts)

abbrev pub rule_marks_question : Program → ℕ → Question
rule_marks_question P rules = ask RuleMarksShort (leb (count P) rules)

abbrev pub steps_question : Width → Program → ℕ → Question
steps_question w P steps = ask StepsShort (leb (step_width w * P.facts) steps)

-- The buffers that the run and the search share.
unfoldable pub buffer_questions : Width → Program → ℕ → ℕ → ℕ → List Question
buffer_questions w P facts rules steps = fact_marks_question P facts ∷ rule_marks_question P rules ∷ steps_question w P steps ∷ []

-- The run: the file, the order, then the buffers.
unfoldable pub run_questions : List ℕ → List ℕ → ℕ → ℕ → ℕ → List Question
run_questions file order facts rules steps =
    file_questions file
    ++ (order_questions (exception (program_of file)) (count (program_of file)) order
    ++ buffer_questions narrow (program_of file) facts rules steps)

-- The first no of each.
abbrev pub buffers_no : Width → Program → ℕ → ℕ → ℕ → Option Refusal
buffers_no w P facts rules steps = first_no (buffer_questions w P facts rules steps)

abbrev pub run_no : List ℕ → List ℕ → ℕ → ℕ → ℕ → Option Refusal
run_no file order facts rules steps = first_no (run_questions file order facts rules steps)

-- The run of a file under an order.
abbrev pub run_of : List ℕ → List ℕ → Stand
run_of file order = run (program_of file) (in_force (program_of file)) (named_in order)

-- Two orders, each questioned as an order is, the first before the second (document 02, wish 7).
unfoldable pub both_questions : Program → List ℕ → List ℕ → List Question
both_questions P first second = order_questions (exception P) (count P) first ++ order_questions (exception P) (count P) second

-- The better of two orders: the file, then both.
unfoldable pub better_questions : List ℕ → List ℕ → List ℕ → List Question
better_questions file first second = file_questions file ++ both_questions (program_of file) first second

-- The first no of these.
abbrev pub better_no : List ℕ → List ℕ → List ℕ → Option Refusal
better_no file first second = first_no (better_questions file first second)

-- Did the run derive the fact? (document 02, wish 1)
abbrev pub derived_question : Stand → ℕ → Question
derived_question s fact = ask NotDerived (s.derived fact)

-- The grounds for one fact: the run's questions, then this one.
unfoldable pub grounds_questions : List ℕ → List ℕ → ℕ → ℕ → ℕ → ℕ → List Question
grounds_questions file order fact facts rules steps =
    run_questions file order facts rules steps ++ (derived_question (run_of file order) fact ∷ [])

abbrev pub grounds_no : List ℕ → List ℕ → ℕ → ℕ → ℕ → ℕ → Option Refusal
grounds_no file order fact facts rules steps = first_no (grounds_questions file order fact facts rules steps)

-- The judge: the file, the list, then the set.
unfoldable pub judge_questions : List ℕ → List ℕ → List ℕ → List Question
judge_questions file list set =
    file_questions file ++ (list_questions (exception (program_of file)) list ++ set_questions (program_of file).facts set)

abbrev pub judge_no : List ℕ → List ℕ → List ℕ → Option Refusal
judge_no file list set = first_no (judge_questions file list set)

-- The proof check: the file, the set, then the asked fact and the row.
unfoldable pub check_questions : List ℕ → List ℕ → ℕ → List ℕ → List Question
check_questions file set fact row =
    file_questions file ++ (set_questions (program_of file).facts set ++ row_questions (program_of file).facts fact row)

abbrev pub check_no : List ℕ → List ℕ → ℕ → List ℕ → Option Refusal
check_no file set fact row = first_no (check_questions file set fact row)

-- Order at least 3 × exception rules? At most 16 constraint facts?
abbrev pub order_room_question : Program → ℕ → Question
order_room_question P order = ask OrderShort (leb (name_width * exceptions P) order)

abbrev pub guessed_question : Program → Question
guessed_question P = ask TooManyConstraints (leb (constraint_facts P) max_guessed)

-- Is there a stable set? It is asked last, by looking for one.
unfoldable pub some_stable : Program → Bool
some_stable P = elim (search P (in_force P)) [ some M ↦ true | none ↦ false ]

abbrev pub stable_question : Program → Question
stable_question P = ask NoStableSet (some_stable P)

-- What the answer means: of an accepted file it is yes exactly where some set is stable. `stable_asked` of the search shows it of every file.
abbrev pub StableAsked : List ℕ → Type 0
StableAsked file =
    file_no file ≡ none → (some_stable (program_of file) ≡ true) ↔ ((M : FactSet) × Stable (program_of file) (in_force (program_of file)) M)

-- The questions before the last one.
unfoldable pub limit_questions : Program → ℕ → List Question
limit_questions P order = order_room_question P order ∷ guessed_question P ∷ []

unfoldable pub early_questions : List ℕ → ℕ → ℕ → ℕ → ℕ → List Question
early_questions file facts rules steps order =
    file_questions file ++ (buffer_questions narrow (program_of file) facts rules steps ++ limit_questions (program_of file) order)

unfoldable pub search_questions : List ℕ → ℕ → ℕ → ℕ → ℕ → List Question
search_questions file facts rules steps order =
    early_questions file facts rules steps order ++ (stable_question (program_of file) ∷ [])

-- The first no of these.
abbrev pub search_no : List ℕ → ℕ → ℕ → ℕ → ℕ → Option Refusal
search_no file facts rules steps order = first_no (search_questions file facts rules steps order)

-- Does no cycle of dependencies go through a constraint? (document 02, wish 4)
abbrev pub layered_question : Program → Question
layered_question P = ask NotLayered (is_layered P (in_force P))

-- What the answer means: of an accepted file it is no exactly where there is such a cycle. `layered_asked` of the layers shows it of every file.
abbrev pub LayeredAsked : List ℕ → Type 0
LayeredAsked file =
    file_no file ≡ none → (is_layered (program_of file) (in_force (program_of file)) ≡ false) ↔ Cycle (program_of file) (in_force (program_of file))

-- The order by rank: the file, the order's buffer, then this one.
unfoldable pub layered_questions : List ℕ → ℕ → List Question
layered_questions file order = file_questions file ++ (order_room_question (program_of file) order ∷ layered_question (program_of file) ∷ [])

abbrev pub layered_no : List ℕ → ℕ → Option Refusal
layered_no file order = first_no (layered_questions file order)
