-- Demand 1 (document 01, "Questions before a result"), of one call of an operation: each no stops with its number, and a number is returned
-- only for a no to its own question, asked of that operation.
use Rattle.std.specs.Prelude.{ℕ, ◌<◌, ◌≤◌, ◌≡◌, true, List, [], ◌∷◌, ◌++◌, ◌↔◌, eqb, length, drop}
use Rattle.std.proofs.Math.Option.{Option, none, some, map}
use Rattle.theory.specs.Rule.{all, mem}
use Rattle.items.specs.Question.{Question, first_no, no_number}
use Rattle.items.specs.declared.refusal.Refusal.{Refusal}
use Rattle.cursors.specs.declared.cursor.Row.{Row}
use Rattle.cursors.specs.declared.cursor.Row.TheVariants.{Opening, Body, Order, Steps}
use Rattle.cursors.specs.declared.cursor.Cursor.{Cursor}
use Rattle.cursors.specs.declared.cursor.Read.TheVariants.{Ended, Refused}
use Rattle.cursors.specs.Cursor.{front, place_questions, next_at, read_number}
use Rattle.reader.specs.Questions.{file_questions}
use Rattle.reader.specs.Accept.{accept_of, accept_number}
use Rattle.questions.specs.Questions.{ask_list_questions, ask_order_questions, ask_set_questions, ask_row_questions, run_questions, grounds_questions, judge_questions, check_questions, search_questions, layered_questions, better_questions, better_no}
use Rattle.items.specs.Answer.{answer_number}
use Rattle.questions.specs.Answer.{answer_of}
use Rattle.run.specs.Outcome.{run_outcome, run_number, run_stages, run_steps, RunOutcome}
use Rattle.keeping.specs.Outcome.{grounds_outcome, grounds_count, grounds_number, GroundsOutcome}
use Rattle.judge.specs.Judged.{judged, judged_number, judged_verdict}
use Rattle.proofcheck.specs.Checked.{checked, checked_number, checked_verdict}
use Rattle.search.specs.Outcome.{search_outcome, search_number, search_stages, search_steps, SearchOutcome}
use Rattle.layers.specs.Outcome.{layered_outcome, layered_count, layered_number, LayeredOutcome}
use Rattle.better.specs.Outcome.{choice_of, better_of, choice_number, which}
use Rattle.generator.specs.Outcome.{load_questions, load_outcome, load_count, load_number, LoadOutcome}
use Rattle.items.specs.Question as refusal
use Rattle.reader.specs.Accept as accepted

-- The number of the first no; none where every question gets yes.
abbrev pub first_number : List Question → Option ℕ
first_number qs = map refusal.number (first_no qs)

-- What an operation hands back: its number, every other value of its answer, and the buffers that were lent to it.
pub record Reply : Type 0 where
  pub number : ℕ
  pub counts : List ℕ
  pub left : List (List ℕ)

-- A call: the operation's questions in their order, with their answers; the numbers that it may refuse with; the buffers lent to it; its reply.
pub record Call : Type 0 where
  pub questions : List Question
  pub own : List ℕ
  pub lent : List (List ℕ)
  pub reply : Reply

-- The operation refuses with n exactly where n is the number of the first no. Then n is one of its own numbers, every count is 0, and every
-- lent buffer is as it was. Else the number is 0.
pub record RefusesExactly (c : Call) : Type 0 where
  pub refuses : (n : ℕ) → (first_number c.questions ≡ some n) ↔ ((c.reply.number ≡ n) × (0 < n))
  pub own_number : (n : ℕ) → first_number c.questions ≡ some n → mem n c.own ≡ true
  pub counts_zero : (n : ℕ) → first_number c.questions ≡ some n → all (eqb 0) c.reply.counts ≡ true
  pub lent_kept : (n : ℕ) → first_number c.questions ≡ some n → c.reply.left ≡ c.lent
  pub else_zero : ◌≡◌ {A = Option ℕ} (first_number c.questions) none → c.reply.number ≡ 0

-- Every public operation but the texts, which refuse nothing, as a call, from its inputs: its questions, its own numbers, what it is lent, and
-- its reply.

-- The numbers of the questions on a file, a list of rules, an order, a fact set, a proof row, the run's buffers, and of the search alone.
abbrev pub file_numbers : List ℕ
file_numbers = 1 ∷ 2 ∷ 3 ∷ 4 ∷ 5 ∷ 6 ∷ 7 ∷ 8 ∷ 9 ∷ 10 ∷ 51 ∷ 56 ∷ []

abbrev pub list_numbers : List ℕ
list_numbers = 11 ∷ 12 ∷ 13 ∷ []

abbrev pub order_numbers : List ℕ
order_numbers = list_numbers ++ (14 ∷ [])

abbrev pub set_numbers : List ℕ
set_numbers = 21 ∷ 22 ∷ []

abbrev pub row_numbers : List ℕ
row_numbers = 24 ∷ 23 ∷ []

abbrev pub buffer_numbers : List ℕ
buffer_numbers = 31 ∷ 32 ∷ 33 ∷ []

abbrev pub limit_numbers : List ℕ
limit_numbers = 34 ∷ 40 ∷ []

-- Of each operation that asks more than a file's questions.
abbrev pub run_numbers : List ℕ
run_numbers = file_numbers ++ (order_numbers ++ buffer_numbers)

abbrev pub grounds_numbers : List ℕ
grounds_numbers = run_numbers ++ (50 ∷ [])

abbrev pub judge_numbers : List ℕ
judge_numbers = file_numbers ++ (list_numbers ++ set_numbers)

abbrev pub check_numbers : List ℕ
check_numbers = file_numbers ++ (set_numbers ++ row_numbers)

abbrev pub search_numbers : List ℕ
search_numbers = file_numbers ++ (buffer_numbers ++ limit_numbers) ++ (41 ∷ [])

abbrev pub layered_numbers : List ℕ
layered_numbers = file_numbers ++ (34 ∷ 52 ∷ [])

abbrev pub better_numbers : List ℕ
better_numbers = file_numbers ++ order_numbers

-- Of the one that asks no file's.
abbrev pub load_numbers : List ℕ
load_numbers = 53 ∷ 54 ∷ 55 ∷ []

-- A call of an operation that is lent no buffer.
abbrev pub lent_nothing : List Question → List ℕ → ℕ → List ℕ → Call
lent_nothing questions own number counts =
    record { questions = questions; own = own; lent = []; reply = record { number = number; counts = counts; left = [] } }

-- `accept`
abbrev pub accept_call : List ℕ → Call
accept_call file =
    let a = accept_of file in
    lent_nothing (file_questions file) file_numbers (accept_number a)
    (accepted.facts a ∷ accepted.rules a ∷ accepted.exception_rules a ∷ accepted.constraints a ∷ [])

-- `Cursor::next`: the questions on the place where it stands.
abbrev pub place_numbers : Row → List ℕ
place_numbers Opening = 2 ∷ []
place_numbers Body = 3 ∷ 4 ∷ 5 ∷ []
place_numbers Order = 11 ∷ []
place_numbers Steps = 23 ∷ []

abbrev pub next_call : List ℕ → Cursor → Call
next_call bytes c =
    lent_nothing (place_questions c.row (front c.row (drop c.at bytes))) (place_numbers c.row) (read_number (next_at bytes c)) []

-- A refusal hands out the cursor as it was, and so does an end. Where no byte is left an order, a list and a proof row have ended.
pub record Stays (bytes : List ℕ) (c : Cursor) : Type 0 where
  pub refused : (r : Refusal) (here : Cursor) → next_at bytes c ≡ Refused r here → here ≡ c
  pub ended : (here : Cursor) → next_at bytes c ≡ Ended here → here ≡ c
  pub order_ends : c.row ≡ Order → length bytes ≤ c.at → next_at bytes c ≡ Ended c
  pub row_ends : c.row ≡ Steps → length bytes ≤ c.at → next_at bytes c ≡ Ended c

-- `ask_list`, `ask_order`, `ask_set` and `ask_row`: the answer to their questions.
abbrev pub ask_call : List Question → List ℕ → Call
ask_call questions own = lent_nothing questions own (answer_number (answer_of (first_no questions))) []

abbrev pub ask_list_call : List ℕ → List ℕ → Call
ask_list_call file list = ask_call (ask_list_questions file list) (file_numbers ++ list_numbers)

abbrev pub ask_order_call : List ℕ → List ℕ → Call
ask_order_call file order = ask_call (ask_order_questions file order) (file_numbers ++ order_numbers)

abbrev pub ask_set_call : List ℕ → List ℕ → Call
ask_set_call file set = ask_call (ask_set_questions file set) (file_numbers ++ set_numbers)

abbrev pub ask_row_call : List ℕ → ℕ → List ℕ → Call
ask_row_call file fact row = ask_call (ask_row_questions file fact row) (file_numbers ++ row_numbers)

-- `run`
abbrev pub run_replied : RunOutcome → Reply
run_replied o =
    record {
      number = run_number o.answer;
      counts = run_stages o.answer ∷ run_steps o.answer ∷ [];
      left = o.fact_marks ∷ o.rule_marks ∷ o.steps ∷ [];
    }

abbrev pub run_call : List ℕ → List ℕ → List ℕ → List ℕ → List ℕ → Call
run_call file order facts rules steps =
    record {
      questions = run_questions file order (length facts) (length rules) (length steps);
      own = run_numbers;
      lent = facts ∷ rules ∷ steps ∷ [];
      reply = run_replied (run_outcome file order facts rules steps);
    }

-- `grounds`
abbrev pub grounds_replied : GroundsOutcome → Reply
grounds_replied o =
    record {
      number = grounds_number o.answer;
      counts = grounds_count o.answer ∷ [];
      left = o.fact_marks ∷ o.rule_marks ∷ o.steps ∷ [];
    }

abbrev pub grounds_call : List ℕ → List ℕ → ℕ → List ℕ → List ℕ → List ℕ → Call
grounds_call file order fact facts rules steps =
    record {
      questions = grounds_questions file order fact (length facts) (length rules) (length steps);
      own = grounds_numbers;
      lent = facts ∷ rules ∷ steps ∷ [];
      reply = grounds_replied (grounds_outcome file order fact facts rules steps);
    }

-- `judge`
abbrev pub judge_call : List ℕ → List ℕ → List ℕ → Call
judge_call file list set =
    let a = judged file list set in
    lent_nothing (judge_questions file list set) judge_numbers (judged_number a) (judged_verdict a ∷ [])

-- `check`
abbrev pub check_call : List ℕ → List ℕ → ℕ → List ℕ → Call
check_call file set fact row =
    let a = checked file set fact row in
    lent_nothing (check_questions file set fact row) check_numbers (checked_number a) (checked_verdict a ∷ [])

-- `search`
abbrev pub search_replied : SearchOutcome → Reply
search_replied o =
    record {
      number = search_number o.answer;
      counts = search_stages o.answer ∷ search_steps o.answer ∷ [];
      left = o.fact_marks ∷ o.rule_marks ∷ o.steps ∷ o.order ∷ [];
    }

abbrev pub search_call : List ℕ → List ℕ → List ℕ → List ℕ → List ℕ → Call
search_call file facts rules steps order =
    record {
      questions = search_questions file (length facts) (length rules) (length steps) (length order);
      own = search_numbers;
      lent = facts ∷ rules ∷ steps ∷ order ∷ [];
      reply = search_replied (search_outcome file facts rules steps order);
    }

-- `layered`
abbrev pub layered_replied : LayeredOutcome → Reply
layered_replied o = record { number = layered_number o.answer; counts = layered_count o.answer ∷ []; left = o.order ∷ [] }

abbrev pub layered_call : List ℕ → List ℕ → Call
layered_call file order =
    record {
      questions = layered_questions file (length order);
      own = layered_numbers;
      lent = order ∷ [];
      reply = layered_replied (layered_outcome file order);
    }

-- `choose`
abbrev pub choose_call : List ℕ → List ℕ → List ℕ → Call
choose_call file first second =
    let a = choice_of file first second in
    lent_nothing (better_questions file first second) better_numbers (choice_number a) (which a ∷ [])

-- `better` and, on the same inputs, `better_number`: the number is that of the second; the first hands back so many bytes, 0 on a refusal.
abbrev pub better_call : List ℕ → List ℕ → List ℕ → Call
better_call file first second =
    lent_nothing (better_questions file first second) better_numbers (no_number (better_no file first second)) (length (better_of file first second) ∷ [])

-- `load`
abbrev pub load_replied : LoadOutcome → Reply
load_replied o = record { number = load_number o.answer; counts = load_count o.answer ∷ []; left = o.out ∷ [] }

abbrev pub load_call : ℕ → ℕ → ℕ → List ℕ → Call
load_call start facts rules out =
    record {
      questions = load_questions facts rules (length out);
      own = load_numbers;
      lent = out ∷ [];
      reply = load_replied (load_outcome start facts rules out);
    }
