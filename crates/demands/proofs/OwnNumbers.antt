-- Each question of an operation has one of the operation's own numbers.
use Prim.Native.Nat.{ℕ}
use mathlib.Core.Path.{◌≡◌, refl}
use mathlib.Core.Bool.{Bool, true}
use mathlib.Core.List.{List, [], ◌∷◌, ◌++◌}
use Rattle.theory.specs.Rule.{mem, Program, nothing, adjoin, count, exception}
use Rattle.theory.proofs.Bools.{or_right}
use Rattle.theory.proofs.Lists.{mem-append, mem-left}
use Rattle.cursors.specs.declared.cursor.Row.{Row}
use Rattle.cursors.specs.declared.cursor.Row.TheVariants.{Opening, Body, Order, Steps}
use Rattle.items.specs.Question as refusal
use Rattle.items.specs.Question.{Question}
use Rattle.cursors.specs.Cursor.{Token, place_questions}
use Rattle.items.specs.Item.{narrow}
use Rattle.reader.specs.Questions.{program_of, file_questions}
use Rattle.questions.specs.Questions.{named_in, names_questions, list_questions, order_questions, set_questions, row_questions, buffer_questions, run_questions, grounds_questions, judge_questions, check_questions, limit_questions, early_questions, search_questions, layered_questions, both_questions, better_questions}
use Rattle.generator.specs.Outcome.{load_questions}
use Rattle.reader.proofs.FileRefusals.{each_append, each-file}
use Rattle.demands.specs.Calls.{file_numbers, list_numbers, order_numbers, set_numbers, row_numbers, buffer_numbers, limit_numbers, place_numbers, run_numbers, grounds_numbers, judge_numbers, check_numbers, search_numbers, layered_numbers, better_numbers, load_numbers}
use Rattle.demands.proofs.RefusesExactly.{Own}

-- Questions behind one another have the numbers behind one another.
own-wider : (ns ms : List ℕ) → ((n : ℕ) → mem n ns ≡ true → mem n ms ≡ true) → (qs : List Question) → Own ns qs → Own ms qs
own-wider ns ms w [] o = tt
own-wider ns ms w (q ∷ qs) o = (w (refusal.number q.refusal) o.0, own-wider ns ms w qs o.1)

own-both : (ns ms : List ℕ) (xs ys : List Question) → Own ns xs → Own ms ys → Own (ns ++ ms) (xs ++ ys)
own-both ns ms xs ys o p =
    each_append _ xs ys (own-wider ns (ns ++ ms) (λ n. mem-left n ns ms) xs o) (own-wider ms (ns ++ ms) mem-right ys p)
  where
    mem-right : (n : ℕ) → mem n ms ≡ true → mem n (ns ++ ms) ≡ true
    mem-right n h = rw (mem-append n ns ms) (or_right (mem n ns) (mem n ms) h)

-- on a place of a row, and on a file
pub place_own : (row : Row) (t : Token) → Own (place_numbers row) (place_questions row t)
place_own Opening t = (refl, tt)
place_own Body t = (refl, (refl, (refl, tt)))
place_own Order t = (refl, tt)
place_own Steps t = (refl, tt)

pub file_own : (s : List ℕ) → Own file_numbers (file_questions s)
file_own s =
    each-file _
    (record { one = refl; two = refl; three = refl; four = refl; five = refl; six = refl; seven = refl; eight = refl; nine = refl; ten = refl; fifty_one = refl; fifty_six = refl })
    s

-- behind those of the file
pub after-file : (ns : List ℕ) (s : List ℕ) (qs : List Question) → Own ns qs → Own (file_numbers ++ ns) (file_questions s ++ qs)
after-file ns s qs o = own-both file_numbers ns (file_questions s) qs (file_own s) o

-- on a list, an order, a set, a proof row, the run's buffers and the search's limits
pub list_own : (known : ℕ → Bool) (list : List ℕ) → Own list_numbers (list_questions known list)
unfolding list_questions
list_own known list = (refl, names known nothing (named_in list))
  where
    names : (known seen : ℕ → Bool) (rs : List ℕ) → Own list_numbers (names_questions known seen rs)
    names known seen [] = tt
    names known seen (r ∷ rs) = (refl, (refl, names known (adjoin seen r) rs))

pub order-own : (known : ℕ → Bool) (n : ℕ) (order : List ℕ) → Own order_numbers (order_questions known n order)
unfolding order_questions
order-own known n order = own-both list_numbers (14 ∷ []) (list_questions known order) _ (list_own known order) (refl, tt)

pub set_own : (n : ℕ) (set : List ℕ) → Own set_numbers (set_questions n set)
unfolding set_questions
set_own n set = (refl, (refl, tt))

pub row-own : (n fact : ℕ) (row : List ℕ) → Own row_numbers (row_questions n fact row)
unfolding row_questions
row-own n fact row = (refl, (refl, tt))

pub buffers_own : (P : Program) (facts rules steps : ℕ) → Own buffer_numbers (buffer_questions narrow P facts rules steps)
unfolding buffer_questions
buffers_own P facts rules steps = (refl, (refl, (refl, tt)))

pub limits_own : (P : Program) (order : ℕ) → Own limit_numbers (limit_questions P order)
unfolding limit_questions
limits_own P order = (refl, (refl, tt))

-- on a run, the grounds for one fact, a judgement, a proof check, a search, the order by rank, two orders and a test load
pub run-own : (file order : List ℕ) (facts rules steps : ℕ) → Own run_numbers (run_questions file order facts rules steps)
unfolding run_questions
run-own file order facts rules steps =
    let P = program_of file in
    after-file (order_numbers ++ buffer_numbers) file _
    (own-both order_numbers buffer_numbers (order_questions (exception P) (count P) order) _ (order-own (exception P) (count P) order) (buffers_own P facts rules steps))

pub grounds_own : (file order : List ℕ) (fact facts rules steps : ℕ) → Own grounds_numbers (grounds_questions file order fact facts rules steps)
unfolding grounds_questions
grounds_own file order fact facts rules steps =
    own-both run_numbers (50 ∷ []) (run_questions file order facts rules steps) _ (run-own file order facts rules steps) (refl, tt)

pub judge_own : (file list set : List ℕ) → Own judge_numbers (judge_questions file list set)
unfolding judge_questions
judge_own file list set =
    let P = program_of file in
    after-file (list_numbers ++ set_numbers) file _
    (own-both list_numbers set_numbers (list_questions (exception P) list) _ (list_own (exception P) list) (set_own P.facts set))

pub check_own : (file set : List ℕ) (fact : ℕ) (row : List ℕ) → Own check_numbers (check_questions file set fact row)
unfolding check_questions
check_own file set fact row =
    let P = program_of file in
    after-file (set_numbers ++ row_numbers) file _
    (own-both set_numbers row_numbers (set_questions P.facts set) _ (set_own P.facts set) (row-own P.facts fact row))

pub search-own : (file : List ℕ) (facts rules steps order : ℕ) → Own search_numbers (search_questions file facts rules steps order)
unfolding search_questions early_questions
search-own file facts rules steps order =
    let P = program_of file in
    own-both (file_numbers ++ (buffer_numbers ++ limit_numbers)) (41 ∷ []) (early_questions file facts rules steps order) _
    (after-file (buffer_numbers ++ limit_numbers) file _
    (own-both buffer_numbers limit_numbers (buffer_questions narrow P facts rules steps) _ (buffers_own P facts rules steps) (limits_own P order)))
    (refl, tt)

pub layered_own : (file : List ℕ) (order : ℕ) → Own layered_numbers (layered_questions file order)
unfolding layered_questions
layered_own file order = after-file (34 ∷ 52 ∷ []) file _ (refl, (refl, tt))

pub better-own : (file first second : List ℕ) → Own better_numbers (better_questions file first second)
unfolding better_questions both_questions
better-own file first second =
    let P = program_of file in
    after-file order_numbers file _
    (each_append _ (order_questions (exception P) (count P) first) _ (order-own (exception P) (count P) first) (order-own (exception P) (count P) second))

pub load_own : (facts rules room : ℕ) → Own load_numbers (load_questions facts rules room)
unfolding load_questions
load_own facts rules room = (refl, (refl, (refl, tt)))
