-- The questions of an operation after those on its file.
use Prim.Native.Nat.{ℕ, ◌*◌, ◌≤◌, ◌<◌}
use mathlib.Core.Path.{◌≡◌, refl, sym, ap, fun_ext, ◌∙◌}
use mathlib.Core.Bool.{Bool, true, false, cond, not, ◌||◌}
use mathlib.Core.List.{List, [], ◌∷◌, ◌++◌}
use mathlib.Core.Logic.{⊎_elim}
use mathlib.Core.Option.{Option, none, some}
use borrow.Author.Tests.{eqb-true, eq-eqb, ne_eqb, lt-ltb, le-ltb, lt-leb, le-leb}
use lib.ListN.{length, replicate}
use lib.Dec.{eqb}
use Rattle.theory.specs.Rule.{all, mem, up_to, nothing, adjoin, Program, count, exception}
use Rattle.theory.proofs.Bools.{never, false_of_not, or-false_right, both_ways}
use Rattle.theory.proofs.Lists.{mem-cases, all-elem, up_to-mem}
use Rattle.items.specs.declared.refusal.Refusal.{Refusal}
use Rattle.items.specs.declared.refusal.Refusal.TheVariants.{NotRuleItems, NotAllNamed, WrongSetLength, NotZeroOrOne, NotStepItems, AskedFactTooHigh, FactMarksShort, RuleMarksShort, StepsShort}
use Rattle.cursors.specs.Cursor.{items_at, order_start, steps_start}
use Rattle.reader.specs.declared.answer.FileCounts.{FileCounts}
use Rattle.items.specs.Item.{narrow, step_width, max_rules, has}
use Rattle.reader.specs.Questions.{program_of, file_questions, file_no}
use Rattle.items.specs.Question.{Question, first_no, no_number}
use Rattle.tables.specs.Layout.{program_in}
use Rattle.reader.specs.Asked.{file_asked}
use Rattle.reader.specs.Scanned.{Tabled, Scanned}
use Rattle.items.proofs.FirstNo.{first-no, first-yes, both_yes}
use Rattle.reader.proofs.Accepted.{all_asked}
use Rattle.reader.proofs.FileAsked.{file-no, file_yes}
use Rattle.std.specs.Prelude.{Result, Ok, Err, ⊤}
use Rattle.questions.specs.Questions.{whole, named_in, name_questions, names_questions, all_named_question, list_questions, order_questions, zero_or_one, set_questions, row_questions, order_no, buffer_questions, buffers_no, ask_list_questions, ask_order_questions, ask_set_questions, ask_row_questions}
use Rattle.questions.specs.Parts.{list_no, set_no, row_no}
use Rattle.items.specs.Answer.{answer_number}
use Rattle.questions.specs.Answer.{answer_of, AnswerNumbers}
use Rattle.questions.specs.Named.{AllNamed, Listed}
use Rattle.marking.proofs.MarksPainted.{unmarked}
use Rattle.questions.proofs.NamesAsked.{said_yes, said_no}

-- An answer that is the one defined, in numbers.
pub answer_numbered : (qs : List Question) (r : Result ⊤ Refusal) → r ≡ answer_of (first_no qs) → (r ≡ answer_of (first_no qs)) × AnswerNumbers qs r
answer_numbered qs r e = (e, record { numbered = ap answer_number e ∙ go (first_no qs) })
  where
    go : (o : Option Refusal) → answer_number (answer_of o) ≡ no_number o
    go none = refl
    go (some q) = refl

module _ (s : List ℕ) (rest : List Question) where
  pub file_refused : (r : Refusal) → file_asked s ≡ Err r → first_no (file_questions s ++ rest) ≡ some r
  file_refused r e = first-no (file_questions s) rest r (file-no s r e)

  pub file_accepted : ◌≡◌ {A = Option Refusal} (file_no s) none → first_no (file_questions s ++ rest) ≡ first_no rest
  file_accepted e = first-yes (file_questions s) rest e

-- What a scan with the answer yes leaves.
pub record Passed (s T : List ℕ) : Type 0 where
  pub accepted : ◌≡◌ {A = Option Refusal} (file_no s) none
  pub tabled : Tabled s T

pub scan_passed : (s T : List ℕ) (counts : FileCounts) → file_asked s ≡ Ok counts → Scanned s T → Passed s T
scan_passed s T counts e h =
    let y = (file_yes s counts e).accepted in
    record { accepted = y; tabled = h y }

-- The ways of the questions on a fact set.
module _ (n : ℕ) (set : List ℕ) where
  pub wrong_length : (length set ≡ n → ⊥) → set_no n set ≡ some WrongSetLength
  unfolding set_questions
  wrong_length h = rw (ne_eqb (length set) n h)

  module _ (l : length set ≡ n) where
    pub not-bits : zero_or_one set ≡ false → set_no n set ≡ some NotZeroOrOne
    unfolding set_questions
    not-bits z = rw (eq-eqb (length set) n l, z)

    pub bits : zero_or_one set ≡ true → set_no n set ≡ none
    unfolding set_questions
    bits z = rw (eq-eqb (length set) n l, z)

-- The ways of the questions on a proof row.
module _ (n fact : ℕ) (row : List ℕ) where
  pub fact_too_high : n ≤ fact → row_no n fact row ≡ some AskedFactTooHigh
  unfolding row_questions
  fact_too_high h = rw (le-ltb fact n h)

  module _ (l : fact < n) where
    pub not-steps : whole (items_at row steps_start) ≡ false → row_no n fact row ≡ some NotStepItems
    unfolding row_questions
    not-steps w = rw (lt-ltb fact n l, w)

    pub steps : whole (items_at row steps_start) ≡ true → row_no n fact row ≡ none
    unfolding row_questions
    steps w = rw (lt-ltb fact n l, w)

-- The ways of the questions on a list of rules and on an order.
module _ (known : ℕ → Bool) (row : List ℕ) where
  pub not-names : whole (items_at row order_start) ≡ false → list_no known row ≡ some NotRuleItems
  unfolding list_questions
  not-names w = rw w

  pub list_refused : (n : ℕ) (r : Refusal) → list_no known row ≡ some r → order_no known n row ≡ some r
  unfolding order_questions
  list_refused n r e = first-no (list_questions known row) _ r e

  -- 14 is asked where the answer to the list is yes
  pub order-refused : (n : ℕ) (r : Refusal) → Err r ≡ answer_of (list_no known row) → Err r ≡ answer_of (order_no known n row)
  order-refused n r e = sym (ap answer_of (list_refused n r (said_no (list_no known row) r e)))

  pub order-answered : (n : ℕ) (named : List ℕ) (answer : Result ⊤ Refusal) (b : Bool) → answer ≡ answer_of (list_no known row) → Ok tt ≡ answer → Listed row named answer → b ≡ all (λ i. not (known i) || has named i) (up_to n) → answer_of (cond b none (some NotAllNamed)) ≡ answer_of (order_no known n row)
  unfolding order_questions
  order-answered n named answer b a q m e = sym (rw (first-yes (list_questions known row) (all_named_question known n row ∷ []) (said_yes (list_no known row) (q ∙ a)), ← same))
    where
      names : has named ≡ (λ i. mem i (named_in row))
      names = rw (← q) at m

      same : b ≡ all (λ i. not (known i) || mem i (named_in row)) (up_to n)
      same = e ∙ ap (λ (seen : ℕ → Bool). all (λ i. not (known i) || seen i) (up_to n)) names

-- The answer to the items of a row, with a table that is empty before.
module _ (row before : List ℕ) (z : ◌≡◌ {A = List ℕ} before (replicate max_rules 0)) where
  none_seen : has before ≡ nothing
  none_seen = ap has z ∙ unmarked max_rules

  pub list_answered : (known : ℕ → Bool) → whole (items_at row order_start) ≡ true → (answer : Result ⊤ Refusal) → answer ≡ answer_of (first_no (names_questions known (has before) (named_in row))) → answer ≡ answer_of (list_no known row)
  unfolding list_questions
  list_answered known w answer a = a ∙ ap (λ (seen : ℕ → Bool). answer_of (first_no (names_questions known seen (named_in row)))) none_seen ∙ rw w

  pub all_listed : (now : List ℕ) (answer : Result ⊤ Refusal) → AllNamed (named_in row) before now answer → Listed row now answer
  all_listed now (Ok u) m = fun_ext (λ i. m i ∙ ap (λ (seen : ℕ → Bool). seen i || mem i (named_in row)) none_seen)
  all_listed now (Err r) m = m

-- The ways of the questions on the buffers.
module _ (P : Program) (facts rules steps : ℕ) where
  pub facts-short : facts < P.facts → buffers_no narrow P facts rules steps ≡ some FactMarksShort
  unfolding buffer_questions
  facts-short h = rw (lt-leb P.facts facts h)

  module _ (f : P.facts ≤ facts) where
    pub rules-short : rules < count P → buffers_no narrow P facts rules steps ≡ some RuleMarksShort
    unfolding buffer_questions
    rules-short h = rw (le-leb P.facts facts f, lt-leb (count P) rules h)

    module _ (r : count P ≤ rules) where
      pub steps-short : steps < step_width narrow * P.facts → buffers_no narrow P facts rules steps ≡ some StepsShort
      unfolding buffer_questions
      steps-short h = rw (le-leb P.facts facts f, le-leb (count P) rules r, lt-leb (step_width narrow * P.facts) steps h)

      pub large_enough : step_width narrow * P.facts ≤ steps → buffers_no narrow P facts rules steps ≡ none
      unfolding buffer_questions
      large_enough h = rw (le-leb P.facts facts f, le-leb (count P) rules r, le-leb (step_width narrow * P.facts) steps h)

-- The ways of the questions on an order, with others behind them.
module _ (P : Program) (order : List ℕ) (rest : List Question) where
  pub order-no : (r : Refusal) → Err r ≡ answer_of (order_no (exception P) (count P) order) → Err r ≡ answer_of (first_no (order_questions (exception P) (count P) order ++ rest))
  order-no r e =
      sym (ap answer_of (first-no (order_questions (exception P) (count P) order) rest r (said_no (order_no (exception P) (count P) order) r e)))

  pub order-yes : Ok tt ≡ answer_of (order_no (exception P) (count P) order) → (answer : Result ⊤ Refusal) → answer ≡ answer_of (first_no rest) → answer ≡ answer_of (first_no (order_questions (exception P) (count P) order ++ rest))
  order-yes e answer q =
      q ∙ sym (ap answer_of (first-yes (order_questions (exception P) (count P) order) rest (said_yes (order_no (exception P) (count P) order) e)))

-- What an operation asks of an accepted file, with what was read of it.
module _ (s : List ℕ) (yes_all : ◌≡◌ {A = Option Refusal} (file_no s) none) where
  pub set-questions : (set : List ℕ) (n : ℕ) → n ≡ (program_of s).facts → set_no n set ≡ first_no (ask_set_questions s set)
  unfolding ask_set_questions
  set-questions set n e = ap (λ (m : ℕ). set_no m set) e ∙ sym (file_accepted s _ yes_all)

  pub row-questions : (fact : ℕ) (row : List ℕ) (n : ℕ) → n ≡ (program_of s).facts → row_no n fact row ≡ first_no (ask_row_questions s fact row)
  unfolding ask_row_questions
  row-questions fact row n e = ap (λ (m : ℕ). row_no m fact row) e ∙ sym (file_accepted s _ yes_all)

  module _ (T : List ℕ) (held : program_in T ≡ program_of s) where
    pub list-questions : (list : List ℕ) → list_no (exception (program_in T)) list ≡ first_no (ask_list_questions s list)
    unfolding ask_list_questions
    list-questions list = ap (λ (P : Program). list_no (exception P) list) held ∙ sym (file_accepted s _ yes_all)

    pub order-questions : (order : List ℕ) → order_no (exception (program_in T)) (count (program_in T)) order ≡ first_no (ask_order_questions s order)
    unfolding ask_order_questions
    order-questions order = ap (λ (P : Program). order_no (exception P) (count P) order) held ∙ sym (file_accepted s _ yes_all)

-- What a yes to all tells of a fact set, of a list of rules and of an order.
pub yes_to_set : (n : ℕ) (set : List ℕ) → ◌≡◌ {A = Option Refusal} (set_no n set) none → (length set ≡ n) × (zero_or_one set ≡ true)
unfolding set_questions
yes_to_set n set e =
    let a = all_asked _ (eqb (length set) n) _ e in
    (eqb-true _ _ a.0, (all_asked _ (zero_or_one set) _ a.1).0)

-- each rule named passes the test, and none that was seen before is named
names-pass : (known seen : ℕ → Bool) (rs : List ℕ) → ◌≡◌ {A = Option Refusal} (first_no (names_questions known seen rs)) none → (i : ℕ) → mem i rs ≡ true → (known i ≡ true) × (seen i ≡ false)
names-pass known seen [] e i m = never m refl
names-pass known seen (r ∷ rs) e i m =
    ⊎_elim here
    (λ h.
    let later = names-pass known (adjoin seen r) rs first.1 i h in
    (later.0, or-false_right (eqb i r) (seen i) later.1))
    (mem-cases i r rs m)
  where
    first : (◌≡◌ {A = Option Refusal} (first_no (name_questions known seen r)) none) × (◌≡◌ {A = Option Refusal} (first_no (names_questions known (adjoin seen r) rs)) none)
    first = both_yes (name_questions known seen r) (names_questions known (adjoin seen r) rs) e

    here : i ≡ r → (known i ≡ true) × (seen i ≡ false)
    here q =
        let a = all_asked _ (known r) _ first.0 in
        rw q (a.0, false_of_not (seen r) (all_asked _ (not (seen r)) none a.1).0)

pub yes_to_list : (known : ℕ → Bool) (row : List ℕ) → ◌≡◌ {A = Option Refusal} (list_no known row) none → (i : ℕ) → mem i (named_in row) ≡ true → known i ≡ true
unfolding list_questions
yes_to_list known row e i m = (names-pass known nothing (named_in row) (all_asked _ (whole (items_at row order_start)) _ e).1 i m).0

pub yes_to_order : (known : ℕ → Bool) (n : ℕ) (row : List ℕ) → ◌≡◌ {A = Option Refusal} (order_no known n row) none → (i : ℕ) → i < n → mem i (named_in row) ≡ known i
unfolding order_questions
yes_to_order known n row e i h = both_ways (mem i (named_in row)) (known i) (yes_to_list known row parts.0 i) back
  where
    parts : (◌≡◌ {A = Option Refusal} (list_no known row) none) × (◌≡◌ {A = Option Refusal} (first_no (all_named_question known n row ∷ [])) none)
    parts = both_yes (list_questions known row) (all_named_question known n row ∷ []) e

    named : not (known i) || mem i (named_in row) ≡ true
    named = all-elem (λ j. not (known j) || mem j (named_in row)) (up_to n) (all_asked _ (all (λ j. not (known j) || mem j (named_in row)) (up_to n)) _ parts.1).0 i (up_to-mem n i h)

    back : known i ≡ true → mem i (named_in row) ≡ true
    back k = rw k at named
