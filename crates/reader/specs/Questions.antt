-- The program that a file's items mean, and the questions on a file: 1 to 10, in the order of document 01 ("Questions before a result"), 51 right
-- after 7 (document 02, wish 2), and 56 after 6 (document 02, wish 6).
use Rattle.std.specs.Prelude.{ℕ, ◌+◌, List, [], ◌∷◌, ◌++◌, cond, length, eqb, ltb, leb}
use Rattle.theory.specs.Rule.{mem, Rule, Program, how_many, up_to, count, exception, constraint_fact, in_force}
use Rattle.items.specs.declared.item.FactId.{FactId}
use Rattle.items.specs.Item.{max_bytes, max_rules, max_rule_items, Sign, asks_in, asks_out, same_sign, class_of, where_said}
use Rattle.cursors.specs.Cursor.{Token, item, bad, items_at, file_start, place_questions, ended}
use Rattle.std.proofs.Math.Option.{Option}
use Rattle.items.specs.declared.refusal.Refusal.{Refusal}
use Rattle.items.specs.declared.refusal.Refusal.TheVariants.{FileTooLong, FactTooHigh, NoRuleOpened, TooManyRules, WrongRuleCount, BytesAfterEnd, RuleTooLong, UnreadAfterRule}
use Rattle.cursors.specs.declared.cursor.Row.TheVariants.{Opening, Body}
use Rattle.cursors.specs.declared.cursor.Fault.TheVariants.{NoByte, OtherKind}
use Rattle.items.specs.Question.{Question, ask, first_no}

-- The facts that the items of the rule just opened ask in, or out: of those of its own items that stand before an item of another class.
abbrev pub own_facts : Sign → List Token → List ℕ
own_facts sign [] = []
own_facts sign (bad fault ∷ ts) = []
own_facts sign (item i ∷ ts) =
    where_said (class_of i).own (λ o. cond (same_sign sign o.sign) (o.fact.0 ∷ own_facts sign ts) (own_facts sign ts)) []

-- Its premises, and its constraints.
abbrev pub premises_of : List Token → List ℕ
premises_of ts = own_facts asks_in ts

abbrev pub constraints_of : List Token → List ℕ
constraints_of ts = own_facts asks_out ts

-- The rule that an item opens, with the items after that one.
abbrev pub rule_of : FactId → List Token → Rule
rule_of f ts = record { conclusion = f.0; premises = premises_of ts; constraints = constraints_of ts }

-- A rule for each item that opens one.
abbrev pub rules_of : List Token → List Rule
rules_of [] = []
rules_of (bad fault ∷ ts) = []
rules_of (item i ∷ ts) = where_said (class_of i).opens (λ f. rule_of f ts ∷ rules_of ts) (rules_of ts)

-- What stands behind each item that opens a rule: its own items as they stand in the file, and all that follows.
abbrev pub behind_rules : List Token → List (List Token)
behind_rules [] = []
behind_rules (bad fault ∷ ts) = []
behind_rules (item i ∷ ts) = where_said (class_of i).opens (λ f. ts ∷ behind_rules ts) (behind_rules ts)

-- The facts that could not be read: those that some item names as such, repeats counted.
abbrev pub unread_of : List Token → List ℕ
unread_of [] = []
unread_of (bad fault ∷ ts) = []
unread_of (item i ∷ ts) = where_said (class_of i).unread (λ f. f.0 ∷ unread_of ts) (unread_of ts)

-- The count of facts that the first item gives.
abbrev pub fact_count : List Token → ℕ
fact_count [] = 0
fact_count (bad fault ∷ ts) = 0
fact_count (item i ∷ ts) = where_said (class_of i).facts (λ n. n) 0

-- The program of an accepted file.
abbrev pub program_of : List ℕ → Program
program_of s =
    record {
      facts = fact_count (items_at s file_start);
      rules = rules_of (items_at s file_start);
      unread = λ f. mem f (unread_of (items_at s file_start));
    }

-- How many exception rules a program has.
unfoldable pub exceptions : Program → ℕ
exceptions P = how_many (exception P) (up_to (count P))

-- How many constraint facts: those of the rules in force.
unfoldable pub constraint_facts : Program → ℕ
constraint_facts P = how_many (constraint_fact P (in_force P)) (up_to P.facts)

-- What the questions need of the items before: the count of facts, how many rules were opened, and how many premises and constraints the last of them has so far.
pub record Scan : Type 0 where
  pub facts : ℕ
  pub rules : ℕ
  pub own : ℕ

-- The last rule has none when it is opened, and one more with each item of its own, repeats counted.
abbrev pub fresh : ℕ → Scan
fresh n = record { facts = n; rules = 0; own = 0 }

abbrev pub opened : Scan → Scan
opened scan = record { facts = scan.facts; rules = scan.rules + 1; own = 0 }

abbrev pub lengthened : Scan → Scan
lengthened scan = record { facts = scan.facts; rules = scan.rules; own = scan.own + 1 }

-- Fact below the count? Does it stand before the first rule? Has a rule been opened? Has it fewer premises and constraints than the most before it? Fewer
-- rules than the most before it? Does it give the number of rules? Does the file end there?
abbrev pub fact_question : Scan → FactId → Question
fact_question scan f = ask FactTooHigh (ltb f.0 scan.facts)

abbrev pub unread_question : Scan → Question
unread_question scan = ask UnreadAfterRule (eqb scan.rules 0)

abbrev pub owner_question : Scan → Question
owner_question scan = ask NoRuleOpened (ltb 0 scan.rules)

abbrev pub length_question : Scan → Question
length_question scan = ask RuleTooLong (ltb scan.own max_rule_items)

abbrev pub room_question : Scan → Question
room_question scan = ask TooManyRules (ltb scan.rules max_rules)

abbrev pub count_question : Scan → ℕ → Question
count_question scan n = ask WrongRuleCount (eqb n scan.rules)

abbrev pub end_question : List Token → Question
end_question ts = ask BytesAfterEnd (ended ts)

-- Questions 3 to 10, 51 and 56 of each item after the first, in a file of which so much has been seen. An item of another row's kind gets no to 4.
abbrev pub body_questions : Scan → List Token → List Question
body_questions scan [] = place_questions Body (bad NoByte)
body_questions scan (bad fault ∷ ts) = place_questions Body (bad fault)
body_questions scan (item i ∷ ts) =
    where_said (class_of i).opens (λ f. place_questions Body (item i) ++ (fact_question scan f ∷ room_question scan ∷ body_questions (opened scan) ts))
    (where_said (class_of i).own (λ o. place_questions Body (item i) ++ (fact_question scan o.fact ∷ owner_question scan ∷ length_question scan ∷ body_questions (lengthened scan) ts))
    (where_said (class_of i).rules (λ n. place_questions Body (item i) ++ (count_question scan n ∷ end_question ts ∷ []))
    (where_said (class_of i).unread (λ f. place_questions Body (item i) ++ (fact_question scan f ∷ unread_question scan ∷ body_questions scan ts))
    (place_questions Body (bad OtherKind)))))

-- Question 2, and the others where it gets yes.
abbrev pub opening_questions : List Token → List Question
opening_questions [] = place_questions Opening (bad NoByte)
opening_questions (bad fault ∷ ts) = place_questions Opening (bad fault)
opening_questions (item i ∷ ts) =
    where_said (class_of i).facts (λ n. place_questions Opening (item i) ++ body_questions (fresh n) ts) (place_questions Opening (bad OtherKind))

-- The questions on a file, 1 to 10, 51 and 56. A file is accepted (document 01) where each gets yes.
unfoldable pub file_questions : List ℕ → List Question
file_questions s = ask FileTooLong (leb (length s) max_bytes) ∷ opening_questions (items_at s file_start)

-- The first no that a file gets.
abbrev pub file_no : List ℕ → Option Refusal
file_no s = first_no (file_questions s)
