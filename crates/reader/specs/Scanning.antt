-- Internal: what the scan has done where it stands at an item of the body: its verdict, its tables, its counts, and what is unread.
use Rattle.std.specs.Prelude.{ℕ, zero, suc, ◌+◌, ◌*◌, ◌<◌, ◌≤◌, ◌≡◌, Bool, false, cond, not, ◌&&◌, ◌||◌, List, [], ◌∷◌, ◌++◌, length, get_or, drop, eqb, leb, Result, Ok, Err, Some, None, Option}
use Rattle.theory.specs.Rule.{any, mem, how_many, up_to, Rule, FactSet, blank, null}
use Rattle.items.specs.declared.item.FactId.{FactId}
use Rattle.items.specs.declared.item.Item.{Item}
use Rattle.items.specs.declared.item.Item.TheVariants.{Unread}
use Rattle.cursors.specs.declared.cursor.Cursor.{Cursor}
use Rattle.cursors.specs.declared.cursor.Row.TheVariants.{Body}
use Rattle.cursors.specs.declared.cursor.Read.TheVariants.{Found}
use Rattle.items.specs.Item.{narrow, max_facts, max_rules, max_rule_items, max_bytes, has}
use Rattle.items.specs.Question.{first_no}
use Rattle.cursors.specs.Cursor.{Token, next_at, items_at}
use Rattle.stores.specs.Stores.{is_unread}
use Rattle.tables.specs.Layout.{table_cells, facts_in, rules_in, unread_in, withheld_in, conclusion_in, place_in, premise_start, constraint_start, premise_at, constraint_at, span, WellFormed}
use Rattle.reader.specs.declared.answer.FileCounts.{FileCounts}
use Rattle.items.specs.declared.refusal.Refusal.{Refusal}
use Rattle.items.specs.declared.refusal.Refusal.TheVariants.{FactTooHigh, NoRuleOpened, RuleTooLong, UnreadAfterRule}
use Rattle.reader.specs.declared.step.Progress.{Progress}
use Rattle.reader.specs.Questions.{premises_of, constraints_of, rules_of, behind_rules, unread_of, body_questions, Scan}
use Rattle.reader.specs.Asked.{asked_of, counts_of}
use Rattle.reader.specs.Scanned.{RuleAt}
use Rattle.reader.specs.BodyScanned.{program_from, body_no, BodyScanned}

-- The count of facts, the rules opened so far, and the premises and constraints of the last of them.
abbrev pub seen : ℕ → ℕ → ℕ → Scan
seen facts n own = record { facts = facts; rules = n; own = own }

-- A walk along the body: what is to come gives the first no of the whole.
pub record Along (s : List ℕ) (c₀ : Cursor) (facts : ℕ) (c : Cursor) (n own : ℕ) : Type 0 where
  pub body : c.row ≡ Body
  pub same : body_no facts s c₀ ≡ first_no (body_questions (seen facts n own) (items_at s c))

-- What a premise or a constraint gets where none is allowed: no rule is opened, or the last of n rules has as many as it may.
abbrev pub none_allowed : ℕ → Refusal
none_allowed n = cond (eqb n 0) NoRuleOpened RuleTooLong

-- One row of the tables, the premises of all rules or their constraints: the parts of the rules before the last are whole, and what is read of the
-- last goes on with what is ahead.
pub record Filled (part : ℕ → List ℕ) (start row : ℕ → ℕ) (n at : ℕ) (ahead : List ℕ) : Type 0 where
  pub low : (i : ℕ) → i + 1 < n → start i ≤ start (i + 1)
  pub high : (i : ℕ) → i + 1 < n → start (i + 1) ≤ at
  pub done : (i : ℕ) → i + 1 < n → span row (start i) (start (i + 1)) ≡ part i
  pub last_low : (i : ℕ) → i + 1 ≡ n → start i ≤ at
  pub last : (i : ℕ) → i + 1 ≡ n → span row (start i) at ++ ahead ≡ part i

-- The rule numbered i of those from a cursor on.
abbrev pub rule_from : List ℕ → Cursor → ℕ → Rule
rule_from s c i = get_or (rules_of (items_at s c)) i blank

pub record Storing (s : List ℕ) (c₀ c : Cursor) (T : List ℕ) (n allowance filled barred : ℕ) : Type 0 where
  -- the rules to come, and what stands behind the opening item of each
  pub passed : drop n (rules_of (items_at s c₀)) ≡ rules_of (items_at s c)
  pub behind : drop n (behind_rules (items_at s c₀)) ≡ behind_rules (items_at s c)
  pub total : length (rules_of (items_at s c₀)) ≡ n + length (rules_of (items_at s c))
  pub few : n ≤ max_rules
  pub size : length T ≡ table_cells
  -- the counts are stored last
  pub no_facts : facts_in T ≡ 0
  pub no_rules : rules_in T ≡ 0
  pub conclusions : (i : ℕ) → i < n → conclusion_in T i ≡ (rule_from s c₀ i).conclusion
  pub places : (i : ℕ) → i < n → RuleAt s c₀ (place_in T i) i
  pub premises : Filled (λ i. (rule_from s c₀ i).premises) (premise_start T) (premise_at T) n filled (premises_of (items_at s c))
  pub constraints : Filled (λ i. (rule_from s c₀ i).constraints) (constraint_start T) (constraint_at T) n barred (constraints_of (items_at s c))
  -- the last rule may have so many more
  pub within : filled + barred + allowance ≤ max_rule_items * n

-- k is a constraint of some of the rules
abbrev pub constrained : List Rule → ℕ → Bool
constrained [] k = false
constrained (r ∷ rs) k = mem k r.constraints || constrained rs k

-- how many of the rules have a constraint
abbrev pub with_constraint : List Rule → ℕ
with_constraint [] = 0
with_constraint (r ∷ rs) = cond (not (null r.constraints)) (suc (with_constraint rs)) (with_constraint rs)

-- the constraints ahead, once a rule is opened that has them
abbrev pub owned_by : ℕ → List ℕ → List ℕ
owned_by zero fs = []
owned_by (suc n) fs = fs

-- k is a constraint that is to come, of the last of n rules or of a later one
abbrev pub to_come : ℕ → List Token → ℕ → Bool
to_come n ts k = mem k (owned_by n (constraints_of ts)) || constrained (rules_of ts) k

-- What is counted where so many facts are unread: a fact that is marked is read and a constraint of some rule, withheld or not.
pub record Counting (facts : ℕ) (s : List ℕ) (c₀ c : Cursor) (unread : FactSet) (marks : List ℕ) (n exceptions plain : ℕ) : Type 0 where
  pub rules : with_constraint (rules_of (items_at s c₀)) ≡ exceptions + (cond (null (owned_by n (constraints_of (items_at s c)))) 0 plain + with_constraint (rules_of (items_at s c)))
  pub few : exceptions + plain ≤ n
  pub size : length marks ≡ max_facts narrow
  pub marks_show : (k : ℕ) → not (unread k) && constrained (rules_of (items_at s c₀)) k ≡ has marks k || not (unread k) && to_come n (items_at s c) k
  pub unread_shown : (k : ℕ) → k < max_facts narrow → is_unread marks k ≡ unread k
  pub none_marked : n ≡ 0 → (k : ℕ) → has marks k ≡ false

-- What is told of the unread facts, and of the rules that are withheld, of n rules opened.
pub record Holding (facts : ℕ) (s : List ℕ) (c₀ c : Cursor) (T : List ℕ) (n : ℕ) : Type 0 where
  -- those marked, and those to come, are all that the file names
  pub named : (f : ℕ) → mem f (unread_of (items_at s c₀)) ≡ unread_in T facts f || mem f (unread_of (items_at s c))
  -- each rule before the last, the last with the constraints ahead of it, and those that are not opened yet
  pub done : (i : ℕ) → i + 1 < n → withheld_in T i ≡ any (unread_in T facts) (rule_from s c₀ i).constraints
  pub last : (i : ℕ) → i + 1 ≡ n → withheld_in T i || any (unread_in T facts) (constraints_of (items_at s c)) ≡ any (unread_in T facts) (rule_from s c₀ i).constraints
  pub later : (i : ℕ) → n ≤ i → i < max_rules → withheld_in T i ≡ false

pub record Scanning (facts : ℕ) (s : List ℕ) (c₀ : Cursor) (T marks : List ℕ) (c : Cursor) (p : Progress) : Type 0 where
  -- the premises and constraints that the rule last opened has so far
  pub own : ℕ
  pub left : (p.rules ≡ 0 → ⊥) → own + p.allowance ≡ max_rule_items
  pub verdict : Along s c₀ facts c p.rules own
  pub tables : Storing s c₀ c T p.rules p.allowance p.filled p.barred
  pub counts : Counting facts s c₀ c (unread_in T facts) marks p.rules p.exceptions p.plain
  pub withheld : Holding facts s c₀ c T p.rules

-- No rule is opened yet.
abbrev pub unopened : Progress
unopened = record { rules = 0; allowance = 0; filled = 0; barred = 0; exceptions = 0; plain = 0 }

-- An unread fact that the scan of the rules meets stands behind a rule, or is too high: the others are taken before it.
abbrev pub Late : ℕ → Item → Progress → Type 0
Late facts i p = (f : FactId) → i ≡ Unread f → p.rules ≡ 0 → facts ≤ f.0

abbrev pub late_no : ℕ → FactId → Refusal
late_no facts f = cond (leb facts f.0) FactTooHigh UnreadAfterRule

-- The unread facts from c₀ up to c are taken, and no more are to come before a rule.
pub record UnreadTaken (facts : ℕ) (s : List ℕ) (c₀ : Cursor) (T marks : List ℕ) (c : Cursor) : Type 0 where
  pub scanned : Scanning facts s c₀ T marks c unopened
  pub rest_late : (i : Item) (d : Cursor) → next_at s c ≡ Found i d → Late facts i unopened

-- What the scan of the body promises. The tables hold a program whatever the answer.
abbrev pub Answered : ℕ → List ℕ → Cursor → List ℕ → Result FileCounts Refusal → Type 0
Answered facts s c₀ T r = (r ≡ asked_of (body_no facts s c₀) (counts_of (program_from facts s c₀))) × BodyScanned facts s c₀ T × WellFormed T

-- The counts of a file that ends where so much is read, and so many facts are marked.
abbrev pub counts_read : ℕ → List ℕ → Progress → FileCounts
counts_read facts marks p = record { facts = facts; rules = p.rules; exceptions = p.exceptions; constrained = how_many (has marks) (up_to facts) }

-- An item is scanned: the scan stands at the next one, or it is over. p is what was read before.
pub record Stepped (facts : ℕ) (s : List ℕ) (c₀ : Cursor) (T marks : List ℕ) (d : Cursor) (p : Progress) (r : Result (Option Progress) Refusal) : Type 0 where
  pub on : (q : Progress) → r ≡ Ok (Some q) → Scanning facts s c₀ T marks d q
  pub opened : (q : Progress) → r ≡ Ok (Some q) → q.rules ≡ 0 → ⊥
  pub ended : r ≡ Ok None → Answered facts s c₀ T (Ok (counts_read facts marks p))
  pub refused : (n : Refusal) → r ≡ Err n → Answered facts s c₀ T (Err n)

-- So it is in every file that has the item where the scan stands. T and marks are those before, T' and marks' those after.
abbrev pub Scans : ℕ → List ℕ → Item → Cursor → Progress → List ℕ → List ℕ → List ℕ → List ℕ → Result (Option Progress) Refusal → Type 0
Scans facts s i d p T marks T' marks' r =
    (c₀ c : Cursor) → length s ≤ max_bytes → facts < max_facts narrow → Scanning facts s c₀ T marks c p → next_at s c ≡ Found i d → Stepped facts s c₀ T' marks' d p r

-- There is room for what an item stores that ends at d.
pub record Room (facts : ℕ) (d : Cursor) (p : Progress) : Type 0 where
  pub small : facts < max_facts narrow
  pub place : d.at ≤ max_bytes
  pub within : p.filled + p.barred + p.allowance ≤ max_rule_items * p.rules
  pub rules : p.rules ≤ max_rules
  pub exceptions : p.exceptions + p.plain ≤ p.rules
