-- Internal: the tables of a program, in one array of numbers that is lent to whoever works on the program. The scan of an accepted file fills them;
-- above it no operation but the view of a rule looks at a byte of the file.
--
-- First the counts of facts and of rules; then for each rule its conclusion, the place in the file behind the item that opens it, where its
-- premises start, and where its constraints start; then for each fact whether it is unread, and for each rule whether it is withheld; then one row for the
-- premises of all rules, from the front, and the constraints of all rules, from the back.
use Rattle.std.specs.Prelude.{ℕ, zero, suc, ◌+◌, ◌-◌, ◌*◌, ◌<◌, ◌≤◌, ◌≡◌, Bool, ◌&&◌, List, [], ◌∷◌, map, get_or, eqb, ltb}
use Rattle.theory.specs.Rule.{up_to, Rule, Program, FactSet, withheld}
use Rattle.theory.specs.Conditions.{Bounded}
use Rattle.items.specs.Item.{narrow, max_facts, max_rules, max_rule_items}

-- The most premises and constraints of all rules of a file together, repeats counted.
abbrev pub max_own : ℕ
max_own = max_rule_items * max_rules

-- Where each part of the array begins.
abbrev pub facts_cell : ℕ
facts_cell = 0

abbrev pub rules_cell : ℕ
rules_cell = facts_cell + 1

abbrev pub conclusions_from : ℕ
conclusions_from = rules_cell + 1

abbrev pub places_from : ℕ
places_from = conclusions_from + max_rules

abbrev pub premise_starts_from : ℕ
premise_starts_from = places_from + max_rules

abbrev pub constraint_starts_from : ℕ
constraint_starts_from = premise_starts_from + (max_rules + 1)

abbrev pub unread_from : ℕ
unread_from = constraint_starts_from + (max_rules + 1)

abbrev pub withheld_from : ℕ
withheld_from = unread_from + max_facts narrow

abbrev pub own_from : ℕ
own_from = withheld_from + max_rules

abbrev pub table_cells : ℕ
table_cells = own_from + max_own

abbrev pub last_cell : ℕ
last_cell = table_cells - 1

-- What stands there.
abbrev pub facts_in : List ℕ → ℕ
facts_in T = get_or T facts_cell 0

abbrev pub rules_in : List ℕ → ℕ
rules_in T = get_or T rules_cell 0

abbrev pub conclusion_in : List ℕ → ℕ → ℕ
conclusion_in T i = get_or T (conclusions_from + i) 0

abbrev pub place_in : List ℕ → ℕ → ℕ
place_in T i = get_or T (places_from + i) 0

abbrev pub premise_start : List ℕ → ℕ → ℕ
premise_start T i = get_or T (premise_starts_from + i) 0

abbrev pub constraint_start : List ℕ → ℕ → ℕ
constraint_start T i = get_or T (constraint_starts_from + i) 0

-- the facts that are marked as unread, of so many facts, and the rules that are marked as withheld
abbrev pub unread_in : List ℕ → ℕ → FactSet
unread_in T facts f = ltb f facts && eqb (get_or T (unread_from + f) 0) 1

abbrev pub withheld_in : List ℕ → ℕ → Bool
withheld_in T i = eqb (get_or T (withheld_from + i) 0) 1

-- the premise, and the constraint, at place j of their row
abbrev pub premise_at : List ℕ → ℕ → ℕ
premise_at T j = get_or T (own_from + j) 0

abbrev pub constraint_at : List ℕ → ℕ → ℕ
constraint_at T j = get_or T (last_cell - j) 0

-- n elements of a row from place a on
abbrev pub listed : (ℕ → ℕ) → ℕ → ℕ → List ℕ
listed row a zero = []
listed row a (suc n) = row a ∷ listed row (suc a) n

-- the elements of a row from place a up to place b
abbrev pub span : (ℕ → ℕ) → ℕ → ℕ → List ℕ
span row a b = listed row a (b - a)

-- The rule numbered i, and the program, that the tables hold.
unfoldable pub rule_in : List ℕ → ℕ → Rule
rule_in T i =
    record {
      conclusion = conclusion_in T i;
      premises = span (premise_at T) (premise_start T i) (premise_start T (i + 1));
      constraints = span (constraint_at T) (constraint_start T i) (constraint_start T (i + 1));
    }

unfoldable pub program_in : List ℕ → Program
program_in T = record { facts = facts_in T; rules = map (rule_in T) (up_to (rules_in T)); unread = unread_in T (facts_in T) }

-- The premises of a rule, or its constraints, are the elements of their row from one place up to another, each a fact of the program.
pub record Spanned (facts : ℕ) (row : ℕ → ℕ) (elements : List ℕ) (from end : ℕ) : Type 0 where
  pub is : elements ≡ span row from end
  pub low : from ≤ end
  pub high : end ≤ max_own
  pub facts_below : (j : ℕ) → from ≤ j → j < end → row j < facts

-- The parts of n rules follow one another in their row.
pub record Spans (start : ℕ → ℕ) (n : ℕ) : Type 0 where
  pub low : (i : ℕ) → i < n → start i ≤ start (i + 1)
  pub high : (i : ℕ) → i < n → start (i + 1) ≤ max_own

-- The tables hold a program within the limits of a file.
pub record WellFormed (T : List ℕ) : Type 0 where
  pub facts_few : facts_in T < max_facts narrow
  pub rules_few : rules_in T ≤ max_rules
  pub premise_spans : Spans (premise_start T) (rules_in T)
  pub constraint_spans : Spans (constraint_start T) (rules_in T)
  pub in_bounds : Bounded (program_in T)
  pub marks_withheld : (i : ℕ) → i < rules_in T → withheld_in T i ≡ withheld (program_in T) i
