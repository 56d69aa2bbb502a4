-- Internal: the tables, and the marks of facts, after each store of the scan.
use Rattle.std.specs.Prelude.{ℕ, ◌+◌, ◌-◌, Bool, cond, List, get_or, set, eqb}
use Rattle.tables.specs.Layout.{facts_cell, rules_cell, unread_from, withheld_from, conclusions_from, places_from, premise_starts_from, constraint_starts_from}

-- the premises of rule i start at place a of their row, its constraints at place b of theirs
abbrev pub with_starts : List ℕ → ℕ → ℕ → ℕ → List ℕ
with_starts T i a b = set (set T (premise_starts_from + i) a) (constraint_starts_from + i) b

-- and it has the conclusion f, and its other items stand from place p of the file on
abbrev pub with_rule : List ℕ → ℕ → ℕ → ℕ → ℕ → ℕ → List ℕ
with_rule T i f p a b = with_starts (set (set T (conclusions_from + i) f) (places_from + i) p) i a b

-- n facts and m rules, whose premises and constraints end at a and b
abbrev pub with_counts : List ℕ → ℕ → ℕ → ℕ → ℕ → List ℕ
with_counts T n m a b = set (set (with_starts T m a b) facts_cell n) rules_cell m

-- the fact f is unread
abbrev pub with_unread : List ℕ → ℕ → List ℕ
with_unread T f = set T (unread_from + f) 1

-- the last of n rules is withheld where one of its constraints is unread
abbrev pub withholding : List ℕ → ℕ → Bool → List ℕ
withholding T n unread = cond unread (set T (withheld_from + (n - 1)) 1) T

-- The scan's marks of facts: 1 (the mark of `has`) on a constraint of some rule that is read, 2 on an unread fact.
abbrev pub unread_mark : ℕ
unread_mark = 2

unfoldable pub is_unread : List ℕ → ℕ → Bool
is_unread marks f = eqb (get_or marks f 0) unread_mark

-- the marks with a constraint f
abbrev pub with_mark : List ℕ → ℕ → List ℕ
with_mark marks f = cond (is_unread marks f) marks (set marks f 1)
