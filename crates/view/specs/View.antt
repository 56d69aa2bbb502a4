-- What the view of a rule gives: the premises and constraints that stand in a range of the file, one after another.
use Rattle.std.specs.Prelude.{ℕ, ◌+◌, ◌*◌, ◌≡◌, cond, List, [], ◌∷◌, length, get_or, ltb, Option, Some, None}
use Rattle.theory.specs.Rule.{rule}
use Rattle.items.specs.declared.item.FactId.{FactId}
use Rattle.items.specs.Item.{narrow, Sign, asks_in, asks_out, same_sign, OwnItem, class_of, where_said, item_width}
use Rattle.cursors.specs.Cursor.{Token, item, bad, items_at, file_start, body_at}
use Rattle.tables.specs.Layout.{place_in, program_in}
use Rattle.reader.specs.Questions.{premises_of, constraints_of, behind_rules}
use Rattle.view.specs.declared.range.Own.{Own}
use Rattle.view.specs.declared.range.Own.TheVariants as own
use Rattle.view.specs.declared.range.Taken.{Taken}
use Rattle.view.specs.declared.range.Range.{Range}

-- The place where these premises and constraints end that stand one after another from a place on.
abbrev pub end_of : ℕ → List ℕ → List ℕ → ℕ
end_of at premises constraints = at + item_width narrow * (length premises + length constraints)

-- Where those end that the file has from a place on, before an item of another kind.
unfoldable pub end_at : List ℕ → ℕ → ℕ
end_at s at = end_of at (premises_of (items_at s (body_at at))) (constraints_of (items_at s (body_at at)))

-- The range of a rule, by the tables.
pub record OwnRange (T : List ℕ) (i : ℕ) (r : Range) : Type 0 where
  pub begins : r.at ≡ place_in T i
  pub ends : r.end ≡ end_of (place_in T i) (rule (program_in T) i).premises (rule (program_in T) i).constraints

-- An item of a rule's own, by what it asks of its fact.
abbrev pub own_by : Sign → FactId → Own
own_by asks_in f = own.Premise f
own_by asks_out f = own.Constraint f

-- What the first of these items is to a rule.
abbrev pub own_of : List Token → Option Own
own_of [] = None
own_of (bad fault ∷ ts) = None
own_of (item i ∷ ts) = where_said (class_of i).own (λ o. Some (own_by o.sign o.fact)) None

-- The premise or constraint at the front of a range; none where the range is empty.
unfoldable pub own_at : List ℕ → ℕ → ℕ → Option Own
own_at s at end = cond (ltb at end) (own_of (items_at s (body_at at))) None

-- The item at the front of a range, and where what is left begins: past an item of a rule's own.
abbrev pub taken_of : Option Own → ℕ → Option Taken
taken_of (Some o) at = Some (record { item = o; rest = at + item_width narrow })
taken_of None at = None

abbrev pub taken_at : List ℕ → ℕ → ℕ → Option Taken
taken_at s at end = taken_of (own_at s at end) at

-- A rule's own items at the front of these, as they stand: premises and constraints, up to an item of another class.
abbrev pub own_items : List Token → List OwnItem
own_items [] = []
own_items (bad fault ∷ ts) = []
own_items (item i ∷ ts) = where_said (class_of i).own (λ o. o ∷ own_items ts) []

-- Those of rule i of a file: they stand behind the item that opens the rule.
abbrev pub items_of_rule : List ℕ → ℕ → List OwnItem
items_of_rule s i = own_items (get_or (behind_rules (items_at s file_start)) i [])

-- The facts of those that ask in, or out.
abbrev pub facts_asked : Sign → List OwnItem → List ℕ
facts_asked sign [] = []
facts_asked sign (o ∷ os) = cond (same_sign sign o.sign) (o.fact.0 ∷ facts_asked sign os) (facts_asked sign os)

-- The view of a range gives these items, each from what the one before left, and then none.
abbrev pub GivesEach : List ℕ → ℕ → ℕ → List OwnItem → Type 0
GivesEach s at end [] = ◌≡◌ {A = Option Taken} (taken_at s at end) None
GivesEach s at end (o ∷ os) =
    (t : Taken) × (taken_at s at end ≡ Some t) × (t.item ≡ own_by o.sign o.fact) × GivesEach s t.rest end os
