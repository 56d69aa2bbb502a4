-- The bytes of an item that is written.
use Rattle.std.specs.Prelude.{ℕ, ◌+◌, ◌/◌, ◌%◌, List, [], ◌∷◌, ◌++◌, length, take, drop}
use Rattle.items.specs.declared.item.Item.{Item}
use Rattle.items.specs.declared.item.Item.TheVariants.{Facts, Opens, Premise, Constraint, Rules, Names, Step, Unread}
use Rattle.items.specs.Item.{narrow, Width, fact_id, rule_id, facts_kind, opens_kind, premise_kind, constraint_kind, rules_kind, names_kind, step_kind, unread_kind}

-- A fact number in its bytes, and a rule number, high byte first.
abbrev pub fact_field : Width → ℕ → List ℕ
fact_field narrow f = f ∷ []

abbrev pub rule_field : ℕ → List ℕ
rule_field r = r / 256 ∷ r % 256 ∷ []

-- The bytes of an item: its kind, then the body.
abbrev pub item_bytes : Width → Item → List ℕ
item_bytes w (Facts n) = facts_kind w ∷ fact_field w n
item_bytes w (Opens f) = opens_kind w ∷ fact_field w f.0
item_bytes w (Premise f) = premise_kind w ∷ fact_field w f.0
item_bytes w (Constraint f) = constraint_kind w ∷ fact_field w f.0
item_bytes w (Rules n) = rules_kind ∷ rule_field n
item_bytes w (Names r) = names_kind ∷ rule_field r.0
item_bytes w (Step f r) = step_kind w ∷ (fact_field w f.0 ++ rule_field r.0)
item_bytes w (Unread f) = unread_kind w ∷ fact_field w f.0

-- The bytes of items one after another.
abbrev pub bytes_of : Width → List Item → List ℕ
bytes_of w [] = []
bytes_of w (i ∷ is) = item_bytes w i ++ bytes_of w is

-- An item that names a rule, the same in every width, and a step.
abbrev pub rule_item : ℕ → List ℕ
rule_item r = names_kind ∷ rule_field r

abbrev pub step_item : Width → ℕ → ℕ → List ℕ
step_item w f r = item_bytes w (Step (fact_id f) (rule_id r))

-- s with the bytes of an item at a place; the others keep their contents
abbrev pub placed : List ℕ → ℕ → List ℕ → List ℕ
placed bytes at s = take at s ++ (bytes ++ drop (at + length bytes) s)

-- xs over the front of ys; past them ys keeps its contents
abbrev pub over : List ℕ → List ℕ → List ℕ
over xs ys = xs ++ drop (length xs) ys
