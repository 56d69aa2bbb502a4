-- The width of a fact number, the kinds of items, the length of each kind's body, the item that a kind and a body give, what it says, and what a fact set is (document 01, "Facts, rules and
-- the file").
use Rattle.std.specs.Prelude.{ℕ, suc, ◌+◌, ◌-◌, ◌*◌, ◌^◌, Bool, true, false, cond, ◌||◌, ◌&&◌, List, [], ◌∷◌, length, get_or, take, drop, eqb, ltb}
use Rattle.std.proofs.Math.Option.{Option, none, some}
use Rattle.items.specs.declared.item.FactId.{FactId}
use Rattle.items.specs.declared.item.RuleId.{RuleId}
use Rattle.items.specs.declared.item.Kind.{Kind}
use Rattle.items.specs.declared.item.Item.{Item}
use Rattle.items.specs.declared.item.Item.TheVariants.{Facts, Opens, Premise, Constraint, Rules, Names, Step, Unread}

-- Facts and rules are counted separately, each from 0: a fact number and a rule number are different types.
abbrev pub fact_id : ℕ → FactId
fact_id n = record { 0 = n }

abbrev pub rule_id : ℕ → RuleId
rule_id n = record { 0 = n }

-- How wide the fact numbers of a file are: narrow is one byte.
pub data Width : Type 0 where
  narrow : Width

-- The bytes of a fact number or a count of facts, and of a rule number or a count of rules.
abbrev pub fact_bytes : Width → ℕ
fact_bytes narrow = 1

abbrev pub rule_bytes : ℕ
rule_bytes = 2

-- Every fact number is below this.
abbrev pub max_facts : Width → ℕ
max_facts w = 256 ^ fact_bytes w

-- The byte of an item that gives its kind.
abbrev pub kind_bytes : ℕ
kind_bytes = 1

-- The widths of the items of a file that name a fact (its first item too), of its last, of an order's items and of a step.
abbrev pub item_width : Width → ℕ
item_width w = kind_bytes + fact_bytes w

abbrev pub last_width : ℕ
last_width = kind_bytes + rule_bytes

abbrev pub name_width : ℕ
name_width = kind_bytes + rule_bytes

abbrev pub step_width : Width → ℕ
step_width w = kind_bytes + (fact_bytes w + rule_bytes)

-- The most rules of a file (questions 8 and 9), and its most bytes (question 1).
abbrev pub max_rules : ℕ
max_rules = 512

abbrev pub max_bytes : ℕ
max_bytes = 32767

-- The most premise and constraint items of one rule, repeats counted (question 51).
abbrev pub max_rule_items : ℕ
max_rule_items = 24

-- The most constraint facts that the search takes (question 40).
abbrev pub max_guessed : ℕ
max_guessed = 16

-- The kinds; each that names a fact, or counts facts, by the width. Of a file: its count of facts, an unread fact (document 02, wish 6), a rule opened, a
-- premise, a constraint, its count of rules.
abbrev pub facts_kind : Width → ℕ
facts_kind narrow = 0x10

abbrev pub unread_kind : Width → ℕ
unread_kind narrow = 0x07

abbrev pub opens_kind : Width → ℕ
opens_kind narrow = 0x01

abbrev pub premise_kind : Width → ℕ
premise_kind narrow = 0x02

abbrev pub constraint_kind : Width → ℕ
constraint_kind narrow = 0x03

abbrev pub rules_kind : ℕ
rules_kind = 0x1F

-- Beside a file: a rule's name in an order or a list, and a step of a proof.
abbrev pub names_kind : ℕ
names_kind = 0x05

abbrev pub step_kind : Width → ℕ
step_kind narrow = 0x06

-- The byte that stands for a kind.
abbrev pub kind_number : Kind → ℕ
kind_number Kind.Opens = opens_kind narrow
kind_number Kind.Premise = premise_kind narrow
kind_number Kind.Constraint = constraint_kind narrow
kind_number Kind.Names = names_kind
kind_number Kind.Step = step_kind narrow
kind_number Kind.Unread = unread_kind narrow
kind_number Kind.Facts = facts_kind narrow
kind_number Kind.Rules = rules_kind

-- A mark in the place of a length, where there is no such kind.
abbrev pub no_such_kind : ℕ
no_such_kind = 255

-- The length of the body that follows a kind: the one place that fixes it.
unfoldable pub body_length : Width → ℕ → ℕ
body_length w k =
    cond (eqb k (facts_kind w) || (eqb k (opens_kind w) || (eqb k (premise_kind w) || (eqb k (constraint_kind w) || eqb k (unread_kind w))))) (fact_bytes w)
    (cond (eqb k rules_kind || eqb k names_kind) rule_bytes
    (cond (eqb k (step_kind w)) (fact_bytes w + rule_bytes)
    no_such_kind))

-- The bytes of an item: its kind, then the body.
abbrev pub width_of : Width → ℕ → ℕ
width_of w k = suc (body_length w k)

-- A number of several bytes, high byte first.
abbrev pub big_endian : List ℕ → ℕ
big_endian [] = 0
big_endian (b ∷ bs) = b * 256 ^ length bs + big_endian bs

-- The body of a step: a fact number, then a rule number in the last bytes.
abbrev pub step_fact : List ℕ → ℕ
step_fact body = big_endian (take (length body - rule_bytes) body)

abbrev pub step_rule : List ℕ → ℕ
step_rule body = big_endian (drop (length body - rule_bytes) body)

-- The item of one of the kinds above with a body. No row has another kind.
unfoldable pub item_of : Width → ℕ → List ℕ → Item
item_of w k body =
    cond (eqb k (facts_kind w)) (Facts (big_endian body))
    (cond (eqb k (opens_kind w)) (Opens (fact_id (big_endian body)))
    (cond (eqb k (premise_kind w)) (Premise (fact_id (big_endian body)))
    (cond (eqb k (constraint_kind w)) (Constraint (fact_id (big_endian body)))
    (cond (eqb k rules_kind) (Rules (big_endian body))
    (cond (eqb k names_kind) (Names (rule_id (big_endian body)))
    (cond (eqb k (unread_kind w)) (Unread (fact_id (big_endian body)))
    (Step (fact_id (step_fact body)) (rule_id (step_rule body)))))))))

-- What a rule asks of the fact that an item of its own names: a premise asks it in, a constraint asks it out.
pub data Sign : Type 0 where
  asks_in : Sign
  asks_out : Sign

abbrev pub same_sign : Sign → Sign → Bool
same_sign asks_in asks_in = true
same_sign asks_in asks_out = false
same_sign asks_out asks_in = false
same_sign asks_out asks_out = true

pub record OwnItem : Type 0 where
  pub sign : Sign
  pub fact : FactId

pub record StepItem : Type 0 where
  pub fact : FactId
  pub rule : RuleId

-- The count of facts; the conclusion of a rule that is opened; an item of a rule's own; the count of rules; a rule that is named; a step; an unread fact. A
-- field is none where an item says no such thing.
pub record Class : Type 0 where
  pub facts : Option ℕ
  pub opens : Option FactId
  pub own : Option OwnItem
  pub rules : Option ℕ
  pub names : Option RuleId
  pub step : Option StepItem
  pub unread : Option FactId

abbrev pub class_of : Item → Class
class_of (Facts n) = record { facts = some n; opens = none; own = none; rules = none; names = none; step = none; unread = none }
class_of (Opens f) = record { facts = none; opens = some f; own = none; rules = none; names = none; step = none; unread = none }
class_of (Premise f) = record { facts = none; opens = none; own = some (record { sign = asks_in; fact = f }); rules = none; names = none; step = none; unread = none }
class_of (Constraint f) = record { facts = none; opens = none; own = some (record { sign = asks_out; fact = f }); rules = none; names = none; step = none; unread = none }
class_of (Rules n) = record { facts = none; opens = none; own = none; rules = some n; names = none; step = none; unread = none }
class_of (Names r) = record { facts = none; opens = none; own = none; rules = none; names = some r; step = none; unread = none }
class_of (Step f r) = record { facts = none; opens = none; own = none; rules = none; names = none; step = some (record { fact = f; rule = r }); unread = none }
class_of (Unread f) = record { facts = none; opens = none; own = none; rules = none; names = none; step = none; unread = some f }

-- What follows from what an item says, and else what follows where it says no such thing.
abbrev pub where_said : {A B : Type 0} → Option A → (A → B) → B → B
where_said (some a) then otherwise = then a
where_said none then otherwise = otherwise

-- A fact set, and any row of marks, is the set of the places that hold 1.
unfoldable pub has : List ℕ → ℕ → Bool
has bytes f = eqb (get_or bytes f 0) 1

-- the numbers below n that have the mark
unfoldable pub marked : ℕ → ℕ → List ℕ → ℕ → Bool
marked n mark bytes i = ltb i n && eqb (get_or bytes i 0) mark
