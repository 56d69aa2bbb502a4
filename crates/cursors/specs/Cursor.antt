-- One item read at a cursor, and all the items of a row from a cursor on.
use Rattle.std.specs.Prelude.{ℕ, zero, suc, ◌+◌, ◌<◌, ◌≡◌, Bool, true, false, cond, not, ◌||◌, List, [], ◌∷◌, length, get_or, take, drop, eqb, leb}
use Rattle.std.proofs.Math.Option.{Option, none, some}
use Rattle.items.specs.declared.refusal.Refusal.{Refusal}
use Rattle.items.specs.declared.refusal.Refusal.TheVariants.{NoFactCount, FileCutOff, UnknownKind, BodyCutOff, NotRuleItems, NotStepItems}
use Rattle.items.specs.Question as refusal
use Rattle.items.specs.Question.{Question, ask, first_no, no_number}
use Rattle.items.specs.declared.item.Item.{Item}
use Rattle.cursors.specs.declared.cursor.Row.{Row}
use Rattle.cursors.specs.declared.cursor.Row.TheVariants.{Opening, Body, Order, Steps}
use Rattle.cursors.specs.declared.cursor.Fault.{Fault}
use Rattle.cursors.specs.declared.cursor.Fault.TheVariants.{NoByte, OtherKind, ShortBody}
use Rattle.cursors.specs.declared.cursor.Cursor.{Cursor}
use Rattle.cursors.specs.declared.cursor.Read.{Read}
use Rattle.cursors.specs.declared.cursor.Read.TheVariants.{Found, Refused, Ended}
use Rattle.items.specs.Item.{narrow, Width, facts_kind, opens_kind, premise_kind, constraint_kind, rules_kind, names_kind, step_kind, unread_kind, body_length, width_of, item_of}

-- The width of the fact numbers in a row.
abbrev pub width_in : Row → Width
width_in Opening = narrow
width_in Body = narrow
width_in Order = narrow
width_in Steps = narrow

-- The kinds of each row.
abbrev pub of_row : Row → ℕ → Bool
of_row Opening k = eqb k (facts_kind (width_in Opening))
of_row Body k =
    eqb k (opens_kind (width_in Body))
    || (eqb k (premise_kind (width_in Body)) || (eqb k (constraint_kind (width_in Body)) || (eqb k rules_kind || eqb k (unread_kind (width_in Body)))))
of_row Order k = eqb k names_kind
of_row Steps k = eqb k (step_kind (width_in Steps))

-- The row of the next item: the body of a file follows its opening.
abbrev pub row_after : Row → Row
row_after Opening = Body
row_after Body = Body
row_after Order = Order
row_after Steps = Steps

-- A whole item, or what is wrong where none stands.
pub data Token : Type 0 where
  item : Item → Token
  bad : Fault → Token

-- What stands at the front of the bytes that are left of a row: is there a byte, is its kind of the row, is the body whole?
unfoldable pub front : Row → List ℕ → Token
front row [] = bad NoByte
front row (k ∷ bs) =
    cond (of_row row k)
    (cond (leb (body_length (width_in row) k) (length bs)) (item (item_of (width_in row) k (take (body_length (width_in row) k) bs))) (bad ShortBody))
    (bad OtherKind)

-- The three answers. There is no kind without a byte, and no whole body without a kind of the row.
abbrev pub has_byte : Token → Bool
has_byte (item i) = true
has_byte (bad NoByte) = false
has_byte (bad OtherKind) = true
has_byte (bad ShortBody) = true

abbrev pub has_kind : Token → Bool
has_kind (item i) = true
has_kind (bad NoByte) = false
has_kind (bad OtherKind) = false
has_kind (bad ShortBody) = true

abbrev pub has_body : Token → Bool
has_body (item i) = true
has_body (bad fault) = false

-- The questions on one place of a row: in the opening of a file 2, in its body 3, 4 and 5, in an order or list 11, in a proof row 23. Past the
-- last whole item of an order, a list or a proof row nothing is wrong: it ends there.
abbrev pub place_questions : Row → Token → List Question
place_questions Opening t = ask NoFactCount (has_body t) ∷ []
place_questions Body t = ask FileCutOff (has_byte t) ∷ ask UnknownKind (has_kind t) ∷ ask BodyCutOff (has_body t) ∷ []
place_questions Order t = ask NotRuleItems (not (has_byte t) || has_body t) ∷ []
place_questions Steps t = ask NotStepItems (not (has_byte t) || has_body t) ∷ []

-- The cursor past the item that stands at it.
abbrev pub past : List ℕ → Cursor → Cursor
past s c = record { at = c.at + width_of (width_in c.row) (get_or s c.at 0); row = row_after c.row }

-- Where no item is read the cursor stays: the row ends there, or the first no is the refusal.
abbrev pub stayed : Option Refusal → Cursor → Read
stayed none here = Ended here
stayed (some r) here = Refused r here

-- An item is handed out with the cursor past it.
abbrev pub read_of : Token → Cursor → Cursor → Read
read_of (item i) next here = Found i next
read_of (bad fault) next here = stayed (first_no (place_questions here.row (bad fault))) here

-- What a read finds.
unfoldable pub next_at : List ℕ → Cursor → Read
next_at s c = read_of (front c.row (drop c.at s)) (past s c) c

-- The number of a read, 0 unless it is refused, and the cursor that it hands out.
abbrev pub read_number : Read → ℕ
read_number (Found i next) = 0
read_number (Ended here) = 0
read_number (Refused r here) = refusal.number r

abbrev pub cursor_of : Read → Cursor
cursor_of (Found i next) = next
cursor_of (Ended here) = here
cursor_of (Refused r here) = here

-- The first no on the place where a cursor stands.
abbrev pub place_no : List ℕ → Cursor → Option Refusal
place_no s c = first_no (place_questions c.row (front c.row (drop c.at s)))

-- A read in numbers: the number of the first no on its place; and a refusal hands out the cursor as it was.
pub record ReadNumbers (s : List ℕ) (c : Cursor) (r : Read) : Type 0 where
  pub numbered : read_number r ≡ no_number (place_no s c)
  pub kept : 0 < read_number r → cursor_of r ≡ c

-- Nothing is read where no item stands.
abbrev pub followed : Token → List Token → List Token
followed (item i) rest = item i ∷ rest
followed (bad fault) rest = bad fault ∷ []

-- The items of a row; the first n bytes still belong to the item before.
abbrev pub items_in : Row → ℕ → List ℕ → List Token
items_in row n [] = []
items_in row (suc n) (b ∷ bs) = items_in row n bs
items_in row zero (k ∷ bs) = followed (front row (k ∷ bs)) (items_in (row_after row) (body_length (width_in row) k) bs)

-- The items from a cursor on. Nothing above this file looks at bytes.
unfoldable pub items_at : List ℕ → Cursor → List Token
items_at s c = items_in c.row 0 (drop c.at s)

-- No item is left: the row ends there.
abbrev pub ended : List Token → Bool
ended [] = true
ended (t ∷ ts) = false

-- Where a row begins.
abbrev pub start_of : Row → Cursor
start_of row = record { at = 0; row = row }

-- Where a file begins.
abbrev pub file_start : Cursor
file_start = start_of Opening

-- Where an order, a list or a proof row begins.
abbrev pub order_start : Cursor
order_start = start_of Order

abbrev pub steps_start : Cursor
steps_start = start_of Steps

-- A place in the body of a file.
abbrev pub body_at : ℕ → Cursor
body_at p = record { at = p; row = Body }
