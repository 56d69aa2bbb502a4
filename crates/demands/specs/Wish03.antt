-- Document 02, wish 3, "Item lengths from a table".
use Rattle.std.specs.Prelude.{ℕ, ◌+◌, ◌<◌, ◌≤◌, ◌≡◌, Bool, true, false, cond, ◌||◌, List, [], ◌∷◌, ◌↔◌, length, get_or, eqb}
use Rattle.theory.specs.Rule.{mem}
use Rattle.items.specs.declared.item.Item.{Item}
use Rattle.items.specs.Item.{narrow, no_such_kind, body_length}
use Rattle.items.specs.Write.{item_bytes}
use Rattle.cursors.specs.declared.cursor.Row.{Row}
use Rattle.cursors.specs.declared.cursor.Row.TheVariants.{Opening, Body, Order, Steps}
use Rattle.cursors.specs.declared.cursor.Cursor.{Cursor}
use Rattle.cursors.specs.declared.cursor.Read.TheVariants.{Found}
use Rattle.cursors.specs.Cursor.{read_number, cursor_of, next_at}

-- A kind, and how many bytes of body follow it.
pub record Entry : Type 0 where
  pub kind : ℕ
  pub body : ℕ

abbrev pub entry : ℕ → ℕ → Entry
entry k n = record { kind = k; body = n }

-- The kinds of document 01 and of wish 6, as the README and the header show them. A later wish adds its own.
abbrev pub listed : List Entry
listed = entry 0x10 1 ∷ entry 0x01 1 ∷ entry 0x02 1 ∷ entry 0x03 1 ∷ entry 0x07 1 ∷ entry 0x1F 2 ∷ entry 0x05 2 ∷ entry 0x06 3 ∷ []

-- What the list gives a kind: the mark where it has no such kind.
abbrev pub length_in : List Entry → ℕ → ℕ
length_in [] k = no_such_kind
length_in (e ∷ es) k = cond (eqb k e.kind) e.body (length_in es k)

abbrev pub is_listed : List Entry → ℕ → Bool
is_listed [] k = false
is_listed (e ∷ es) k = eqb k e.kind || is_listed es k

-- The kinds that may stand in a row, and the number of the refusal where another one stands.
abbrev pub kinds_of : Row → List ℕ
kinds_of Opening = 0x10 ∷ []
kinds_of Body = 0x01 ∷ 0x02 ∷ 0x03 ∷ 0x1F ∷ 0x07 ∷ []
kinds_of Order = 0x05 ∷ []
kinds_of Steps = 0x06 ∷ []

abbrev pub other_kind : Row → ℕ
other_kind Opening = 2
other_kind Body = 4
other_kind Order = 11
other_kind Steps = 23

-- `wish_03` proves it. `body_length` is what `body_length` reads off the table.
pub record Wish03 : Type 0 where
  -- "It is shown over all 256 kinds to give the body length in document 01 or a later wish, or a mark where there is no such kind": the mark is nobody's length.
  pub each_kind : (k : ℕ) → body_length narrow k ≡ length_in listed k
  pub marked : (k : ℕ) → (body_length narrow k ≡ no_such_kind) ↔ (is_listed listed k ≡ false)
  -- One table: a read moves past the kind and as many bytes as it gives, which are all there, and so many are written.
  pub read : (s : List ℕ) (c d : Cursor) (i : Item) → next_at s c ≡ Found i d → (d.at ≡ c.at + 1 + length_in listed (get_or s c.at 0)) × (d.at ≤ length s)
  pub written : (i : Item) → length (item_bytes narrow i) ≡ 1 + length_in listed (get_or (item_bytes narrow i) 0 0)
  -- A row decides which kinds may stand in it. Each of them is listed; of the others none is read there, listed or not, whatever follows.
  pub row_listed : (row : Row) (k : ℕ) → mem k (kinds_of row) ≡ true → is_listed listed k ≡ true
  pub row_decides : (s : List ℕ) (c : Cursor) → c.at < length s → mem (get_or s c.at 0) (kinds_of c.row) ≡ false → (read_number (next_at s c) ≡ other_kind c.row) × (cursor_of (next_at s c) ≡ c)
