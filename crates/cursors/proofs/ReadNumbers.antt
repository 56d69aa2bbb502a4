-- A read in numbers.
use Prim.Native.Nat.{ℕ, ◌<◌}
use native.Mathlib.Omega.{arith}
use mathlib.Core.Path.{◌≡◌, refl, sym, ap}
use mathlib.Core.List.{List}
use mathlib.Core.Option.{Option, none, some}
use lib.ListN.{drop}
use Rattle.items.specs.declared.refusal.Refusal.{Refusal}
use Rattle.items.specs.declared.item.Item.{Item}
use Rattle.cursors.specs.declared.cursor.Row.{Row}
use Rattle.cursors.specs.declared.cursor.Row.TheVariants.{Opening, Body, Order, Steps}
use Rattle.cursors.specs.declared.cursor.Cursor.{Cursor}
use Rattle.cursors.specs.declared.cursor.Read.{Read}
use Rattle.items.specs.Question.{first_no, no_number}
use Rattle.cursors.specs.Cursor as read
use Rattle.cursors.specs.Cursor.{Token, item, bad, front, past, place_questions, stayed, read_of, next_at, ReadNumbers, read_number}

-- where a whole item stands every question gets yes
item_asked : (row : Row) (i : Item) → ◌≡◌ {A = Option Refusal} (first_no (place_questions row (item i))) none
item_asked Opening i = refl
item_asked Body i = refl
item_asked Order i = refl
item_asked Steps i = refl

module _ (s : List ℕ) (c : Cursor) where
  pub read_numbers : ReadNumbers s c (next_at s c)
  unfolding next_at
  read_numbers = record { numbered = numbered (front c.row (drop c.at s)); kept = kept (front c.row (drop c.at s)) }
    where
      stayed-number : (o : Option Refusal) → read_number (stayed o c) ≡ no_number o
      stayed-number none = refl
      stayed-number (some r) = refl

      stayed-there : (o : Option Refusal) → read.cursor_of (stayed o c) ≡ c
      stayed-there none = refl
      stayed-there (some r) = refl

      numbered : (t : Token) → read_number (read_of t (past s c) c) ≡ no_number (first_no (place_questions c.row t))
      numbered (item i) = sym (ap no_number (item_asked c.row i))
      numbered (bad fault) = stayed-number (first_no (place_questions c.row (bad fault)))

      kept : (t : Token) → 0 < read_number (read_of t (past s c) c) → read.cursor_of (read_of t (past s c) c) ≡ c
      kept (item i) l = absurd (omega arith)
      kept (bad fault) l = stayed-there (first_no (place_questions c.row (bad fault)))

  -- a read that is the one defined, in numbers
  pub read_numbered : (r : Read) → r ≡ next_at s c → ReadNumbers s c r
  read_numbered r e = rw e read_numbers
