-- Items that are written: what the stores leave, and that reading gives back what was written.
use Prim.Native.Nat.{ℕ, ◌+◌, ◌*◌, ◌/◌, ◌%◌, ◌≤◌}
use mathlib.Core.Path.{◌≡◌, refl, ap, ap₂, subst, ◌∙◌}
use mathlib.Core.Bool.{true}
use mathlib.Core.List.{List, [], ◌∷◌, ◌++◌, map}
use native.Mathlib.Omega.{arith}
use borrow.Author.Tests.{le-leb}
use lib.ListN.{length, get_or, take, drop}
use lib.Seq.{drop_at, length-take-le}
use Rattle.items.specs.declared.item.Item.{Item}
use Rattle.items.specs.declared.item.Item.TheVariants.{Facts, Opens, Premise, Constraint, Rules, Names, Step, Unread}
use Rattle.cursors.specs.declared.cursor.Row.{Row}
use Rattle.cursors.specs.declared.cursor.Row.TheVariants.{Opening, Body, Order, Steps}
use Rattle.cursors.specs.declared.cursor.Cursor.{Cursor}
use Rattle.cursors.specs.declared.cursor.Read.TheVariants.{Found}
use Rattle.items.specs.Item.{fact_id, rule_id, body_length, width_of, item_of}
use Rattle.cursors.specs.Cursor.{width_in, of_row, row_after, Token, item, front, next_at, items_in, items_at, order_start, steps_start}
use Rattle.items.specs.Write.{item_bytes, bytes_of, rule_item, step_item, placed}
use Rattle.cursors.proofs.Items.{cut, skip}
use Rattle.cursors.proofs.EachKind.{row_in}

-- What stands at the place.
after : (vs l : List ℕ) (at : ℕ) → at ≤ length l → drop at (placed vs at l) ≡ vs ++ drop (at + length vs) l
after vs l at h = drop_at (take at l) (vs ++ drop (at + length vs) l) at (length-take-le at l h)

-- A read where a whole item of the row stands.
read_whole : (s : List ℕ) (c : Cursor) (k : ℕ) (bs : List ℕ) → drop c.at s ≡ k ∷ bs → of_row c.row k ≡ true → body_length (width_in c.row) k ≤ length bs → next_at s c ≡ Found (item_of (width_in c.row) k (take (body_length (width_in c.row) k) bs)) (record { at = c.at + width_of (width_in c.row) k; row = row_after c.row })
unfolding next_at front
read_whole s c k bs q ours fits =
    let kind : get_or s c.at 0 ≡ k = (cut s c.at k bs q).0 in
    rw (q, ours, le-leb _ _ fits, kind)

two_digits : (r : ℕ) → r / 256 * 256 + (r % 256 * 1 + 0) ≡ r
two_digits r = omega arith

one_digit : (f : ℕ) → f * 1 + 0 ≡ f
one_digit f = omega arith

-- The kind and the body of an item that is written.
abbrev kind_of : Item → ℕ
kind_of i = get_or (item_bytes (width_in (row_in i)) i) 0 0

abbrev body_of : Item → List ℕ
body_of i = drop 1 (item_bytes (width_in (row_in i)) i)

-- What was written is the item again, whatever follows it.
record ReadsBack (i : Item) (ys : List ℕ) : Type 0 where
  ours : of_row (row_in i) (kind_of i) ≡ true
  whole : body_length (width_in (row_in i)) (kind_of i) ≤ length (body_of i ++ ys)
  value : item_of (width_in (row_in i)) (kind_of i) (take (body_length (width_in (row_in i)) (kind_of i)) (body_of i ++ ys)) ≡ i
  rest : drop (body_length (width_in (row_in i)) (kind_of i)) (body_of i ++ ys) ≡ ys

reads_back : (i : Item) (ys : List ℕ) → ReadsBack i ys
unfolding item_of body_length
reads_back (Facts n) ys = record { ours = refl; whole = omega arith; value = ap Facts (one_digit n); rest = refl }
reads_back (Opens f) ys = record { ours = refl; whole = omega arith; value = ap (λ (n : ℕ). Opens (fact_id n)) (one_digit f.0); rest = refl }
reads_back (Premise f) ys = record { ours = refl; whole = omega arith; value = ap (λ (n : ℕ). Premise (fact_id n)) (one_digit f.0); rest = refl }
reads_back (Constraint f) ys = record { ours = refl; whole = omega arith; value = ap (λ (n : ℕ). Constraint (fact_id n)) (one_digit f.0); rest = refl }
reads_back (Rules n) ys = record { ours = refl; whole = omega arith; value = ap Rules (two_digits n); rest = refl }
reads_back (Names r) ys = record { ours = refl; whole = omega arith; value = ap (λ (n : ℕ). Names (rule_id n)) (two_digits r.0); rest = refl }
reads_back (Step f r) ys =
    record { ours = refl; whole = omega arith; value = ap₂ (λ (m n : ℕ). Step (fact_id m) (rule_id n)) (one_digit f.0) (two_digits r.0); rest = refl }
reads_back (Unread f) ys = record { ours = refl; whole = omega arith; value = ap (λ (n : ℕ). Unread (fact_id n)) (one_digit f.0); rest = refl }

cut_kind : (i : Item) (ys : List ℕ) → item_bytes (width_in (row_in i)) i ++ ys ≡ kind_of i ∷ (body_of i ++ ys)
cut_kind (Facts n) ys = refl
cut_kind (Opens f) ys = refl
cut_kind (Premise f) ys = refl
cut_kind (Constraint f) ys = refl
cut_kind (Rules n) ys = refl
cut_kind (Names r) ys = refl
cut_kind (Step f r) ys = refl
cut_kind (Unread f) ys = refl

-- Reading gives back what was written: an item that was written at a place is read there.
pub read_item : (i : Item) (s : List ℕ) (at : ℕ) → at ≤ length s → next_at (placed (item_bytes (width_in (row_in i)) i) at s) (record { at = at; row = row_in i }) ≡ Found i (record { at = at + width_of (width_in (row_in i)) (kind_of i); row = row_after (row_in i) })
read_item i s at h =
    let w = reads_back i (drop (at + length (item_bytes (width_in (row_in i)) i)) s) in
    read_whole (placed (item_bytes (width_in (row_in i)) i) at s) (record { at = at; row = row_in i }) (kind_of i) (body_of i ++ drop (at + length (item_bytes (width_in (row_in i)) i)) s) (after (item_bytes (width_in (row_in i)) i) s at h ∙ cut_kind i _) w.ours w.whole
    ∙ ap (λ j. Found j (record { at = at + width_of (width_in (row_in i)) (kind_of i); row = row_after (row_in i) })) w.value

-- A row that begins with a written item.
pub item_first : (i : Item) (ys : List ℕ) → items_in (row_in i) 0 (item_bytes (width_in (row_in i)) i ++ ys) ≡ item i ∷ items_in (row_after (row_in i)) 0 ys
unfolding front
item_first i ys =
    let w = reads_back i ys in
    ap (items_in (row_in i) 0) (cut_kind i ys)
    ∙ rw (w.ours, le-leb _ _ w.whole, w.value) (ap (λ (ts : List Token). item i ∷ ts) (skip (row_after (row_in i)) (body_length (width_in (row_in i)) (kind_of i)) (body_of i ++ ys) ∙ ap (items_in (row_after (row_in i)) 0) w.rest))

-- Each item is of the row that the ones before it lead to.
abbrev pub InRow : Row → List Item → Type 0
InRow row [] = Unit {0}
InRow row (i ∷ is) = (row_in i ≡ row) × InRow (row_after row) is

-- The width of a row is the same throughout.
width_stays : (row : Row) → width_in (row_after row) ≡ width_in row
width_stays Opening = refl
width_stays Body = refl
width_stays Order = refl
width_stays Steps = refl

-- A row of written items is read back whole.
pub read_back : (row : Row) (is : List Item) → InRow row is → items_in row 0 (bytes_of (width_in row) is) ≡ map item is
read_back row [] h = refl
read_back row (i ∷ is) h =
    subst (λ (r : Row). items_in r 0 (bytes_of (width_in r) (i ∷ is)) ≡ map item (i ∷ is)) h.0
    (item_first i (bytes_of (width_in (row_in i)) is) ∙ ap (λ (ts : List Token). item i ∷ ts) (rw (width_stays (row_in i)) at (read_back (row_after (row_in i)) is (rw (← h.0) at h.1))))

-- The same of a name in an order, and of a step in a proof row.
pub rule-item_first : (r : ℕ) (ys : List ℕ) → items_at (rule_item r ++ ys) order_start ≡ item (Names (rule_id r)) ∷ items_at ys order_start
unfolding items_at
rule-item_first r ys = item_first (Names (rule_id r)) ys

pub step-item_first : (f r : ℕ) (ys : List ℕ) → items_at (step_item (width_in Steps) f r ++ ys) steps_start ≡ item (Step (fact_id f) (rule_id r)) ∷ items_at ys steps_start
unfolding items_at
step-item_first f r ys = item_first (Step (fact_id f) (rule_id r)) ys
