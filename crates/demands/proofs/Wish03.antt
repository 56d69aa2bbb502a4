-- Wish 3: item lengths from a table.
use Prim.Native.Nat.{ℕ, ◌+◌, ◌<◌, ◌≤◌}
use native.Mathlib.Omega.{arith}
use mathlib.Core.Path.{◌≡◌, refl, sym, ap, ◌∙◌}
use mathlib.Core.Bool.{Bool, true, false, cond, ◌||◌, ◌&&◌, true≢false}
use mathlib.Core.List.{List, [], ◌∷◌}
use mathlib.Core.Logic.{◌↔◌}
use borrow.Author.Tests.{ltb-true}
use lib.ListN.{length, get_or}
use lib.Dec.{eqb, ltb}
use Rattle.theory.specs.Rule.{mem}
use Rattle.theory.proofs.Bools.{or-none}
use Rattle.items.specs.declared.item.Item.{Item}
use Rattle.items.specs.declared.item.Item.TheVariants.{Facts, Opens, Premise, Constraint, Rules, Names, Step, Unread}
use Rattle.items.specs.Item.{narrow, Width, no_such_kind, body_length}
use Rattle.items.specs.Question.{first_no}
use Rattle.items.specs.Write.{item_bytes}
use Rattle.cursors.specs.declared.cursor.Row.{Row}
use Rattle.cursors.specs.declared.cursor.Row.TheVariants.{Opening, Body, Order, Steps}
use Rattle.cursors.specs.declared.cursor.Fault.TheVariants.{OtherKind}
use Rattle.cursors.specs.declared.cursor.Cursor.{Cursor}
use Rattle.cursors.specs.declared.cursor.Read.TheVariants.{Found}
use Rattle.cursors.specs.Cursor.{read_number, cursor_of, of_row, bad, place_questions, stayed, width_in, next_at}
use Rattle.cursors.proofs.EachKind.{all-narrow, known}
use Rattle.cursors.proofs.Items.{found}
use Rattle.cursors.proofs.CursorWays.{other-kind}
use Rattle.demands.specs.Wish03.{Entry, listed, length_in, is_listed, kinds_of, other_kind, Wish03}

each_kind : (k : ℕ) → body_length narrow k ≡ length_in listed k
unfolding body_length
each_kind k = go (eqb k 0x10) (eqb k 0x01) (eqb k 0x02) (eqb k 0x03) (eqb k 0x07) (eqb k 0x1F) (eqb k 0x05) (eqb k 0x06)
  where
    go : (a b c d u e f g : Bool) → cond (a || (b || (c || (d || u)))) 1 (cond (e || f) 2 (cond g 3 no_such_kind)) ≡ cond a 1 (cond b 1 (cond c 1 (cond d 1 (cond u 1 (cond e 2 (cond f 2 (cond g 3 no_such_kind)))))))
    go true b c d u e f g = refl
    go false true c d u e f g = refl
    go false false true d u e f g = refl
    go false false false true u e f g = refl
    go false false false false true e f g = refl
    go false false false false false true f g = refl
    go false false false false false false true g = refl
    go false false false false false false false g = refl

-- every length of a list is below the mark
abbrev all_below : List Entry → Bool
all_below [] = true
all_below (e ∷ es) = ltb e.body no_such_kind && all_below es

marked : (es : List Entry) → all_below es ≡ true → (k : ℕ) → (length_in es k ≡ no_such_kind) ↔ (is_listed es k ≡ false)
marked [] h k = (λ e. refl, λ e. refl)
marked (e ∷ es) h k = go (ltb e.body no_such_kind) refl (eqb k e.kind) h (λ t. marked es t k)
  where
    go : (a : Bool) → ltb e.body no_such_kind ≡ a → (b : Bool) → a && all_below es ≡ true → (all_below es ≡ true → (length_in es k ≡ no_such_kind) ↔ (is_listed es k ≡ false)) → (cond b e.body (length_in es k) ≡ no_such_kind) ↔ (b || is_listed es k ≡ false)
    go false p b t more = absurd (true≢false (sym t))
    go true p true t more =
        let below : e.body < no_such_kind = ltb-true e.body no_such_kind p in
        (λ q. absurd (omega arith), λ q. absurd (true≢false q))
    go true p false t more = more t

-- a read moves past the kind and the body
read : (s : List ℕ) (c d : Cursor) (i : Item) → next_at s c ≡ Found i d → (d.at ≡ c.at + 1 + length_in listed (get_or s c.at 0)) × (d.at ≤ length s)
read s c d i e =
    let r = found s c d i e in
    let narrow-length : body_length (width_in c.row) (get_or s c.at 0) ≡ length_in listed (get_or s c.at 0) = ap (λ (w : Width). body_length w (get_or s c.at 0)) (all-narrow c.row) ∙ each_kind (get_or s c.at 0) in
    (omega (arith, r.width, narrow-length), r.inside)

written : (i : Item) → length (item_bytes narrow i) ≡ 1 + length_in listed (get_or (item_bytes narrow i) 0 0)
written (Facts n) = refl
written (Opens f) = refl
written (Premise f) = refl
written (Constraint f) = refl
written (Rules n) = refl
written (Names r) = refl
written (Step f r) = refl
written (Unread f) = refl

row-kinds : (row : Row) (k : ℕ) → mem k (kinds_of row) ≡ of_row row k
row-kinds Opening k = or-none (eqb k 0x10)
row-kinds Body k = ap (λ (b : Bool). eqb k 0x01 || (eqb k 0x02 || (eqb k 0x03 || (eqb k 0x1F || b)))) (or-none (eqb k 0x07))
row-kinds Order k = or-none (eqb k 0x05)
row-kinds Steps k = or-none (eqb k 0x06)

row_listed : (row : Row) (k : ℕ) → mem k (kinds_of row) ≡ true → is_listed listed k ≡ true
row_listed row k h = go (is_listed listed k) refl
  where
    go : (b : Bool) → is_listed listed k ≡ b → b ≡ true
    go true q = refl
    go false q = absurd (omega (arith, known row k (sym (row-kinds row k) ∙ h), each_kind k ∙ (marked listed refl k).1 q))

row_decides : (s : List ℕ) (c : Cursor) → c.at < length s → mem (get_or s c.at 0) (kinds_of c.row) ≡ false → (read_number (next_at s c) ≡ other_kind c.row) × (cursor_of (next_at s c) ≡ c)
row_decides s c more h = rw (other-kind s c more (sym (row-kinds c.row (get_or s c.at 0)) ∙ h)) (go c.row)
  where
    go : (row : Row) → (read_number (stayed (first_no (place_questions row (bad OtherKind))) c) ≡ other_kind row) × (cursor_of (stayed (first_no (place_questions row (bad OtherKind))) c) ≡ c)
    go Opening = (refl, refl)
    go Body = (refl, refl)
    go Order = (refl, refl)
    go Steps = (refl, refl)

pub wish_03 : Wish03
wish_03 =
    record {
      each_kind = each_kind;
      marked = λ k. rw (each_kind k) (marked listed refl k);
      read = read;
      written = written;
      row_listed = row_listed;
      row_decides = row_decides;
    }
