-- The byte level of a row: what a read finds of the items from a cursor on. Nothing above opens `front`, `next_at` or `items_at`.
use Prim.Native.Nat.{ℕ, zero, suc, ◌+◌, ◌-◌, ◌<◌, ◌≤◌}
use mathlib.Core.Path.{◌≡◌, refl, sym, ap, ◌∙◌}
use mathlib.Core.Bool.{Bool, true, false, cond}
use mathlib.Core.List.{List, [], ◌∷◌}
use mathlib.Core.Logic.{◌⊎◌, inl, inr}
use mathlib.Core.Option.{Option, none, some}
use native.Mathlib.Omega.{arith}
use borrow.Author.Tests.{leb-true}
use lib.ListN.{length, get_or, take, drop, drop_of_length-le}
use lib.Seq.{drop-cons, drop-drop}
use lib.Dec.{leb}
use Rattle.items.specs.declared.refusal.Refusal.{Refusal}
use Rattle.items.specs.declared.item.Item.{Item}
use Rattle.cursors.specs.declared.cursor.Row.{Row}
use Rattle.cursors.specs.declared.cursor.Row.TheVariants.{Opening, Body, Order, Steps}
use Rattle.cursors.specs.declared.cursor.Fault.{Fault}
use Rattle.cursors.specs.declared.cursor.Fault.TheVariants.{NoByte, OtherKind, ShortBody}
use Rattle.cursors.specs.declared.cursor.Cursor.{Cursor}
use Rattle.cursors.specs.declared.cursor.Read.TheVariants.{Found, Refused, Ended}
use Rattle.items.specs.Item.{body_length, width_of, item_of}
use Rattle.items.specs.Question.{first_no}
use Rattle.cursors.specs.Cursor.{width_in, of_row, row_after, Token, item, bad, front, place_questions, past, stayed, read_of, next_at, followed, items_in, items_at, ended}

-- An item that a read finds: it heads the items from c on, and those from d on follow it; d lies past it.
pub record ReadAt (s : List ℕ) (c : Cursor) (i : Item) (d : Cursor) : Type 0 where
  pub items : items_at s c ≡ item i ∷ items_at s d
  pub row : d.row ≡ row_after c.row
  pub forward : c.at < d.at
  pub inside : d.at ≤ length s
  pub kind : of_row c.row (get_or s c.at 0) ≡ true
  pub width : d.at ≡ c.at + width_of (width_in c.row) (get_or s c.at 0)
  pub value : i ≡ item_of (width_in c.row) (get_or s c.at 0) (take (body_length (width_in c.row) (get_or s c.at 0)) (drop (suc c.at) s))

-- No item stands at the cursor: no byte is left, or what is wrong there heads the items.
abbrev pub NoItem : List ℕ → Cursor → Fault → Type 0
NoItem s c fault = ((items_at s c ≡ []) × (fault ≡ NoByte)) ⊎ (items_at s c ≡ bad fault ∷ [])

-- A refusal: the cursor stays, and the refusal is the first no of the questions on the place.
pub record NoItemAt (s : List ℕ) (c : Cursor) (r : Refusal) (d : Cursor) : Type 0 where
  pub stays : d ≡ c
  pub fault : Fault
  pub no : first_no (place_questions c.row (bad fault)) ≡ some r
  pub why : NoItem s c fault

pub skip : (row : Row) (n : ℕ) (bs : List ℕ) → items_in row n bs ≡ items_in row 0 (drop n bs)
skip row zero [] = refl
skip row zero (b ∷ bs) = refl
skip row (suc n) [] = refl
skip row (suc n) (b ∷ bs) = skip row n bs

-- the first byte of what is left, and the rest
pub cut : (s : List ℕ) (at k : ℕ) (bs : List ℕ) → drop at s ≡ k ∷ bs → (get_or s at 0 ≡ k) × (drop (suc at) s ≡ bs) × (length s ≡ at + suc (length bs))
cut [] zero k bs e = absurd (nil≢cons e)
  where
    nil≢cons : ◌≡◌ {A = List ℕ} [] (k ∷ bs) → ⊥
    nil≢cons q = let z : ◌≡◌ {A = ℕ} 0 1 = cc in omega arith
cut [] (suc at) k bs e = absurd (nil≢cons e)
  where
    nil≢cons : ◌≡◌ {A = List ℕ} [] (k ∷ bs) → ⊥
    nil≢cons q = let z : ◌≡◌ {A = ℕ} 0 1 = cc in omega arith
cut (x ∷ xs) zero k bs e = (cc, (cc), omega (arith, ap length e))
cut (x ∷ xs) (suc at) k bs e =
    let r = cut xs at k bs e in
    (r.0, r.1, omega arith)

front-item : (row : Row) (k : ℕ) (bs : List ℕ) (i : Item) → front row (k ∷ bs) ≡ item i → (of_row row k ≡ true) × (body_length (width_in row) k ≤ length bs) × (i ≡ item_of (width_in row) k (take (body_length (width_in row) k) bs))
unfolding front
front-item row k bs i e = go (of_row row k) refl (leb (body_length (width_in row) k) (length bs)) refl e
  where
    go : (a : Bool) → of_row row k ≡ a → (b : Bool) → leb (body_length (width_in row) k) (length bs) ≡ b → cond a (cond b (item (item_of (width_in row) k (take (body_length (width_in row) k) bs))) (bad ShortBody)) (bad OtherKind) ≡ item i → (of_row row k ≡ true) × (body_length (width_in row) k ≤ length bs) × (i ≡ item_of (width_in row) k (take (body_length (width_in row) k) bs))
    go true p true q h = (p, leb-true _ _ q, (cc))
    go true p false q h = absurd (let z : ◌≡◌ {A = ℕ} 0 1 = cc in omega arith)
    go false p b q h = absurd (let z : ◌≡◌ {A = ℕ} 0 1 = cc in omega arith)

-- an item that stands at the front of what is left
read_past : (s : List ℕ) (c : Cursor) (k : ℕ) (bs : List ℕ) (i : Item) → drop c.at s ≡ k ∷ bs → front c.row (k ∷ bs) ≡ item i → ReadAt s c i (past s c)
unfolding items_at
read_past s c k bs i q f = go (cut s c.at k bs q) (front-item c.row k bs i f)
  where
    go : (get_or s c.at 0 ≡ k) × (drop (suc c.at) s ≡ bs) × (length s ≡ c.at + suc (length bs)) → (of_row c.row k ≡ true) × (body_length (width_in c.row) k ≤ length bs) × (i ≡ item_of (width_in c.row) k (take (body_length (width_in c.row) k) bs)) → ReadAt s c i (past s c)
    go g p =
        let tail : drop (c.at + width_of (width_in c.row) (get_or s c.at 0)) s ≡ drop (body_length (width_in c.row) k) bs =
        rw g.0 (sym (drop-drop (suc (body_length (width_in c.row) k)) c.at s) ∙ ap (drop (suc (body_length (width_in c.row) k))) q) in
        record {
          items =
              ap (items_in c.row 0) q ∙ ap (λ (t : Token). followed t (items_in (row_after c.row) (body_length (width_in c.row) k) bs)) f
              ∙ ap (λ (l : List Token). item i ∷ l) (skip (row_after c.row) (body_length (width_in c.row) k) bs ∙ ap (items_in (row_after c.row) 0) (sym tail));
          row = refl;
          forward = omega arith;
          inside = rw g.0 (omega arith);
          kind = rw g.0 p.0;
          width = refl;
          value = rw (g.0, g.1) p.2;
        }

module _ (s : List ℕ) (c d : Cursor) where
  pub found : (i : Item) → next_at s c ≡ Found i d → ReadAt s c i d
  unfolding next_at front
  found i e = at-list (drop c.at s) refl e
    where
      no_item : (o : Option Refusal) → stayed o c ≡ Found i d → ⊥
      no_item none h = let z : ◌≡◌ {A = ℕ} 0 1 = cc in omega arith
      no_item (some r) h = let z : ◌≡◌ {A = ℕ} 0 1 = cc in omega arith

      at_front : (k : ℕ) (bs : List ℕ) → drop c.at s ≡ k ∷ bs → (t : Token) → front c.row (k ∷ bs) ≡ t → read_of t (past s c) c ≡ Found i d → ReadAt s c i d
      at_front k bs q (item j) f h =
          let same_item : j ≡ i = cc in
          let same_place : past s c ≡ d = cc in
          rw (← same_item, ← same_place) (read_past s c k bs j q f)
      at_front k bs q (bad fault) f h = absurd (no_item (first_no (place_questions c.row (bad fault))) h)

      at-list : (l : List ℕ) → drop c.at s ≡ l → read_of (front c.row l) (past s c) c ≡ Found i d → ReadAt s c i d
      at-list [] q h = absurd (no_item (first_no (place_questions c.row (bad NoByte))) h)
      at-list (k ∷ bs) q h = at_front k bs q (front c.row (k ∷ bs)) refl h

  pub not_found : (r : Refusal) → next_at s c ≡ Refused r d → NoItemAt s c r d
  unfolding next_at front items_at
  not_found r e = at-list (drop c.at s) refl e
    where
      same : (o : Option Refusal) → stayed o c ≡ Refused r d → (o ≡ some r) × (d ≡ c)
      same none h = absurd (let z : ◌≡◌ {A = ℕ} 0 1 = cc in omega arith)
      same (some q) h =
          let w : q ≡ r = cc in
          (ap some w, (cc))

      at_front : (k : ℕ) (bs : List ℕ) → drop c.at s ≡ k ∷ bs → (t : Token) → front c.row (k ∷ bs) ≡ t → read_of t (past s c) c ≡ Refused r d → NoItemAt s c r d
      at_front k bs q (item j) f h = absurd (let z : ◌≡◌ {A = ℕ} 0 1 = cc in omega arith)
      at_front k bs q (bad fault) f h =
          let w = same (first_no (place_questions c.row (bad fault))) h in
          record {
            stays = w.1;
            fault = fault;
            no = w.0;
            why = inr (ap (items_in c.row 0) q ∙ ap (λ (t : Token). followed t (items_in (row_after c.row) (body_length (width_in c.row) k) bs)) f);
          }

      at-list : (l : List ℕ) → drop c.at s ≡ l → read_of (front c.row l) (past s c) c ≡ Refused r d → NoItemAt s c r d
      at-list [] q h =
          let w = same (first_no (place_questions c.row (bad NoByte))) h in
          record { stays = w.1; fault = NoByte; no = w.0; why = inl (ap (items_in c.row 0) q, refl) }
      at-list (k ∷ bs) q h = at_front k bs q (front c.row (k ∷ bs)) refl h

  -- A row ends only where no byte is left.
  pub row-ended : next_at s c ≡ Ended d → items_at s c ≡ []
  unfolding next_at front items_at
  row-ended e = at-list (drop c.at s) refl e
    where
      short : (row : Row) → stayed (first_no (place_questions row (bad ShortBody))) c ≡ Ended d → ⊥
      short Opening h = let z : ◌≡◌ {A = ℕ} 0 1 = cc in omega arith
      short Body h = let z : ◌≡◌ {A = ℕ} 0 1 = cc in omega arith
      short Order h = let z : ◌≡◌ {A = ℕ} 0 1 = cc in omega arith
      short Steps h = let z : ◌≡◌ {A = ℕ} 0 1 = cc in omega arith

      other : (row : Row) → stayed (first_no (place_questions row (bad OtherKind))) c ≡ Ended d → ⊥
      other Opening h = let z : ◌≡◌ {A = ℕ} 0 1 = cc in omega arith
      other Body h = let z : ◌≡◌ {A = ℕ} 0 1 = cc in omega arith
      other Order h = let z : ◌≡◌ {A = ℕ} 0 1 = cc in omega arith
      other Steps h = let z : ◌≡◌ {A = ℕ} 0 1 = cc in omega arith

      at_front : (k : ℕ) (bs : List ℕ) (a b : Bool) → read_of (cond a (cond b (item (item_of (width_in c.row) k (take (body_length (width_in c.row) k) bs))) (bad ShortBody)) (bad OtherKind)) (past s c) c ≡ Ended d → ⊥
      at_front k bs true true h = let z : ◌≡◌ {A = ℕ} 0 1 = cc in omega arith
      at_front k bs true false h = short c.row h
      at_front k bs false b h = other c.row h

      at-list : (l : List ℕ) → drop c.at s ≡ l → read_of (front c.row l) (past s c) c ≡ Ended d → items_at s c ≡ []
      at-list [] q h = ap (items_in c.row 0) q
      at-list (k ∷ bs) q h = absurd (at_front k bs (of_row c.row k) (leb (body_length (width_in c.row) k) (length bs)) h)

-- A walk by reads ends: less is left after each.
pub closer : {s : List ℕ} {c d : Cursor} {i : Item} → ReadAt s c i d → length s - d.at < length s - c.at
closer f = omega arith

-- No item is left exactly where no byte is.
pub none_left : (s : List ℕ) (c : Cursor) → length s ≤ c.at → items_at s c ≡ []
unfolding items_at
none_left s c h = ap (items_in c.row 0) (drop_of_length-le s h)

pub some_left : (s : List ℕ) (c : Cursor) → c.at < length s → ended (items_at s c) ≡ false
unfolding items_at
some_left s c h = ap (λ (l : List ℕ). ended (items_in c.row 0 l)) (drop-cons s c.at 0 h) ∙ never (front c.row (get_or s c.at 0 ∷ drop (suc c.at) s)) _
  where
    never : (t : Token) (ts : List Token) → ended (followed t ts) ≡ false
    never (item i) ts = refl
    never (bad fault) ts = refl
