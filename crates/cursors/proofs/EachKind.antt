-- The one case analysis of kinds, and what it says of the items of a row: their width, and the bound of a count of facts.
use Prim.Native.Nat.{ℕ, suc, ◌+◌, ◌<◌}
use mathlib.Core.Path.{◌≡◌, refl, sym, ap, subst, ◌∙◌}
use mathlib.Core.Bool.{Bool, true, false, ◌||◌}
use mathlib.Core.List.{List, [], ◌∷◌}
use native.Mathlib.Omega.{arith}
use borrow.Author.Tests.{eqb-true}
use lib.ListN.{get_or, take, drop}
use lib.Seq.{get_or-drop}
use lib.Dec.{eqb}
use Rattle.items.specs.declared.item.Item.{Item}
use Rattle.cursors.specs.declared.cursor.Row.{Row}
use Rattle.cursors.specs.declared.cursor.Row.TheVariants.{Opening, Body, Order, Steps}
use Rattle.cursors.specs.declared.cursor.Cursor.{Cursor}
use Rattle.items.specs.Item.{narrow, Width, max_facts, item_width, last_width, name_width, step_width, facts_kind, opens_kind, premise_kind, constraint_kind, rules_kind, names_kind, step_kind, unread_kind, no_such_kind, body_length, width_of, big_endian, item_of, class_of, where_said}
use Rattle.cursors.specs.Cursor.{width_in, of_row}
use Rattle.cursors.proofs.Items.{ReadAt}

-- Every row is narrow.
pub all-narrow : (row : Row) → width_in row ≡ narrow
all-narrow Opening = refl
all-narrow Body = refl
all-narrow Order = refl
all-narrow Steps = refl

-- what holds of each kind of each row
record EachKind (P : Row → ℕ → Type 0) : Type 0 where
  facts : P Opening (facts_kind (width_in Opening))
  opens : P Body (opens_kind (width_in Body))
  premise : P Body (premise_kind (width_in Body))
  constraint : P Body (constraint_kind (width_in Body))
  rules : P Body rules_kind
  unread : P Body (unread_kind (width_in Body))
  names : P Order names_kind
  step : P Steps (step_kind (width_in Steps))

of_kind : (P : Row → ℕ → Type 0) → EachKind P → (row : Row) (k : ℕ) → of_row row k ≡ true → P row k
of_kind P each Opening k e = subst (P Opening) (sym (eqb-true k (facts_kind (width_in Opening)) e)) each.facts
of_kind P each Body k e = go (eqb k (opens_kind (width_in Body))) refl (eqb k (premise_kind (width_in Body))) refl (eqb k (constraint_kind (width_in Body))) refl (eqb k rules_kind) refl e
  where
    go : (a : Bool) → eqb k (opens_kind (width_in Body)) ≡ a → (b : Bool) → eqb k (premise_kind (width_in Body)) ≡ b → (d : Bool) → eqb k (constraint_kind (width_in Body)) ≡ d → (m : Bool) → eqb k rules_kind ≡ m → a || (b || (d || (m || eqb k (unread_kind (width_in Body))))) ≡ true → P Body k
    go true p b q d r m t h = subst (P Body) (sym (eqb-true k (opens_kind (width_in Body)) p)) each.opens
    go false p true q d r m t h = subst (P Body) (sym (eqb-true k (premise_kind (width_in Body)) q)) each.premise
    go false p false q true r m t h = subst (P Body) (sym (eqb-true k (constraint_kind (width_in Body)) r)) each.constraint
    go false p false q false r true t h = subst (P Body) (sym (eqb-true k rules_kind t)) each.rules
    go false p false q false r false t h = subst (P Body) (sym (eqb-true k (unread_kind (width_in Body)) h)) each.unread
of_kind P each Order k e = subst (P Order) (sym (eqb-true k names_kind e)) each.names
of_kind P each Steps k e = subst (P Steps) (sym (eqb-true k (step_kind (width_in Steps)) e)) each.step

-- A kind of a row has a body.
pub known : (row : Row) (k : ℕ) → of_row row k ≡ true → body_length narrow k < no_such_kind
unfolding body_length
known =
    of_kind (λ row k. body_length narrow k < no_such_kind)
    (record {
      facts = omega arith;
      opens = omega arith;
      premise = omega arith;
      constraint = omega arith;
      rules = omega arith;
      unread = omega arith;
      names = omega arith;
      step = omega arith;
    })

-- The row that has an item: what is of no other row is of the body of a file.
abbrev pub row_in : Item → Row
row_in i =
    where_said (class_of i).facts (λ n. Opening)
    (where_said (class_of i).names (λ r. Order)
    (where_said (class_of i).step (λ s. Steps)
    Body))

-- Its bytes in a width: an item of no other length names a fact, or counts them.
abbrev pub item_length : Width → Item → ℕ
item_length w i =
    where_said (class_of i).rules (λ n. last_width)
    (where_said (class_of i).names (λ r. name_width)
    (where_said (class_of i).step (λ s. step_width w)
    (item_width w)))

-- The count of facts that it gives.
abbrev pub count_in : Item → ℕ
count_in i = where_said (class_of i).facts (λ n. n) 0

in-row : (row : Row) (k : ℕ) → of_row row k ≡ true → (body : List ℕ) → item_length (width_in row) (item_of (width_in row) k body) ≡ width_of (width_in row) k
unfolding item_of body_length
in-row =
    of_kind (λ row k. (body : List ℕ) → item_length (width_in row) (item_of (width_in row) k body) ≡ width_of (width_in row) k)
    (record {
      facts = λ body. refl;
      opens = λ body. refl;
      premise = λ body. refl;
      constraint = λ body. refl;
      rules = λ body. refl;
      unread = λ body. refl;
      names = λ body. refl;
      step = λ body. refl;
    })

-- Every element is a byte.
abbrev pub Bytes : List ℕ → Type 0
Bytes s = (j : ℕ) → get_or s j 0 < 256

one_byte : (bs : List ℕ) → Bytes bs → big_endian (take 1 bs) < 256
one_byte [] h = omega arith
one_byte (b ∷ bs) h = omega (arith, h 0)

count-in : (row : Row) (k : ℕ) → of_row row k ≡ true → (bs : List ℕ) → Bytes bs → count_in (item_of (width_in row) k (take (body_length (width_in row) k) bs)) < max_facts (width_in row)
unfolding item_of body_length
count-in =
    of_kind (λ row k. (bs : List ℕ) → Bytes bs → count_in (item_of (width_in row) k (take (body_length (width_in row) k) bs)) < max_facts (width_in row))
    (record {
      facts = one_byte;
      opens = λ bs h. omega arith;
      premise = λ bs h. omega arith;
      constraint = λ bs h. omega arith;
      rules = λ bs h. omega arith;
      unread = λ bs h. omega arith;
      names = λ bs h. omega arith;
      step = λ bs h. omega arith;
    })

module _ {s : List ℕ} {c d : Cursor} {i : Item} (r : ReadAt s c i d) where
  here : item_length (width_in c.row) i ≡ width_of (width_in c.row) (get_or s c.at 0)
  here =
      ap (item_length (width_in c.row)) r.value
      ∙ in-row c.row (get_or s c.at 0) r.kind (take (body_length (width_in c.row) (get_or s c.at 0)) (drop (suc c.at) s))

  -- The cursor moves by the item's bytes.
  pub width_of_item : d.at ≡ c.at + item_length narrow i
  width_of_item =
      subst (λ (w : Width). d.at ≡ c.at + item_length w i) (all-narrow c.row) (r.width ∙ ap (λ (n : ℕ). c.at + n) (sym here))

  -- A count of facts is below the bound.
  pub few_counted : Bytes s → count_in i < max_facts narrow
  few_counted h =
      subst (λ (w : Width). count_in i < max_facts w) (all-narrow c.row)
      (rw r.value (count-in c.row (get_or s c.at 0) r.kind (drop (suc c.at) s) (λ j. rw get_or-drop (h (suc c.at + j)))))
