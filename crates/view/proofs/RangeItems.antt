-- What stands at the front of a range, what is left behind it, and what both tell of the rule.
use Prim.Native.Nat.{ℕ, ◌+◌, ◌*◌, ◌-◌, ◌<◌, ◌≤◌}
use mathlib.Core.Path.{◌≡◌, refl, sym, ap, ◌∙◌}
use mathlib.Core.Bool.{Bool, true, false, cond}
use mathlib.Core.List.{List, [], ◌∷◌}
use mathlib.Core.Option.{some}
use Rattle.std.specs.Prelude.{Option, Some, None}
use native.Mathlib.Omega.{arith}
use borrow.Author.Tests.{lt-ltb, le-ltb, ltb-true, ltb-false}
use types.Run.{hit}
use lib.ListN.{length}
use lib.Dec.{ltb}
use Rattle.items.specs.declared.item.FactId.{FactId}
use Rattle.items.specs.declared.item.Item.{Item}
use Rattle.items.specs.declared.item.Item.TheVariants.{Premise, Constraint}
use Rattle.cursors.specs.declared.cursor.Cursor.{Cursor}
use Rattle.cursors.specs.declared.cursor.Row.{Row}
use Rattle.cursors.specs.declared.cursor.Row.TheVariants.{Body}
use Rattle.cursors.specs.declared.cursor.Read.{Read}
use Rattle.cursors.specs.declared.cursor.Read.TheVariants.{Found, Refused, Ended}
use Rattle.items.specs.Item.{narrow, item_width, Sign, asks_in, asks_out, same_sign, OwnItem, class_of}
use Rattle.cursors.specs.Cursor.{Token, item, bad, next_at, items_at, body_at}
use Rattle.cursors.proofs.Items.{ReadAt, found}
use Rattle.items.proofs.ItemSays.{by_tags, unsaid, alone, either_said}
use Rattle.cursors.proofs.NoItemRead.{NotFound, nothing_read}
use Rattle.cursors.proofs.EachKind.{item_length, width_of_item}
use Rattle.reader.specs.Questions.{own_facts, premises_of, constraints_of}
use Rattle.reader.proofs.Tags.{NotOwn}
use Rattle.view.specs.declared.range.Own.{Own}
use Rattle.view.specs.declared.range.Own.TheVariants as own
use Rattle.view.specs.declared.range.Taken.{Taken}
use Rattle.view.specs.View.{end_at, own_by, own_of, own_at, taken_of, taken_at, own_items, GivesEach}

-- an item of another kind
not_own : (i : Item) (ts : List Token) → NotOwn i → own_of (item i ∷ ts) ≡ None
not_own i ts k = rw (unsaid (by_tags i).own (0 ∷ 1 ∷ 4 ∷ 5 ∷ 6 ∷ 7 ∷ []) (tt, (tt, tt)) k)

-- The front of a range: it is empty, or what stands there decides.
module _ (s : List ℕ) (at end : ℕ) where
  nothing-there : own_at s at end ≡ None → None ≡ taken_at s at end
  nothing-there e = sym (ap (λ (o : Option Own). taken_of o at) e)

  empty : end ≤ at → own_at s at end ≡ None
  unfolding own_at
  empty h =
      let none : ltb at end ≡ false = le-ltb at end h in
      rw none

  pub empty-range : end ≤ at → None ≡ taken_at s at end
  empty-range h = nothing-there (empty h)

  module _ (h : at < end) where
    front-decides : own_at s at end ≡ own_of (items_at s (body_at at))
    unfolding own_at
    front-decides =
        let some : ltb at end ≡ true = lt-ltb at end h in
        rw some

    none_there : (r : Read) → next_at s (body_at at) ≡ r → NotFound r → own_at s at end ≡ None
    none_there r e k = front-decides ∙ nothing_read own_of (λ fault. refl) s (body_at at) r e k

    pub none_taken : (r : Read) → next_at s (body_at at) ≡ r → NotFound r → None ≡ taken_at s at end
    none_taken r e k = nothing-there (none_there r e k)

    module _ (d : Cursor) (i : Item) (e : next_at s (body_at at) ≡ Found i d) where
      read_there : own_at s at end ≡ own_of (item i ∷ items_at s d)
      read_there = front-decides ∙ ap own_of (found s (body_at at) d i e).items

      pub other_there : NotOwn i → None ≡ taken_at s at end
      other_there k = nothing-there (read_there ∙ not_own i (items_at s d) k)

      past : (j : Item) → i ≡ j → d.at ≡ at + item_length narrow j
      past j q = width_of_item (found s (body_at at) d i e) ∙ ap (λ (k : Item). at + item_length narrow k) q

      pub premise_taken : (f : FactId) → i ≡ Premise f → Some (record { item = own.Premise f; rest = d.at }) ≡ taken_at s at end
      premise_taken f q =
          ap (λ (n : ℕ). Some (record { item = own.Premise f; rest = n })) (past (Premise f) q)
          ∙ sym (ap (λ (o : Option Own). taken_of o at) (read_there ∙ ap (λ (j : Item). own_of (item j ∷ items_at s d)) q))

      pub constraint_taken : (f : FactId) → i ≡ Constraint f → Some (record { item = own.Constraint f; rest = d.at }) ≡ taken_at s at end
      constraint_taken f q =
          ap (λ (n : ℕ). Some (record { item = own.Constraint f; rest = n })) (past (Constraint f) q)
          ∙ sym (ap (λ (o : Option Own). taken_of o at) (read_there ∙ ap (λ (j : Item). own_of (item j ∷ items_at s d)) q))

-- What is taken off the front of a range: the item heads those of the rule, those that are left follow it, and the range ends where it did.
pub record Gives (s : List ℕ) (at end : ℕ) (t : Taken) (sign : Sign) (f : FactId) : Type 0 where
  pub first : own_items (items_at s (body_at at)) ≡ record { sign = sign; fact = f } ∷ own_items (items_at s (body_at t.rest))
  pub own : (asked : Sign) → own_facts asked (items_at s (body_at at)) ≡ cond (same_sign asked sign) (f.0 ∷ own_facts asked (items_at s (body_at t.rest))) (own_facts asked (items_at s (body_at t.rest)))
  pub nearer : end - t.rest < end - at
  pub ends : end ≡ end_at s at → end ≡ end_at s t.rest

-- a cursor in the body of a file is its place
in_body : (c : Cursor) → c.row ≡ Body → c ≡ body_at c.at
in_body c e = ap (λ (row : Row). record { at = c.at; row = row }) e

-- how many of the items are a rule's own
abbrev own_in : List Token → ℕ
own_in ts = length (premises_of ts) + length (constraints_of ts)

-- An item of a rule's own says its sign and its fact.
same_own : (a b : Sign) (f g : FactId) → own_by a f ≡ own_by b g → ◌≡◌ {A = OwnItem} (record { sign = a; fact = f }) (record { sign = b; fact = g })
same_own asks_in asks_in f g e = let q : f ≡ g = cc in ap (λ (x : FactId). record { sign = asks_in; fact = x }) q
same_own asks_in asks_out f g e = absurd (let z : ◌≡◌ {A = ℕ} 0 1 = cc in omega arith)
same_own asks_out asks_in f g e = absurd (let z : ◌≡◌ {A = ℕ} 0 1 = cc in omega arith)
same_own asks_out asks_out f g e = let q : f ≡ g = cc in ap (λ (x : FactId). record { sign = asks_out; fact = x }) q

own-said : (sign : Sign) (f : FactId) (i : Item) (ts : List Token) → own_of (item i ∷ ts) ≡ Some (own_by sign f) → (class_of i).own ≡ some (record { sign = sign; fact = f })
own-said sign f i ts =
    either_said (λ (o : Option Own). o ≡ Some (own_by sign f) → (class_of i).own ≡ some (record { sign = sign; fact = f })) (class_of i).own _ _
    (λ o s e. s ∙ ap some (same_own o.sign sign o.fact f (cc)))
    (λ _ e. absurd (cc))

-- Its width, and that it is one more.
module _ (i : Item) {sign : Sign} {f : FactId} (s : (class_of i).own ≡ some (record { sign = sign; fact = f })) where
  own-width : item_length narrow i ≡ item_width narrow
  own-width = rw (alone (by_tags i).own s (by_tags i).rules (tt, tt), alone (by_tags i).own s (by_tags i).names (tt, tt), alone (by_tags i).own s (by_tags i).step (tt, tt))

  own_first : (asked : Sign) (ts : List Token) → own_facts asked (item i ∷ ts) ≡ cond (same_sign asked sign) (f.0 ∷ own_facts asked ts) (own_facts asked ts)
  own_first asked ts = rw s

  whole : (ts : List Token) → own_items (item i ∷ ts) ≡ record { sign = sign; fact = f } ∷ own_items ts
  whole ts = rw s

  one_more : (ts : List Token) → own_in (item i ∷ ts) ≡ own_in ts + 1
  one_more ts = rw (own_first asks_in ts, own_first asks_out ts) (go sign)
    where
      go : (b : Sign) → length (cond (same_sign asks_in b) (f.0 ∷ premises_of ts) (premises_of ts)) + length (cond (same_sign asks_out b) (f.0 ∷ constraints_of ts) (constraints_of ts)) ≡ own_in ts + 1
      go asks_in = omega arith
      go asks_out = omega arith

-- Something is given: an item of a rule's own, with the place past it.
module _ (s : List ℕ) (at end : ℕ) (t : Taken) (e : Some t ≡ taken_at s at end) where
  given : (own_at s at end ≡ Some t.item) × (t.rest ≡ at + item_width narrow)
  given = go (own_at s at end) e
    where
      go : (o : Option Own) → Some t ≡ taken_of o at → (o ≡ Some t.item) × (t.rest ≡ at + item_width narrow)
      go (Some x) q = let same : t ≡ record { item = x; rest = at + item_width narrow } = cc in
          (ap (λ (u : Taken). Some u.item) (sym same), ap (λ (u : Taken). u.rest) same)
      go None q = absurd (cc)

  module _ (sign : Sign) (f : FactId) (q : t.item ≡ own_by sign f) where
    own-is : own_at s at end ≡ Some (own_by sign f)
    own-is = given.0 ∙ ap Some q

    inside : at < end
    inside = go (ltb at end) refl
      where
        go : (b : Bool) → ltb at end ≡ b → at < end
        go true l = ltb-true at end l
        go false l = let none : own_at s at end ≡ None = empty s at end (ltb-false at end l) in absurd (let some = own-is in cc)

    rest-is : t.rest ≡ at + item_width narrow
    rest-is = given.1

    read : (i : Item) (d : Cursor) → next_at s (body_at at) ≡ Found i d → (class_of i).own ≡ some (record { sign = sign; fact = f }) → Gives s at end t sign f
    unfolding end_at
    read i d r says =
        let found_there : ReadAt s (body_at at) i d = found s (body_at at) d i r in
        let place : d.at ≡ t.rest = width_of_item found_there ∙ ap (λ (n : ℕ). at + n) (own-width i says) ∙ sym rest-is in
        let there : d ≡ body_at t.rest = in_body d found_there.row ∙ ap body_at place in
        let items-are : items_at s (body_at at) ≡ item i ∷ items_at s (body_at t.rest) = found_there.items ∙ ap (λ (c : Cursor). item i ∷ items_at s c) there in
        let fewer : own_in (items_at s (body_at at)) ≡ own_in (items_at s (body_at t.rest)) + 1 = ap own_in items-are ∙ one_more i says (items_at s (body_at t.rest)) in
        record {
          first = ap own_items items-are ∙ whole i says (items_at s (body_at t.rest));
          own = λ asked. ap (own_facts asked) items-are ∙ own_first i says asked (items_at s (body_at t.rest));
          nearer = omega (arith, inside, rest-is);
          ends = λ k. shorter end t.rest (own_in (items_at s (body_at at))) (own_in (items_at s (body_at t.rest))) k rest-is fewer;
        }
      where
        shorter : (last rest a b : ℕ) → last ≡ at + item_width narrow * a → rest ≡ at + item_width narrow → a ≡ b + 1 → last ≡ rest + item_width narrow * b
        shorter last rest a b x y z = omega arith

    gives : Gives s at end t sign f
    gives = go (next_at s (body_at at)) refl
      where
        go : (r : Read) → next_at s (body_at at) ≡ r → Gives s at end t sign f
        go (Refused r d) k = absurd (let none = none_there s at end inside (Refused r d) k (hit (1 ∷ 2 ∷ []) 1 tt) in let some = own-is in cc)
        go (Ended d) k = absurd (let none = none_there s at end inside (Ended d) k (hit (1 ∷ 2 ∷ []) 2 tt) in let some = own-is in cc)
        go (Found i d) k = read i d k (own-said sign f i (items_at s d) (sym (read_there s at end inside d i k) ∙ own-is))

-- No item of the rule's own stands at the front.
abbrev pub NoneOwn : List Token → Type 0
NoneOwn ts = (asked : Sign) → own_facts asked ts ≡ []

none_own : (ts : List Token) → own_of ts ≡ None → NoneOwn ts
none_own [] = λ e asked. refl
none_own (bad fault ∷ ts) = λ e asked. refl
none_own (item i ∷ ts) =
    either_said (λ (o : Option Own). o ≡ None → NoneOwn (item i ∷ ts)) (class_of i).own _ _ (λ o s e. absurd (cc)) (λ s e asked. rw s)

both_empty : (ts : List Token) → own_in ts ≡ 0 → NoneOwn ts
both_empty ts e asked = go asked
  where
    empty-list : (xs : List ℕ) → length xs ≡ 0 → xs ≡ []
    empty-list [] h = refl
    empty-list (x ∷ xs) h = absurd (omega (arith, h))

    go : (a : Sign) → own_facts a ts ≡ []
    go asks_in = empty-list (premises_of ts) (omega (arith, e))
    go asks_out = empty-list (constraints_of ts) (omega (arith, e))

module _ (s : List ℕ) (at end : ℕ) where
  pub premise_given : (t : Taken) → Some t ≡ taken_at s at end → (f : FactId) → t.item ≡ own.Premise f → Gives s at end t asks_in f
  premise_given t e f q = gives s at end t e asks_in f q

  pub constraint_given : (t : Taken) → Some t ≡ taken_at s at end → (f : FactId) → t.item ≡ own.Constraint f → Gives s at end t asks_out f
  constraint_given t e f q = gives s at end t e asks_out f q

  -- Where the range ends with the rule, and no item is given, the rule has none left.
  pub none_given : end ≡ end_at s at → None ≡ taken_at s at end → NoneOwn (items_at s (body_at at))
  unfolding end_at
  none_given q n = go (ltb at end) refl
    where
      none_more : end ≤ at → own_in (items_at s (body_at at)) ≡ 0
      none_more h = omega (arith, q, h)

      none-there : (o : Option Own) → None ≡ taken_of o at → o ≡ None
      none-there (Some x) e = absurd (cc)
      none-there None e = refl

      go : (b : Bool) → ltb at end ≡ b → NoneOwn (items_at s (body_at at))
      go true l = none_own (items_at s (body_at at)) (sym (front-decides s at end (ltb-true at end l)) ∙ none-there (own_at s at end) n)
      go false l = both_empty (items_at s (body_at at)) (none_more (ltb-false at end l))

-- What the first of a rule's own items is, and that there is one.
abbrev First : List Token → OwnItem → Type 0
First ts o = (own_of ts ≡ Some (own_by o.sign o.fact)) × (0 < own_in ts)

first-own : (ts : List Token) (o : OwnItem) (os : List OwnItem) → own_items ts ≡ o ∷ os → First ts o
first-own [] o os = λ e. absurd (let z : ◌≡◌ {A = ℕ} 0 1 = cc in omega arith)
first-own (bad fault ∷ ts) o os = λ e. absurd (let z : ◌≡◌ {A = ℕ} 0 1 = cc in omega arith)
first-own (item i ∷ ts) o os =
    either_said (λ l. l ≡ o ∷ os → First (item i ∷ ts) o) (class_of i).own _ _
    (λ x s e. let same : x ≡ o = cc in (rw s (ap (λ (y : OwnItem). Some (own_by y.sign y.fact)) same), omega (arith, one_more i s ts)))
    (λ _ e. absurd (let z : ◌≡◌ {A = ℕ} 0 1 = cc in omega arith))

no-first : (ts : List Token) → own_items ts ≡ [] → own_of ts ≡ None
no-first [] = λ e. refl
no-first (bad fault ∷ ts) = λ e. refl
no-first (item i ∷ ts) =
    either_said (λ l. l ≡ [] → own_of (item i ∷ ts) ≡ None) (class_of i).own _ _ (λ x s e. absurd (let z : ◌≡◌ {A = ℕ} 0 1 = cc in omega arith)) (λ s e. rw s)

-- Where the range ends with the rule, the first of the rule's own items is inside, and where it has none, none is there.
module _ (s : List ℕ) (end at : ℕ) where
  first-inside : end ≡ end_at s at → 0 < own_in (items_at s (body_at at)) → at < end
  unfolding end_at
  first-inside k more = omega (arith, k, more)

  none_inside : own_of (items_at s (body_at at)) ≡ None → own_at s at end ≡ None
  unfolding own_at
  none_inside e = rw e (same_arms (ltb at end))
    where
      same_arms : (b : Bool) → cond {A = Option Own} b None None ≡ None
      same_arms true = refl
      same_arms false = refl

-- The view of the range that ends with the rule gives the rule's own items in the file's order.
pub gives_each : (s : List ℕ) (end at : ℕ) → end ≡ end_at s at → GivesEach s at end (own_items (items_at s (body_at at)))
gives_each s end at = go (own_items (items_at s (body_at at))) at refl
  where
    go : (os : List OwnItem) (at : ℕ) → own_items (items_at s (body_at at)) ≡ os → end ≡ end_at s at → GivesEach s at end os
    go [] at e k = sym (nothing-there s at end (none_inside s end at (no-first (items_at s (body_at at)) e)))
    go (o ∷ os) at e k =
        let first : First (items_at s (body_at at)) o = first-own (items_at s (body_at at)) o os e in
        let q : own_at s at end ≡ Some (own_by o.sign o.fact) = front-decides s at end (first-inside s end at k first.1) ∙ first.0 in
        let t : Taken = record { item = own_by o.sign o.fact; rest = at + item_width narrow } in
        let taken : taken_at s at end ≡ Some t = ap (λ (x : Option Own). taken_of x at) q in
        let g : Gives s at end t o.sign o.fact = gives s at end t (sym taken) o.sign o.fact refl in
        let both : ◌≡◌ {A = List OwnItem} (record { sign = o.sign; fact = o.fact } ∷ own_items (items_at s (body_at t.rest))) (o ∷ os) = sym g.first ∙ e in
        let left : own_items (items_at s (body_at t.rest)) ≡ os = cc both in
        (t, taken, refl, go os t.rest left (g.ends k))
