-- The unread facts of an accepted file: where they stand, and that a file whose second item is none has none.
use Prim.Native.Nat.{ℕ, ◌+◌, ◌<◌}
use native.Mathlib.Omega.{arith}
use mathlib.Core.Path.{◌≡◌, refl, ap, ◌∙◌}
use mathlib.Core.Bool.{true, false}
use mathlib.Core.List.{List, [], ◌∷◌, ◌++◌, map}
use mathlib.Core.Logic.{⊎_elim}
use mathlib.Core.Option.{Option, none, some}
use borrow.Author.Tests.{eqb-true}
use lib.ListN.{get_or}
use Rattle.theory.specs.Rule.{mem}
use Rattle.theory.proofs.Bools.{never}
use Rattle.theory.proofs.Lists.{mem-cases}
use Rattle.items.specs.declared.refusal.Refusal.{Refusal}
use Rattle.items.specs.declared.item.FactId.{FactId}
use Rattle.items.specs.declared.item.Item.{Item}
use Rattle.items.specs.declared.item.Item.TheVariants.{Facts, Opens, Premise, Constraint, Rules, Names, Step, Unread}
use Rattle.items.specs.Item.{narrow, facts_kind, width_of, class_of}
use Rattle.items.proofs.ItemSays.{Tagged, by_tags, unsaid, alone}
use Rattle.cursors.specs.declared.cursor.Row.TheVariants.{Body}
use Rattle.cursors.specs.declared.cursor.Cursor.{Cursor}
use Rattle.cursors.specs.Cursor.{Token, item, items_at, file_start}
use Rattle.cursors.proofs.Items.{ReadAt}
use Rattle.reader.specs.Questions.{unread_of, program_of, file_no, Scan}
use Rattle.reader.specs.Begins.{behind_first, first_unread}
use Rattle.reader.proofs.Accepted.{GoodBody, opens, own, unread, last, AcceptedFile, body_start, accepted_file}

-- What a read tells of the item at a cursor.
module _ (s : List ℕ) (c d : Cursor) where
  pub unread_there : {f : FactId} → ReadAt s c (Unread f) d → first_unread (items_at s c) ≡ true
  unread_there r = ap first_unread r.items

  -- an item of another kind
  pub no-unread_at_other : {i : Item} → ReadAt s c i d → Tagged (0 ∷ 1 ∷ 2 ∷ 3 ∷ 4 ∷ 5 ∷ 6 ∷ []) i → first_unread (items_at s c) ≡ false
  no-unread_at_other {i} r k = ap first_unread r.items ∙ rw (unsaid (by_tags i).unread (0 ∷ 1 ∷ 2 ∷ 3 ∷ 4 ∷ 5 ∷ 6 ∷ []) (tt, tt) k)

-- an item that names no unread fact
not_named : (i : Item) (ts : List Token) → ◌≡◌ {A = Option FactId} (class_of i).unread none → unread_of (item i ∷ ts) ≡ unread_of ts
not_named i ts s = rw s

-- No unread fact stands behind a rule, nor behind an item that is none.
none_later : {scan : Scan} {ts : List Token} → GoodBody scan ts → 0 < scan.rules → unread_of ts ≡ []
none_later (opens {i = i} {ts = ts} s below room g) h = not_named i ts (alone (by_tags i).opens s (by_tags i).unread (tt, tt)) ∙ none_later g (omega arith)
none_later (own {i = i} {ts = ts} s below first short g) h = not_named i ts (alone (by_tags i).own s (by_tags i).unread (tt, tt)) ∙ none_later g h
none_later (unread s below first g) h = absurd (omega arith)
none_later (last {i = i} s e) h = not_named i [] (alone (by_tags i).rules s (by_tags i).unread (tt, tt))

none_first : {scan : Scan} {ts : List Token} → GoodBody scan ts → first_unread ts ≡ false → unread_of ts ≡ []
none_first (opens {i = i} {ts = ts} s below room g) h = not_named i ts (alone (by_tags i).opens s (by_tags i).unread (tt, tt)) ∙ none_later g (omega arith)
none_first (own {i = i} {ts = ts} s below first short g) h = not_named i ts (alone (by_tags i).own s (by_tags i).unread (tt, tt)) ∙ none_later g first
none_first (unread {i = i} s below first g) h = never (rw s refl) h
none_first (last {i = i} s e) h = not_named i [] (alone (by_tags i).rules s (by_tags i).unread (tt, tt))

-- an item that names an unread fact is no other
is-unread : (i : Item) (f : FactId) → (class_of i).unread ≡ some f → i ≡ Unread f
is-unread (Facts n) f e = absurd (let z : ◌≡◌ {A = ℕ} 0 1 = cc in omega arith)
is-unread (Opens g) f e = absurd (let z : ◌≡◌ {A = ℕ} 0 1 = cc in omega arith)
is-unread (Premise g) f e = absurd (let z : ◌≡◌ {A = ℕ} 0 1 = cc in omega arith)
is-unread (Constraint g) f e = absurd (let z : ◌≡◌ {A = ℕ} 0 1 = cc in omega arith)
is-unread (Rules n) f e = absurd (let z : ◌≡◌ {A = ℕ} 0 1 = cc in omega arith)
is-unread (Names r) f e = absurd (let z : ◌≡◌ {A = ℕ} 0 1 = cc in omega arith)
is-unread (Step g r) f e = absurd (let z : ◌≡◌ {A = ℕ} 0 1 = cc in omega arith)
is-unread (Unread g) f e = let same : g ≡ f = cc in ap Unread same

-- The unread facts of an accepted file stand in front of its other items, each below the count.
pub record UnreadFront (facts : ℕ) (ts : List Token) : Type 0 where
  pub names : List FactId
  pub rest : List Token
  pub stands : ts ≡ map (λ f. item (Unread f)) names ++ rest
  pub none_behind : unread_of rest ≡ []
  pub below : (f : ℕ) → mem f (map (λ g. g.0) names) ≡ true → f < facts

-- none of them
no_front : {facts : ℕ} (ts : List Token) → unread_of ts ≡ [] → UnreadFront facts ts
no_front ts e = record { names = []; rest = ts; stands = refl; none_behind = e; below = λ f m. never m refl }

pub unread_front : {scan : Scan} {ts : List Token} → GoodBody scan ts → UnreadFront scan.facts ts
unread_front (opens {i = i} {ts = ts} s below room g) = no_front (item i ∷ ts) (not_named i ts (alone (by_tags i).opens s (by_tags i).unread (tt, tt)) ∙ none_later g (omega arith))
unread_front (own {i = i} {ts = ts} s below first short g) = no_front (item i ∷ ts) (not_named i ts (alone (by_tags i).own s (by_tags i).unread (tt, tt)) ∙ none_later g first)
unread_front (unread {i = i} {f = f} {ts = ts} s below first g) =
    let t = unread_front g in
    record {
      names = f ∷ t.names;
      rest = t.rest;
      stands = ap (λ (j : Item). item j ∷ ts) (is-unread i f s) ∙ ap (λ (us : List Token). item (Unread f) ∷ us) t.stands;
      none_behind = t.none_behind;
      below = λ h m. ⊎_elim (λ e. rw e below) (t.below h) (mem-cases h f.0 (map (λ g. g.0) t.names) m);
    }
unread_front (last {i = i} s e) = no_front (item i ∷ []) (not_named i [] (alone (by_tags i).rules s (by_tags i).unread (tt, tt)))

-- the facts that they name
pub front-named : (fs : List FactId) (ts : List Token) → unread_of ts ≡ [] → unread_of (map (λ f. item (Unread f)) fs ++ ts) ≡ map (λ f. f.0) fs
front-named [] ts e = e
front-named (f ∷ fs) ts e = ap (λ (gs : List ℕ). f.0 ∷ gs) (front-named fs ts e)

-- the first item names none
pub first-named : (s : List ℕ) (a : AcceptedFile s) → unread_of (items_at s file_start) ≡ unread_of (items_at s (body_start s))
first-named s a = ap unread_of a.read.items ∙ not_named a.first (items_at s (body_start s)) (alone (by_tags a.first).facts a.counts (by_tags a.first).unread (tt, tt))

-- the first item ends where the file is looked at
starts_there : (s : List ℕ) → AcceptedFile s → body_start s ≡ behind_first
starts_there s a =
    let k : get_or s 0 0 ≡ facts_kind narrow = eqb-true _ _ a.read.kind in
    let w : 0 + width_of narrow (get_or s 0 0) ≡ width_of narrow (facts_kind narrow) = omega (arith, ap (width_of narrow) k) in
    ap (λ (at : ℕ). record { at = at; row = Body }) w

pub all_read : (s : List ℕ) → ◌≡◌ {A = Option Refusal} (file_no s) none → first_unread (items_at s behind_first) ≡ false → (f : ℕ) → (program_of s).unread f ≡ false
all_read s e h f =
    let a = accepted_file s e in
    ap (λ (fs : List ℕ). mem f fs) (first-named s a ∙ none_first a.good (ap (λ c. first_unread (items_at s c)) (starts_there s a) ∙ h))
