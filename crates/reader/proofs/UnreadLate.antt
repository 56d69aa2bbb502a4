-- Where the unread facts before the first rule end: no item that stands there is one that would be taken.
use Prim.Native.Nat.{ℕ, ◌≤◌}
use native.Mathlib.Omega.{arith}
use mathlib.Core.Path.{◌≡◌, ap, ◌∙◌}
use mathlib.Core.List.{List, [], ◌∷◌}
use mathlib.Core.Option.{Option, none, some}
use Rattle.items.specs.declared.refusal.Refusal.{Refusal}
use Rattle.items.specs.declared.item.FactId.{FactId}
use Rattle.items.specs.declared.item.Item.{Item}
use Rattle.items.specs.declared.item.Item.TheVariants.{Unread}
use Rattle.items.specs.Item.{class_of}
use Rattle.items.proofs.ItemSays.{Tagged, by_tags, unsaid}
use Rattle.cursors.specs.declared.cursor.Cursor.{Cursor}
use Rattle.cursors.specs.declared.cursor.Read.{Read}
use Rattle.cursors.specs.declared.cursor.Read.TheVariants.{Found, Refused, Ended}
use Rattle.cursors.specs.Cursor.{next_at}
use Rattle.reader.specs.Scanning.{Scanning, unopened, UnreadTaken}

never : {A : Type 0} → ◌≡◌ {A = ℕ} 0 1 → A
never z = absurd (omega arith)

-- the item that a read finds is one
same_item : {r : Read} {j i : Item} {d d' : Cursor} → r ≡ Found j d → r ≡ Found i d' → j ≡ i
same_item e q = cc

module _ {facts : ℕ} {s : List ℕ} {c₀ : Cursor} {T marks : List ℕ} {c : Cursor} (w : Scanning facts s c₀ T marks c unopened) (d : Cursor) where
  pub taken-at_refusal : {r : Refusal} → next_at s c ≡ Refused r d → UnreadTaken facts s c₀ T marks c
  taken-at_refusal e = record { scanned = w; rest_late = λ i d' q f is z. never cc }

  pub taken-at_end : next_at s c ≡ Ended d → UnreadTaken facts s c₀ T marks c
  taken-at_end e = record { scanned = w; rest_late = λ i d' q f is z. never cc }

  pub taken-at_other : {j : Item} → next_at s c ≡ Found j d → Tagged (0 ∷ 1 ∷ 2 ∷ 3 ∷ 4 ∷ 5 ∷ 6 ∷ []) j → UnreadTaken facts s c₀ T marks c
  taken-at_other {j} e k =
      record {
        scanned = w;
        rest_late = λ i d' q f is z.
            let said : (class_of j).unread ≡ some f = ap (λ (x : Item). (class_of x).unread) (same_item e q ∙ is) in
            let none_said : ◌≡◌ {A = Option FactId} (class_of j).unread none = unsaid (by_tags j).unread (0 ∷ 1 ∷ 2 ∷ 3 ∷ 4 ∷ 5 ∷ 6 ∷ []) (tt, tt) k in
            never cc;
      }

  pub taken-at_high : {f : FactId} → next_at s c ≡ Found (Unread f) d → facts ≤ f.0 → UnreadTaken facts s c₀ T marks c
  taken-at_high {f} e high =
      record {
        scanned = w;
        rest_late = λ i d' q g is z.
            let named : Unread f ≡ Unread g = same_item e q ∙ is in
            let same : f ≡ g = cc in
            rw same at high;
      }
