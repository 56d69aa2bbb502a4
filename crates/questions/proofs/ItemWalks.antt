-- Walks along the items of a row by reads.
use Prim.Native.Nat.{ℕ}
use mathlib.Core.Path.{◌≡◌, refl, sym, ap, ◌∙◌}
use mathlib.Core.List.{List, [], ◌∷◌}
use mathlib.Core.Logic.{⊎_elim}
use mathlib.Core.Option.{Option, some}
use native.Mathlib.Omega.{arith}
use Rattle.items.specs.declared.refusal.Refusal.{Refusal}
use Rattle.items.specs.declared.item.Item.{Item}
use Rattle.cursors.specs.declared.cursor.Cursor.{Cursor}
use Rattle.cursors.specs.declared.cursor.Read.TheVariants.{Found, Refused}
use Rattle.cursors.specs.declared.cursor.Row.{Row}
use Rattle.cursors.specs.declared.cursor.Row.TheVariants.{Opening, Body, Order, Steps}
use Rattle.cursors.specs.declared.cursor.Fault.{Fault}
use Rattle.cursors.specs.declared.cursor.Fault.TheVariants.{NoByte}
use Rattle.cursors.specs.Cursor.{Token, item, bad, row_after, place_questions, next_at, items_at}
use Rattle.items.specs.Question.{first_no}
use Rattle.items.proofs.ItemSays.{Tagged, by_tags, unsaid}
use Rattle.cursors.proofs.Items.{found, not_found}
use Rattle.questions.specs.Questions.{names_of}
use Rattle.questions.specs.Parts.{Ends}

-- A read finds an item of a known form, or none.
module _ (s : List ℕ) (c d : Cursor) where
  pub headed : (i j : Item) → next_at s c ≡ Found i d → i ≡ j → items_at s c ≡ item j ∷ items_at s d
  headed i j e q = (found s c d i e).items ∙ ap (λ (k : Item). item k ∷ items_at s d) q

  pub none_read : {A : Type 0} (f : List Token → A) (r : Refusal) → next_at s c ≡ Refused r d → ((fault : Fault) → f (bad fault ∷ []) ≡ f []) → f (items_at s c) ≡ f []
  none_read f r e q = ⊎_elim (λ w. ap f w.0) (λ w. ap f w ∙ q (not_found s c d r e).fault) (not_found s c d r e).why

  -- in a row that ends without a no, a refusal has its item
  pub bad_read : (r : Refusal) (e : next_at s c ≡ Refused r d) (row : Row) → Ends row → c.row ≡ row → items_at s c ≡ bad (not_found s c d r e).fault ∷ []
  bad_read r e row k same = let h : Ends c.row = rw same k in ⊎_elim (λ w. absurd (asked c.row h (sym (ap (λ fault. first_no (place_questions c.row (bad fault))) w.1) ∙ (not_found s c d r e).no))) (λ w. w) (not_found s c d r e).why
    where
      asked : (row : Row) → Ends row → ◌≡◌ {A = Option Refusal} (first_no (place_questions row (bad NoByte))) (some r) → ⊥
      asked Opening h q = absurd h
      asked Body h q = absurd h
      asked Order h q = let z : ◌≡◌ {A = ℕ} 0 1 = cc in omega arith
      asked Steps h q = let z : ◌≡◌ {A = ℕ} 0 1 = cc in omega arith

-- A read in such a row leads on in that row.
pub same_row : (s : List ℕ) (c d : Cursor) (i : Item) (row : Row) → next_at s c ≡ Found i d → Ends row → c.row ≡ row → d.row ≡ row
same_row s c d i row e h q = (found s c d i e).row ∙ ap row_after q ∙ stays row h
  where
    stays : (r : Row) → Ends r → row_after r ≡ r
    stays Opening k = absurd k
    stays Body k = absurd k
    stays Order k = refl
    stays Steps k = refl

abbrev pub NotNames : Item → Type 0
NotNames i = Tagged (0 ∷ 1 ∷ 2 ∷ 3 ∷ 4 ∷ 6 ∷ 7 ∷ []) i

no_name : (i : Item) (ts : List Token) → NotNames i → names_of (item i ∷ ts) ≡ names_of ts
no_name i ts k = rw (unsaid (by_tags i).names (0 ∷ 1 ∷ 2 ∷ 3 ∷ 4 ∷ 6 ∷ 7 ∷ []) (tt, tt) k)

module _ (s : List ℕ) (c d : Cursor) (i : Item) (e : next_at s c ≡ Found i d) where
  pub past-names : NotNames i → names_of (items_at s c) ≡ names_of (items_at s d)
  past-names k = ap names_of (found s c d i e).items ∙ no_name i (items_at s d) k
