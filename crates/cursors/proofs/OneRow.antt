-- The ways through a read whose row is known, for a kind with a body of any length.
use Prim.Native.Nat.{ℕ, ◌+◌, ◌-◌, ◌<◌, ◌≤◌}
use mathlib.Core.Path.{◌≡◌, refl, sym, ap, ap₂, ◌∙◌}
use mathlib.Core.Bool.{Bool, true, false}
use mathlib.Core.Logic.{◌⊎◌, inl, inr}
use mathlib.Core.List.{List}
use native.Mathlib.Omega.{arith}
use lib.ListN.{length, get_or, take, drop}
use Rattle.cursors.specs.declared.cursor.Row.{Row}
use Rattle.items.specs.declared.item.Item.{Item}
use Rattle.items.specs.declared.item.Kind.{Kind}
use Rattle.cursors.specs.declared.cursor.Row.TheVariants.{Body}
use Rattle.cursors.specs.declared.cursor.Fault.{Fault}
use Rattle.cursors.specs.declared.cursor.Fault.TheVariants.{NoByte, OtherKind, ShortBody}
use Rattle.cursors.specs.declared.cursor.Cursor.{Cursor}
use Rattle.cursors.specs.declared.cursor.Read.TheVariants.{Found}
use Rattle.items.specs.Question.{first_no}
use Rattle.items.specs.Item.{narrow, Width, no_such_kind, kind_number, body_length, item_of}
use Rattle.cursors.specs.Cursor.{bad, place_questions, stayed, width_in, of_row, row_after, next_at}
use Rattle.cursors.proofs.EachKind.{all-narrow, known}
use Rattle.cursors.proofs.CursorWays.{no_byte, other-kind, short_body, whole_item}

-- A byte that stands for no kind is of no row.
pub no-kind : (row : Row) (k : ℕ) → body_length narrow k ≡ no_such_kind → of_row row k ≡ false
no-kind row k h = go (of_row row k) refl
  where
    go : (b : Bool) → of_row row k ≡ b → b ≡ false
    go true e = absurd (omega (arith, known row k e))
    go false e = refl

-- The kinds that are not of a file's body.
pub not-in_body : (k : Kind) → (k ≡ Kind.Facts) ⊎ ((k ≡ Kind.Names) ⊎ (k ≡ Kind.Step)) → of_row Body (kind_number k) ≡ false
not-in_body k (inl e) = rw e
not-in_body k (inr (inl e)) = rw e
not-in_body k (inr (inr e)) = rw e

module _ (s : List ℕ) (c : Cursor) (row : Row) (known : c.row ≡ row) where
  stays : (fault : Fault) → next_at s c ≡ stayed (first_no (place_questions c.row (bad fault))) c → stayed (first_no (place_questions row (bad fault))) c ≡ next_at s c
  stays fault e = sym (e ∙ ap (λ (r : Row). stayed (first_no (place_questions r (bad fault))) c) known)

  pub nothing-there : length s ≤ c.at → stayed (first_no (place_questions row (bad NoByte))) c ≡ next_at s c
  nothing-there h = stays NoByte (no_byte s c h)

  module _ (more : c.at < length s) where
    pub unlike : of_row row (get_or s c.at 0) ≡ false → stayed (first_no (place_questions row (bad OtherKind))) c ≡ next_at s c
    unlike h = stays OtherKind (other-kind s c more (rw known h))

    -- a kind of the row, with the length of its body
    module _ (k n : ℕ) (kind : get_or s c.at 0 ≡ k) (ours : of_row row k ≡ true) (looked : n ≡ body_length narrow k) where
      width : body_length (width_in row) k ≡ n
      width = ap (λ (w : Width). body_length w k) (all-narrow row) ∙ sym looked

      pub short : length s - (c.at + 1) < n → stayed (first_no (place_questions row (bad ShortBody))) c ≡ next_at s c
      short h = stays ShortBody (short_body s c more (rw (known, kind) ours) (rw (kind, known, width) h))

      pub whole : n ≤ length s - (c.at + 1) → (i : Item) → i ≡ item_of narrow k (take (body_length narrow k) (drop (c.at + 1) s)) → (next : Row) → next ≡ row_after row → Found i (record { at = c.at + 1 + n; row = next }) ≡ next_at s c
      whole h i e next q =
          let found : next_at s c ≡ Found (item_of narrow k (take n (drop (c.at + 1) s))) (record { at = c.at + 1 + n; row = row_after c.row }) =
          rw (kind, ap width_in known, width, all-narrow row) at (whole_item s c more (rw (known, kind) ours) (rw (kind, known, width) h)) in
          sym (found ∙ ap₂ (λ (j : Item) (r : Row). Found j (record { at = c.at + 1 + n; row = r })) (sym (rw (← looked) at e)) (ap row_after known ∙ sym q))
