-- What the arm `_` of a match on a read knows: no item was found.
use Prim.Native.Nat.{ℕ}
use mathlib.Core.Path.{◌≡◌, ap, ◌∙◌}
use mathlib.Core.List.{List, [], ◌∷◌}
use mathlib.Core.Logic.{⊎_elim}
use types.Run.{OneOf, miss}
use denote.Enum.Declared.{tag_of}
use Rattle.cursors.specs.contracts.cursor.Read as read
use Rattle.cursors.specs.declared.cursor.Cursor.{Cursor}
use Rattle.cursors.specs.declared.cursor.Fault.{Fault}
use Rattle.cursors.specs.declared.cursor.Read.{Read}
use Rattle.cursors.specs.declared.cursor.Read.TheVariants.{Found, Refused, Ended}
use Rattle.cursors.specs.Cursor.{Token, bad, next_at, items_at}
use Rattle.cursors.proofs.Items.{not_found, row-ended}

-- A read without an item leaves to a function that stops there what the end of the row does.
abbrev pub NotFound : Read → Type 0
NotFound r = OneOf (1 ∷ 2 ∷ []) (tag_of read.the_type r)

pub nothing_read : {A : Type 0} (f : List Token → A) → ((fault : Fault) → f (bad fault ∷ []) ≡ f []) → (s : List ℕ) (c : Cursor) (r : Read) → next_at s c ≡ r → NotFound r → f (items_at s c) ≡ f []
nothing_read f h s c (Found i d) e k = absurd (miss (1 ∷ 2 ∷ []) 0 tt k)
nothing_read f h s c (Refused r d) e k = ⊎_elim (λ w. ap f w.0) (λ w. ap f w ∙ h (not_found s c d r e).fault) (not_found s c d r e).why
nothing_read f h s c (Ended d) e k = ap f (row-ended s c d e)
