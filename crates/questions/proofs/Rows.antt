-- The steps of a row, read one item after another.
use Prim.Native.Nat.{ℕ}
use mathlib.Core.Path.{◌≡◌, refl, ap, ◌∙◌}
use mathlib.Core.List.{List, [], ◌∷◌}
use Rattle.theory.specs.Rule.{Step as TheStep}
use Rattle.items.specs.declared.refusal.Refusal.{Refusal}
use Rattle.items.specs.declared.item.FactId.{FactId}
use Rattle.items.specs.declared.item.RuleId.{RuleId}
use Rattle.items.specs.declared.item.Item.{Item}
use Rattle.items.specs.declared.item.Item.TheVariants.{Step}
use Rattle.cursors.specs.declared.cursor.Cursor.{Cursor}
use Rattle.cursors.specs.declared.cursor.Read.TheVariants.{Found, Refused, Ended}
use Rattle.cursors.specs.Cursor.{Token, item, next_at, items_at}
use Rattle.items.proofs.ItemSays.{Tagged, by_tags, unsaid}
use Rattle.cursors.proofs.Items.{row-ended}
use Rattle.questions.proofs.ItemWalks.{headed, none_read}
use Rattle.questions.specs.Questions.{step_of, steps_of}

-- the steps from a cursor on
abbrev pub steps_from : List ℕ → Cursor → List TheStep
steps_from s c = steps_of (items_at s c)

abbrev pub NotStep : Item → Type 0
NotStep i = Tagged (0 ∷ 1 ∷ 2 ∷ 3 ∷ 4 ∷ 5 ∷ 7 ∷ []) i

pub no_step : (i : Item) (ts : List Token) → NotStep i → steps_of (item i ∷ ts) ≡ steps_of ts
no_step i ts k = rw (unsaid (by_tags i).step (0 ∷ 1 ∷ 2 ∷ 3 ∷ 4 ∷ 5 ∷ 7 ∷ []) (tt, tt) k)

module _ (s : List ℕ) (c d : Cursor) where
  pub no-step_left : (r : Refusal) → next_at s c ≡ Refused r d → steps_from s c ≡ []
  no-step_left r e = none_read s c d steps_of r e (λ fault. refl)

  pub steps-ended : next_at s c ≡ Ended d → steps_from s c ≡ []
  steps-ended e = ap steps_of (row-ended s c d e)

  module _ (i : Item) (e : next_at s c ≡ Found i d) where
    pub other_item : NotStep i → steps_from s c ≡ steps_from s d
    other_item k = ap steps_of (headed s c d i i e refl) ∙ no_step i (items_at s d) k

    module _ (f : FactId) (r : RuleId) (q : i ≡ Step f r) where
      pub step-read : steps_from s c ≡ step_of f r ∷ steps_from s d
      step-read = ap steps_of (headed s c d i (Step f r) e q)
