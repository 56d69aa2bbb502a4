-- What the arm `_` of a match on an item knows: the tag is one of those that no other arm has.
use mathlib.Core.Path.{◌≡◌}
use mathlib.Core.List.{List, [], ◌∷◌}
use mathlib.Core.Option.{some}
use Rattle.items.specs.declared.refusal.Refusal.TheVariants.{NoFactCount, UnknownKind}
use Rattle.items.specs.declared.item.Item.{Item}
use Rattle.items.specs.Question.{first_no}
use Rattle.cursors.specs.Cursor.{Token, item}
use Rattle.items.proofs.ItemSays.{Tagged, by_tags, unsaid}
use Rattle.reader.specs.Questions.{body_questions, opening_questions, Scan}

abbrev pub NotFacts : Item → Type 0
NotFacts i = Tagged (1 ∷ 2 ∷ 3 ∷ 4 ∷ 5 ∷ 6 ∷ 7 ∷ []) i

pub no-count : (i : Item) (ts : List Token) → NotFacts i → first_no (opening_questions (item i ∷ ts)) ≡ some NoFactCount
no-count i ts k = rw (unsaid (by_tags i).facts (1 ∷ 2 ∷ 3 ∷ 4 ∷ 5 ∷ 6 ∷ 7 ∷ []) (tt, tt) k)

-- not an item of a file's body
abbrev pub NotOfBody : Item → Type 0
NotOfBody i = Tagged (0 ∷ 5 ∷ 6 ∷ []) i

pub not-of_body : (i : Item) (scan : Scan) (ts : List Token) → NotOfBody i → first_no (body_questions scan (item i ∷ ts)) ≡ some UnknownKind
not-of_body i scan ts k =
    rw (unsaid (by_tags i).opens (0 ∷ 5 ∷ 6 ∷ []) (tt, tt) k, unsaid (by_tags i).own (0 ∷ 5 ∷ 6 ∷ []) (tt, (tt, tt)) k, unsaid (by_tags i).rules (0 ∷ 5 ∷ 6 ∷ []) (tt, tt) k, unsaid (by_tags i).unread (0 ∷ 5 ∷ 6 ∷ []) (tt, tt) k)

-- neither a premise nor a constraint
abbrev pub NotOwn : Item → Type 0
NotOwn i = Tagged (0 ∷ 1 ∷ 4 ∷ 5 ∷ 6 ∷ 7 ∷ []) i
