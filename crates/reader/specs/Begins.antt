-- Internal: whether an unread fact stands where the first item of a file ends. Where none does, an accepted file names none: no other item may stand between the two.
use Rattle.std.specs.Prelude.{Bool, true, false, List, [], ◌∷◌}
use Rattle.items.specs.Item.{narrow, facts_kind, width_of, class_of, where_said}
use Rattle.cursors.specs.declared.cursor.Row.TheVariants.{Body}
use Rattle.cursors.specs.declared.cursor.Cursor.{Cursor}
use Rattle.cursors.specs.Cursor.{Token, item, bad}

abbrev pub behind_first : Cursor
behind_first = record { at = width_of narrow (facts_kind narrow); row = Body }

abbrev pub first_unread : List Token → Bool
first_unread [] = false
first_unread (bad fault ∷ ts) = false
first_unread (item i ∷ ts) = where_said (class_of i).unread (λ f. true) false
