-- What a read gives, test by test: the four ways through `Cursor::next`.
use Prim.Native.Nat.{ℕ, suc, ◌+◌, ◌-◌, ◌<◌, ◌≤◌}
use mathlib.Core.Path.{◌≡◌}
use mathlib.Core.Bool.{true, false}
use mathlib.Core.List.{List}
use native.Mathlib.Omega.{arith}
use native.Mathlib.Numerals.{add-one}
use borrow.Author.Tests.{le-leb, lt-leb}
use lib.ListN.{length, get_or, take, drop, length-drop, drop_of_length-le}
use lib.Seq.{drop-cons}
use lib.Dec.{leb}
use Rattle.cursors.specs.declared.cursor.Fault.TheVariants.{NoByte, OtherKind, ShortBody}
use Rattle.cursors.specs.declared.cursor.Cursor.{Cursor}
use Rattle.cursors.specs.declared.cursor.Read.TheVariants.{Found}
use Rattle.items.specs.Question.{first_no}
use Rattle.items.specs.Item.{body_length, width_of, item_of}
use Rattle.cursors.specs.Cursor.{bad, place_questions, stayed, width_in, of_row, row_after, front, next_at}

module _ (s : List ℕ) (c : Cursor) where
  pub no_byte : length s ≤ c.at → next_at s c ≡ stayed (first_no (place_questions c.row (bad NoByte))) c
  unfolding next_at front
  no_byte h = rw (drop_of_length-le s h)

  module _ (more : c.at < length s) where
    pub other-kind : of_row c.row (get_or s c.at 0) ≡ false → next_at s c ≡ stayed (first_no (place_questions c.row (bad OtherKind))) c
    unfolding next_at front
    other-kind h = rw (drop-cons s c.at 0 more, h)

    module _ (ours : of_row c.row (get_or s c.at 0) ≡ true) where
      pub short_body : length s - (c.at + 1) < body_length (width_in c.row) (get_or s c.at 0) → next_at s c ≡ stayed (first_no (place_questions c.row (bad ShortBody))) c
      unfolding next_at front
      short_body h =
          let short : leb (body_length (width_in c.row) (get_or s c.at 0)) (length (drop (suc c.at) s)) ≡ false = lt-leb (body_length (width_in c.row) (get_or s c.at 0)) (length (drop (suc c.at) s)) (rw length-drop (omega arith)) in
          rw (drop-cons s c.at 0 more, ours, short)

      pub whole_item : body_length (width_in c.row) (get_or s c.at 0) ≤ length s - (c.at + 1) → next_at s c ≡ Found (item_of (width_in c.row) (get_or s c.at 0) (take (body_length (width_in c.row) (get_or s c.at 0)) (drop (c.at + 1) s))) (record { at = c.at + 1 + body_length (width_in c.row) (get_or s c.at 0); row = row_after c.row })
      unfolding next_at front
      whole_item h =
          let whole : leb (body_length (width_in c.row) (get_or s c.at 0)) (length (drop (suc c.at) s)) ≡ true = le-leb (body_length (width_in c.row) (get_or s c.at 0)) (length (drop (suc c.at) s)) (rw length-drop (omega arith)) in
          let place : c.at + width_of (width_in c.row) (get_or s c.at 0) ≡ suc c.at + body_length (width_in c.row) (get_or s c.at 0) = omega arith in
          rw (drop-cons s c.at 0 more, ours, whole, add-one, place)
