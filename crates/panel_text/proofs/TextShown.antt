-- A text shown at the front of a buffer.
use Prim.Native.Nat.{ℕ, ◌+◌, ◌≤◌, ◌<◌}
use native.Mathlib.Nat.{zero-add}
use mathlib.Core.Path.{◌≡◌, sym, ap, ◌∙◌}
use mathlib.Core.Bool.{Bool, true, false, cond}
use mathlib.Core.List.{List}
use borrow.Author.Tests.{le-leb, lt-leb}
use lib.ListN.{length, take, drop}
use lib.Seq.{take-append_seam}
use lib.Dec.{leb}
use Rattle.items.specs.Write.{over}
use Rattle.panel_lines.specs.Text.{shown}
use Rattle.questions.specs.Put.{Put}

module _ (text before : List ℕ) where
  -- by the answer whether it fits
  chosen : (b : Bool) → leb (length text) (length before) ≡ b → cond b (over text before) before ≡ shown text before
  chosen b e = ap (λ (x : Bool). cond x (over text before) before) (sym e)

  pub too_long : length before < length text → before ≡ shown text before
  too_long h = chosen false (lt-leb (length text) (length before) h)

  pub it_fits : length text ≤ length before → over text before ≡ shown text before
  it_fits h = chosen true (le-leb (length text) (length before) h)

-- What stands at the front, once it is written there.
pub front-text : (text room after : List ℕ) (n : ℕ) → Put text 0 room n after → take n after ≡ text
front-text text room after n p =
    let end : n ≡ length text = p.behind ∙ zero-add (length text) in
    rw (end, p.bytes_put) (take-append_seam text (drop (0 + length text) room))
