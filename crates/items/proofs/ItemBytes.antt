-- The bytes of items one after another.
use mathlib.Core.Path.{◌≡◌, refl, sym, ap, ◌∙◌}
use mathlib.Core.List.{List, [], ◌∷◌, ◌++◌, append_assoc}
use Prim.Native.Nat.{ℕ}
use Rattle.items.specs.declared.item.Item.{Item}
use Rattle.items.specs.Item.{Width}
use Rattle.items.specs.Write.{item_bytes, bytes_of}

pub bytes_append : (w : Width) (is js : List Item) → bytes_of w (is ++ js) ≡ bytes_of w is ++ bytes_of w js
bytes_append w [] js = refl
bytes_append w (i ∷ is) js =
    ap (λ (bytes : List ℕ). item_bytes w i ++ bytes) (bytes_append w is js) ∙ sym (append_assoc (item_bytes w i) (bytes_of w is) (bytes_of w js))
