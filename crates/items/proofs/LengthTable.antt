-- The table of body lengths that the definition gives. The table of the code is held to it entry by entry: all 256 are computed.
use Prim.Native.Nat.{ℕ, zero, suc, ◌+◌, ◌<◌}
use mathlib.Core.Path.{◌≡◌, ap, ◌∙◌}
use mathlib.Core.List.{List, [], ◌∷◌}
use native.Mathlib.Omega.{arith}
use lib.ListN.{get_or}
use Rattle.items.specs.Item.{narrow, body_length}

-- A kind is a byte.
abbrev pub kinds : ℕ
kinds = 256

-- The body lengths of n kinds, from k on.
abbrev pub lengths_from : ℕ → ℕ → List ℕ
lengths_from k zero = []
lengths_from k (suc n) = body_length narrow k ∷ lengths_from (suc k) n

from-kind : (k n i : ℕ) → i < n → get_or (lengths_from k n) i 0 ≡ body_length narrow (k + i)
from-kind k zero i h = absurd (omega arith)
from-kind k (suc n) zero h = ap (body_length narrow) (omega arith)
from-kind k (suc n) (suc i) h = from-kind (suc k) n i (omega arith) ∙ ap (body_length narrow) (omega arith)

-- The entry of each kind is its body length.
pub entry_of : (k : ℕ) → k < kinds → get_or (lengths_from 0 kinds) k 0 ≡ body_length narrow k
entry_of k h = from-kind 0 kinds k h ∙ ap (body_length narrow) (omega arith)
