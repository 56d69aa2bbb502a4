-- Bytes, or other numbers, placed in a row, part after part.
use Prim.Native.Nat.{ℕ, ◌+◌, ◌-◌, ◌≤◌, ◌<◌}
use native.Mathlib.Omega.{arith}
use native.Mathlib.Nat.{add-zero}
use native.Mathlib.Numerals.{add-one}
use mathlib.Core.Path.{◌≡◌, sym, ap, ◌∙◌}
use mathlib.Core.List.{List, [], ◌∷◌, ◌++◌, append_assoc}
use lib.ListN.{length, take, drop, set, length-append, length-drop, take-append-drop}
use lib.Seq.{sets, sets-eq, set_split, take_at, drop_at, drop-drop, length-take-le, take-append_seam, drop-append-add}
use Rattle.items.specs.Write.{placed, over}

-- Nothing placed leaves the bytes as they are.
pub placed-none : (at : ℕ) (s : List ℕ) → placed [] at s ≡ s
placed-none at s = ap (λ (n : ℕ). take at s ++ drop n s) (add-zero at) ∙ take-append-drop at s

-- One number placed is stored.
pub placed_one : (x at : ℕ) (s : List ℕ) → at < length s → placed (x ∷ []) at s ≡ set s at x
placed_one x at s h = ap (λ (n : ℕ). take at s ++ (x ∷ drop n s)) (add-one at) ∙ sym (set_split s at x h)

module _ (a s : List ℕ) (at : ℕ) (fits : at + length a ≤ length s) where
  head_length : length (take at s ++ a) ≡ at + length a
  head_length = length-append (take at s) a ∙ ap (λ (n : ℕ). n + length a) (length-take-le at s (omega arith))

  joined : placed a at s ≡ (take at s ++ a) ++ drop (at + length a) s
  joined = sym (append_assoc (take at s) a (drop (at + length a) s))

  -- what stands up to the end of what is placed
  pub placed-front : take (at + length a) (placed a at s) ≡ take at s ++ a
  placed-front = ap (take (at + length a)) joined ∙ take_at (take at s ++ a) (drop (at + length a) s) (at + length a) head_length

  pub placed-length : length (placed a at s) ≡ length s
  placed-length =
      ap length joined ∙ length-append (take at s ++ a) (drop (at + length a) s)
      ∙ rest (length (take at s ++ a)) (length (drop (at + length a) s)) head_length (length-drop (at + length a) s)
    where
      rest : (x y : ℕ) → x ≡ at + length a → y ≡ length s - (at + length a) → x + y ≡ length s
      rest x y p q = omega arith

  -- A row placed is its first part placed, and then the rest after it.
  pub placed-more : (b : List ℕ) → placed (a ++ b) at s ≡ placed b (at + length a) (placed a at s)
  placed-more b = sym (ap (placed b (at + length a)) joined ∙ split)
    where
      tail : drop (at + length a + length b) ((take at s ++ a) ++ drop (at + length a) s) ≡ drop (at + length (a ++ b)) s
      tail =
          sym (drop-drop (length b) (at + length a) ((take at s ++ a) ++ drop (at + length a) s))
          ∙ ap (drop (length b)) (drop_at (take at s ++ a) (drop (at + length a) s) (at + length a) head_length)
          ∙ drop-drop (length b) (at + length a) s
          ∙ ap (λ (n : ℕ). drop n s) (far (length (a ++ b)) (length-append a b))
        where
          far : (n : ℕ) → n ≡ length a + length b → at + length a + length b ≡ at + n
          far n e = omega arith

      split : placed b (at + length a) ((take at s ++ a) ++ drop (at + length a) s) ≡ placed (a ++ b) at s
      split =
          rw (take_at (take at s ++ a) (drop (at + length a) s) (at + length a) head_length, tail)
          (append_assoc (take at s) a (b ++ drop (at + length (a ++ b)) s)
          ∙ ap (λ (l : List ℕ). take at s ++ l) (sym (append_assoc a b (drop (at + length (a ++ b)) s))))

-- One store for each byte.
pub stored : (vs l : List ℕ) (at : ℕ) → at + length vs ≤ length l → sets l at vs ≡ placed vs at l
stored vs l at h = sets-eq vs l at h ∙ append_assoc (take at l) vs (drop (at + length vs) l)

-- What is placed behind the front goes on from there.
pub over-more : (xs bs room : List ℕ) → placed bs (length xs) (over xs room) ≡ over (xs ++ bs) room
over-more xs bs room =
    rw (take-append_seam xs (drop (length xs) room), drop-append-add xs (drop (length xs) room) (length bs), drop-drop (length bs) (length xs) room, length-append xs bs, append_assoc xs bs (drop (length xs + length bs) room))

pub over-length : (xs room : List ℕ) → length xs ≤ length room → length (over xs room) ≡ length room
over-length xs room h = omega (arith, length-append xs (drop (length xs) room), length-drop (length xs) room)
