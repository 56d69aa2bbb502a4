-- Bytes written one after another at the front of a buffer.
use Prim.Native.Nat.{ℕ, ◌+◌, ◌*◌, ◌≤◌, ◌<◌}
use mathlib.Core.Path.{◌≡◌, refl, sym, ap, ◌∙◌}
use mathlib.Core.List.{List, [], ◌∷◌, ◌++◌, map, map-append}
use native.Mathlib.Omega.{arith}
use native.Mathlib.Numerals.{add-one}
use lib.ListN.{length, get_or, take, length-map}
use lib.Seq.{take-suc, take_all, length-take-le}
use Rattle.theory.specs.Rule.{Program, Step, rule}
use Rattle.theory.specs.Derive.{step_by}
use Rattle.items.specs.Item.{narrow, step_width}
use Rattle.items.specs.Write.{step_item, placed, over}
use Rattle.items.proofs.PlacedBytes.{over-more}
use Rattle.closure.specs.Steps.{step_bytes}

pub step-bytes_append : (xs ys : List Step) → step_bytes narrow (xs ++ ys) ≡ step_bytes narrow xs ++ step_bytes narrow ys
step-bytes_append [] ys = refl
step-bytes_append (s ∷ xs) ys =
    ap (λ (bs : List ℕ). step_item narrow s.fact s.by ++ bs) (step-bytes_append xs ys)

pub step-bytes_length : (row : List Step) → length (step_bytes narrow row) ≡ step_width narrow * length row
step-bytes_length [] = refl
step-bytes_length (s ∷ row) = omega (arith, step-bytes_length row)

-- The steps of a row, and then those of another.
pub steps-more : (xs ys : List Step) (room : List ℕ) (n : ℕ) → n ≡ length xs → placed (step_bytes narrow ys) (step_width narrow * n) (over (step_bytes narrow xs) room) ≡ over (step_bytes narrow (xs ++ ys)) room
steps-more xs ys room n e =
    let at : step_width narrow * n ≡ length (step_bytes narrow xs) = omega (arith, step-bytes_length xs) in
    rw (at, step-bytes_append xs ys) (over-more (step_bytes narrow xs) (step_bytes narrow ys) room)

-- The steps of the rules that fired, written one after another; those of the first k are.
pub record Writing (P : Program) (fired room out : List ℕ) (k : ℕ) : Type 0 where
  pub length_kept : length out ≡ length room
  pub front_is : out ≡ over (step_bytes narrow (map (step_by P) (take k fired))) room

pub none_written : (P : Program) (fired room : List ℕ) → Writing P fired room room 0
none_written P fired room = record { length_kept = refl; front_is = refl }

module _ {P : Program} {fired room out : List ℕ} {k : ℕ} (w : Writing P fired room out k) where
  pub all-written : length fired ≤ k → out ≡ over (step_bytes narrow (map (step_by P) fired)) room
  all-written h = rw (take_all k fired h) at w.front_is

  module _ (h : k < length fired) (f i : ℕ) (is : i ≡ get_or fired k 0) (concludes : f ≡ (rule P i).conclusion) where
    one_more : map (step_by P) (take k fired) ++ (step_by P i ∷ []) ≡ map (step_by P) (take (k + 1) fired)
    one_more =
        ap (λ (j : ℕ). map (step_by P) (take k fired) ++ (step_by P j ∷ [])) is
        ∙ sym (map-append (step_by P) (take k fired) (get_or fired k 0 ∷ []))
        ∙ ap (map (step_by P)) (sym (take-suc fired k 0 (omega arith)))
        ∙ ap (λ (m : ℕ). map (step_by P) (take m fired)) (sym (add-one k))

    pub one_written : (after : List ℕ) → after ≡ placed (step_item narrow f i) (step_width narrow * k) out → length after ≡ length out → Writing P fired room after (k + 1)
    one_written after e l =
        record {
          length_kept = l ∙ w.length_kept;
          front_is =
              e
              ∙ rw (concludes, w.front_is) (steps-more (map (step_by P) (take k fired)) (step_by P i ∷ []) room k (sym (length-map (take k fired) (step_by P) ∙ length-take-le k fired (omega arith))))
              ∙ ap (λ (row : List Step). over (step_bytes narrow row) room) one_more;
        }
