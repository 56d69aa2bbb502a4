-- The names of an order, written one after another to the front of a row.
use Prim.Native.Nat.{ℕ, ◌+◌, ◌≤◌, ◌<◌}
use mathlib.Core.Path.{◌≡◌, refl, sym, ap, ◌∙◌}
use mathlib.Core.List.{List, [], ◌∷◌, ◌++◌, append-nil}
use native.Mathlib.Omega.{arith}
use native.Mathlib.Numerals.{add-one}
use lib.ListN.{length, take, set, length-set, length-append}
use lib.Seq.{append_snoc, length-take-le, take-suc-set}
use Rattle.items.specs.Item.{max_rules}

-- The first n cells hold the names read so far; the rest is to come.
pub record Filling (names row rest : List ℕ) (n : ℕ) : Type 0 where
  pub places : length row ≡ max_rules
  pub inside : n ≤ max_rules
  pub same : take n row ++ rest ≡ names

pub none_read : (names row : List ℕ) → length row ≡ max_rules → Filling names row names 0
none_read names row e = record { places = e; inside = omega arith; same = refl }

module _ {names row rest : List ℕ} {n : ℕ} (w : Filling names row rest n) where
  filled : length (take n row) ≡ n
  filled = length-take-le n row (omega (arith, w.places, w.inside))

  counted : n + length rest ≡ length names
  counted = omega (arith, filled, length-append (take n row) rest, ap length w.same)

  pub all_read : rest ≡ [] → (take n row ≡ names) × ((n ≡ length names) × (length row ≡ max_rules))
  all_read e =
      let whole : take n row ≡ names = sym (append-nil (take n row)) ∙ ap (λ (more : List ℕ). take n row ++ more) (sym e) ∙ w.same in
      (whole, (sym filled ∙ ap length whole, w.places))

  pub no_name : (more : List ℕ) → rest ≡ more → Filling names row more n
  no_name more e = rw e at w

  module _ (few : length names ≤ max_rules) (r : ℕ) (more : List ℕ) (e : rest ≡ r ∷ more) where
    pub room-left : n < max_rules
    room-left = omega (arith, counted, ap length e)

    pub one_read : Filling names (set row n r) more (n + 1)
    one_read =
        record {
          places = length-set row n r ∙ w.places;
          inside = omega (arith, room-left);
          same =
              ap (λ (m : ℕ). take m (set row n r) ++ more) (add-one n)
              ∙ ap (λ (front : List ℕ). front ++ more) (take-suc-set row n r (omega (arith, w.places, room-left)))
              ∙ append_snoc (take n row) r more
              ∙ ap (λ (l : List ℕ). take n row ++ l) (sym e)
              ∙ w.same;
        }
