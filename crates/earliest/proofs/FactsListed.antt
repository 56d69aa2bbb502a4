-- The loop that lists the facts to guess.
use Prim.Native.Nat.{ℕ, zero, suc, ◌+◌, ◌-◌, ◌<◌, ◌≤◌}
use native.Mathlib.Omega.{arith}
use native.Mathlib.Nat.{zero-add}
use native.Mathlib.Numerals.{add-one}
use mathlib.Core.Path.{◌≡◌, refl, sym, ap, subst, ◌∙◌}
use mathlib.Core.Bool.{Bool, true, false, cond}
use mathlib.Core.List.{List, [], ◌∷◌, ◌++◌, append_assoc}
use lib.ListN.{length, set, take, length-set}
use lib.Seq.{take-suc-set}
use Rattle.items.specs.Item.{max_guessed, has}
use Rattle.theory.specs.Rule.{keep, how_many, range, up_to}
use Rattle.theory.specs.Lists.{down_from}
use Rattle.theory.proofs.Lists.{how_many-append, less_one, range-more}

-- Of the facts below `facts` those from f on are listed.
pub record Down (marks : List ℕ) (facts : ℕ) (row : List ℕ) (n f : ℕ) : Type 0 where
  pub places : length row ≡ max_guessed
  pub below : f ≤ facts
  pub room : n + how_many (has marks) (down_from f) ≤ max_guessed
  pub listed : take n row ++ keep (has marks) (down_from f) ≡ keep (has marks) (down_from facts)

-- counted up or down
pub how_many-down : (p : ℕ → Bool) (n : ℕ) → how_many p (down_from n) ≡ how_many p (up_to n)
how_many-down p zero = refl
how_many-down p (suc n) =
    go (p n) (how_many-down p n)
    ∙ sym (ap (how_many p) (range-more 0 n) ∙ how_many-append p (range 0 n) ((0 + n) ∷ []) ∙ ap (λ (x : ℕ). how_many p (range 0 n) + how_many p (x ∷ [])) (zero-add n))
  where
    go : (b : Bool) → how_many p (down_from n) ≡ how_many p (up_to n) → cond b (suc (how_many p (down_from n))) (how_many p (down_from n)) ≡ how_many p (up_to n) + cond b 1 0
    go true e = omega (arith, e)
    go false e = omega (arith, e)

module _ (marks : List ℕ) (facts : ℕ) (row : List ℕ) where
  pub none_listed : how_many (has marks) (up_to facts) ≤ max_guessed → length row ≡ max_guessed → Down marks facts row 0 facts
  none_listed few l =
      record { places = l; below = omega arith; room = omega (arith, few, how_many-down (has marks) facts); listed = refl }

  module _ (n f : ℕ) (more : 0 < f) (w : Down marks facts row n f) where
    -- the highest that is left
    first-left : down_from f ≡ (f - 1) ∷ down_from (f - 1)
    first-left = go f more
      where
        go : (f : ℕ) → 0 < f → down_from f ≡ (f - 1) ∷ down_from (f - 1)
        go zero l = absurd (omega arith)
        go (suc g) l = rw (less_one g) refl

    abbrev Left : Bool → Type 0
    Left b =
        (n + cond b (suc (how_many (has marks) (down_from (f - 1)))) (how_many (has marks) (down_from (f - 1))) ≤ max_guessed)
        × (take n row ++ cond b ((f - 1) ∷ keep (has marks) (down_from (f - 1))) (keep (has marks) (down_from (f - 1))) ≡ keep (has marks) (down_from facts))

    left : (b : Bool) → has marks (f - 1) ≡ b → Left b
    left b e =
        subst Left e (
          subst (λ (l : List ℕ). n + how_many (has marks) l ≤ max_guessed) first-left w.room,
          subst (λ (l : List ℕ). take n row ++ keep (has marks) l ≡ keep (has marks) (down_from facts)) first-left w.listed,
        )

    pub passed : has marks (f - 1) ≡ false → Down marks facts row n (f - 1)
    passed e =
        record { places = w.places; below = omega (arith, w.below); room = (left false e).0; listed = (left false e).1 }

    module _ (e : has marks (f - 1) ≡ true) where
      pub in-row : n < max_guessed
      in-row = omega (arith, (left true e).0)

      front : take (n + 1) (set row n (f - 1)) ++ keep (has marks) (down_from (f - 1)) ≡ take n row ++ ((f - 1) ∷ keep (has marks) (down_from (f - 1)))
      front =
          ap (λ (m : ℕ). take m (set row n (f - 1)) ++ keep (has marks) (down_from (f - 1))) (add-one n)
          ∙ ap (λ (l : List ℕ). l ++ keep (has marks) (down_from (f - 1))) (take-suc-set row n (f - 1) (omega (arith, in-row, w.places)))
          ∙ append_assoc (take n row) ((f - 1) ∷ []) (keep (has marks) (down_from (f - 1)))

      pub one_listed : Down marks facts (set row n (f - 1)) (n + 1) (f - 1)
      one_listed =
          record {
            places = length-set row n (f - 1) ∙ w.places;
            below = omega (arith, w.below);
            room = omega (arith, (left true e).0);
            listed = front ∙ (left true e).1;
          }
