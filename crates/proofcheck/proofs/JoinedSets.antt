-- A set joined with the elements of a list, and lists outside sets.
use Prim.Native.Nat.{ℕ}
use mathlib.Core.Path.{◌≡◌, refl, sym, ap, ap₂, fun_ext, ◌∙◌}
use mathlib.Core.Bool.{Bool, true, false, not, ◌&&◌, ◌||◌}
use mathlib.Core.List.{List, [], ◌∷◌}
use lib.Dec.{eqb}
use Rattle.theory.specs.Rule.{clear, mem, FactSet, nothing, adjoin}
use Rattle.theory.proofs.Bools.{and-false}
use Rattle.theory.proofs.Lists.{eqb-sym}
use Rattle.proofcheck.specs.Steps.{joined}

-- The first element may be adjoined before.
pub joined-first : (S : FactSet) (x : ℕ) (xs : List ℕ) → joined (adjoin S x) xs ≡ joined S (x ∷ xs)
joined-first S x xs = fun_ext (λ f. go (eqb f x) (S f) (mem f xs))
  where
    go : (a b c : Bool) → a || b || c ≡ b || (a || c)
    go true true c = refl
    go true false c = refl
    go false b c = refl

-- Outside two sets at once.
pub clear_or : (S T : FactSet) (xs : List ℕ) → clear (λ x. S x || T x) xs ≡ clear S xs && clear T xs
clear_or S T [] = refl
clear_or S T (x ∷ xs) = ap (λ (b : Bool). not (S x || T x) && b) (clear_or S T xs) ∙ go (S x) (T x) (clear S xs) (clear T xs)
  where
    go : (a b c d : Bool) → not (a || b) && (c && d) ≡ (not a && c) && (not b && d)
    go true b c d = refl
    go false true c d = sym (and-false c)
    go false false c d = refl

pub clear-nothing : (xs : List ℕ) → clear nothing xs ≡ true
clear-nothing [] = refl
clear-nothing (x ∷ xs) = clear-nothing xs

pub clear-one : (y : ℕ) (xs : List ℕ) → clear (λ x. eqb x y) xs ≡ not (mem y xs)
clear-one y [] = refl
clear-one y (x ∷ xs) = ap₂ (λ (a b : Bool). not a && b) (eqb-sym x y) (clear-one y xs) ∙ go (eqb y x) (mem y xs)
  where
    go : (a b : Bool) → not a && not b ≡ not (a || b)
    go true b = refl
    go false b = refl

-- Two lists with nothing in common, either way.
pub clear-either : (xs ys : List ℕ) → clear (λ y. mem y xs) ys ≡ clear (λ x. mem x ys) xs
clear-either xs [] = sym (clear-nothing xs)
clear-either xs (y ∷ ys) = ap₂ (λ (a b : Bool). a && b) (sym (clear-one y xs)) (clear-either xs ys) ∙ sym (clear_or (λ x. eqb x y) (λ x. mem x ys) xs)
