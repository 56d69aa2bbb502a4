-- The elements of mapped lists.
use Prim.Native.Nat.{ℕ, ◌<◌}
use mathlib.Core.Path.{◌≡◌, refl, sym, subst, ◌∙◌}
use mathlib.Core.Bool.{Bool, true}
use mathlib.Core.List.{List, [], ◌∷◌, map, reverse}
use mathlib.Core.Logic.{⊎_elim}
use lib.ListN.{length, get_or}
use Rattle.std.proofs.lemmas.List.{length-map, get_or-map}
use Rattle.theory.specs.Rule.{mem}
use Rattle.theory.proofs.Bools.{never, both_ways}
use Rattle.theory.proofs.Lists.{mem-here, mem-there, mem-cases}
use Rattle.tables.proofs.PartsHeld.{mem-reversed}
use Rattle.index.specs.Literal.{outside}

pub mem-map : (f : ℕ → ℕ) (xs : List ℕ) (x : ℕ) → mem x xs ≡ true → mem (f x) (map f xs) ≡ true
mem-map f [] x m = never m refl
mem-map f (y ∷ ys) x m = ⊎_elim (λ w. subst (λ (z : ℕ). mem (f z) (f y ∷ map f ys) ≡ true) (sym w) (mem-here (f y) (map f ys))) (λ w. mem-there (f x) (f y) (map f ys) (mem-map f ys x w)) (mem-cases x y ys m)

-- what holds of each element of a mapped list
pub map-mem : (f : ℕ → ℕ) (p : ℕ → Bool) (xs : List ℕ) → ((x : ℕ) → mem x xs ≡ true → p (f x) ≡ true) → (y : ℕ) → mem y (map f xs) ≡ true → p y ≡ true
map-mem f p [] h y m = never m refl
map-mem f p (x ∷ xs) h y m = ⊎_elim (λ w. rw w (h x (mem-here x xs))) (λ w. map-mem f p xs (λ z k. h z (mem-there z x xs k)) y w) (mem-cases y (f x) (map f xs) m)

-- The literals of a list of facts, one by one.
pub mapped-below : (own : List ℕ) (k : ℕ) → k < length own → k < length (map outside own)
mapped-below own k h = rw (length-map own outside) h

pub mapped-element : (own : List ℕ) (k : ℕ) → k < length own → outside (get_or own k 0) ≡ get_or (map outside own) k 0
mapped-element own k h = sym (get_or-map outside own k 0 0 h)

-- The literals of a part that stands the last one first.
pub mapped_reversed : (own elements : List ℕ) → own ≡ reverse elements → (f : ℕ) → mem f (map outside own) ≡ mem f (map outside elements)
mapped_reversed own elements e f =
    both_ways _ _
    (λ m. map-mem outside (λ y. mem y (map outside elements)) own (λ x h. mem-map outside elements x (sym (mem-reversed elements e x) ∙ h)) f m)
    (λ m. map-mem outside (λ y. mem y (map outside own)) elements (λ x h. mem-map outside own x (mem-reversed elements e x ∙ h)) f m)
