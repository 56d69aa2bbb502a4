-- How many numbers pass a test, how many of a list's are missing from a set, and sums of values.
use Prim.Native.Nat.{ℕ, suc, ◌+◌, ◌*◌, ◌<◌, ◌≤◌}
use native.Mathlib.Omega.{arith}
use mathlib.Core.Path.{◌≡◌, refl, sym, ap, ◌∙◌}
use mathlib.Core.Bool.{Bool, true, false, cond, not, ◌&&◌, ◌||◌}
use mathlib.Core.List.{List, [], ◌∷◌}
use mathlib.Core.Logic.{⊎_elim}
use borrow.Author.Tests.{eqb-true}
use lib.ListN.{length}
use lib.Dec.{eqb}
use Rattle.theory.specs.Rule.{all, mem, how_many, up_to, adjoin, FactSet}
use Rattle.theory.specs.Lists.{sum_of}
use Rattle.theory.proofs.Bools.{either, never, and-false, and_left, and_right, and_both, or_left, not_of_false, false_of_not, false_of}
use Rattle.theory.proofs.Lists.{eqb-self, eqb-sym, mem-here, mem-there, mem-cases, up_to-mem, length-range, all_of, all-elem, how_many-le, how_many-less, how_many-every, how_many-up_to}

-- no element passes where none is counted
pub counted_none : (p : ℕ → Bool) (xs : List ℕ) → how_many p xs ≡ 0 → (x : ℕ) → mem x xs ≡ true → p x ≡ false
counted_none p [] e x m = never m refl
counted_none p (y ∷ ys) e x m = go (p y) refl (counted_none p ys)
  where
    go : (b : Bool) → p y ≡ b → (how_many p ys ≡ 0 → (z : ℕ) → mem z ys ≡ true → p z ≡ false) → p x ≡ false
    go true q r = let z : suc (how_many p ys) ≡ 0 = rw (q, how_many) at e in absurd (omega arith)
    go false q r = ⊎_elim (λ w. rw w q) (λ w. r (rw (q, how_many) at e) x w) (mem-cases x y ys m)

pub none_counted : (p : ℕ → Bool) (xs : List ℕ) → ((x : ℕ) → mem x xs ≡ true → p x ≡ false) → how_many p xs ≡ 0
none_counted p [] h = refl
none_counted p (y ∷ ys) h = rw (h y (mem-here y ys)) (none_counted p ys (λ x m. h x (mem-there x y ys m)))

-- A test that fails at one number more passes fewer elements, by as many as that number stands there.
pub counted_without : (p q : ℕ → Bool) (n : ℕ) → p n ≡ true → q n ≡ false → ((x : ℕ) → eqb n x ≡ false → p x ≡ q x) → (xs : List ℕ) → how_many p xs ≡ how_many q xs + how_many (eqb n) xs
counted_without p q n t f same [] = refl
counted_without p q n t f same (x ∷ xs) = go (eqb n x) refl (counted_without p q n t f same xs)
  where
    go : (b : Bool) → eqb n x ≡ b → how_many p xs ≡ how_many q xs + how_many (eqb n) xs → how_many p (x ∷ xs) ≡ how_many q (x ∷ xs) + how_many (eqb n) (x ∷ xs)
    go true e r =
        let is-n : x ≡ n = sym (eqb-true n x e) in
        rw (e, is-n, t, f) (omega arith)
    go false e r = rw (e, same x e) (more (q x) r)
      where
        more : (b : Bool) → how_many p xs ≡ how_many q xs + how_many (eqb n) xs → cond b (suc (how_many p xs)) (how_many p xs) ≡ cond b (suc (how_many q xs)) (how_many q xs) + how_many (eqb n) xs
        more true u = omega arith
        more false u = u

-- a test that fails at a number below n
pub counted_below : (p : ℕ → Bool) (n x : ℕ) → x < n → p x ≡ false → how_many p (up_to n) < n
counted_below p n x l f = bound (how_many-less (λ _. true) p (up_to n) (λ y t. refl) x (up_to-mem n x l) refl f) (how_many-every (up_to n)) (length-range 0 n)
  where
    bound : {a b c d : ℕ} → a < b → b ≡ c → c ≡ d → a < d
    bound h e g = omega arith

pub counted_most : (p : ℕ → Bool) (n : ℕ) → how_many p (up_to n) ≤ n
counted_most p n = bound (how_many-le p (up_to n)) (length-range 0 n)
  where
    bound : {a b c : ℕ} → a ≤ b → b ≡ c → a ≤ c
    bound h e = omega arith

-- One number fewer, and one more.
pub counted_less : (p q : ℕ → Bool) (n l : ℕ) → l < n → p l ≡ true → q l ≡ false → ((x : ℕ) → eqb l x ≡ false → p x ≡ q x) → how_many p (up_to n) ≡ how_many q (up_to n) + 1
counted_less p q n l h t f same = counted_without p q l t f same (up_to n) ∙ ap (λ (m : ℕ). how_many q (up_to n) + m) (how_many-up_to n l h)

pub counted_more : (p : ℕ → Bool) (n l : ℕ) → l < n → p l ≡ false → how_many (adjoin p l) (up_to n) ≡ how_many p (up_to n) + 1
counted_more p n l h f = counted_less (adjoin p l) p n l h (or_left _ _ (eqb-self l)) f (λ x e. ap (λ (b : Bool). b || p x) (eqb-sym x l ∙ e))

-- the elements of a list that are missing from a set
abbrev pub lacked_of : List ℕ → FactSet → ℕ → Bool
lacked_of xs S f = mem f xs && not (S f)

-- One that was missing and enters the set is one fewer where the list has it, and changes nothing elsewhere.
module _ (xs : List ℕ) (S : FactSet) (l : ℕ) (out : S l ≡ false) where
  others : (x : ℕ) → eqb l x ≡ false → lacked_of xs S x ≡ lacked_of xs (adjoin S l) x
  others x e = ap (λ (b : Bool). mem x xs && not b) (sym (ap (λ (b : Bool). b || S x) (eqb-sym x l ∙ e)))

  no_more : lacked_of xs (adjoin S l) l ≡ false
  no_more = ap (λ (b : Bool). mem l xs && not b) (or_left _ (S l) (eqb-self l)) ∙ and-false (mem l xs)

  pub listed-fewer : (n : ℕ) → l < n → mem l xs ≡ true → how_many (lacked_of xs S) (up_to n) ≡ how_many (lacked_of xs (adjoin S l)) (up_to n) + 1
  listed-fewer n h m = counted_less _ _ n l h (rw (m, out) refl) no_more others

  pub unlisted-same : mem l xs ≡ false → (x : ℕ) → lacked_of xs S x ≡ lacked_of xs (adjoin S l) x
  unlisted-same m x = ⊎_elim (λ e. here (eqb-true l x e)) (λ e. others x e) (either (eqb l x))
    where
      here : l ≡ x → lacked_of xs S x ≡ lacked_of xs (adjoin S l) x
      here is = rw (← is) (rw m refl)

-- None is missing exactly where every element is in the set.
pub none_lacked : (xs : List ℕ) (S : FactSet) (n : ℕ) → ((x : ℕ) → mem x xs ≡ true → x < n) → how_many (lacked_of xs S) (up_to n) ≡ 0 → all S xs ≡ true
none_lacked xs S n below e = all_of S xs (λ x m. in_set x m (counted_none (lacked_of xs S) (up_to n) e x (up_to-mem n x (below x m))))
  where
    in_set : (x : ℕ) → mem x xs ≡ true → lacked_of xs S x ≡ false → S x ≡ true
    in_set x m f = ⊎_elim (λ t. t) (λ o. never (and_both m (not_of_false o)) f) (either (S x))

pub lacked-none : (xs : List ℕ) (S : FactSet) (n : ℕ) → all S xs ≡ true → how_many (lacked_of xs S) (up_to n) ≡ 0
lacked-none xs S n a = none_counted (lacked_of xs S) (up_to n) (λ x _. false_of (lacked_of xs S x) (λ t. out x t))
  where
    out : (x : ℕ) → lacked_of xs S x ≡ true → ⊥
    out x t = never (all-elem S xs a x (and_left (mem x xs) _ t)) (false_of_not (S x) (and_right (mem x xs) _ t))

-- The sum of some values: smaller where each is at most as large and one is smaller, and at most the bound of each as often as there are values.
pub sum_mono : (v w : ℕ → ℕ) → ((x : ℕ) → v x ≤ w x) → (xs : List ℕ) → sum_of v xs ≤ sum_of w xs
sum_mono v w h [] = omega arith
sum_mono v w h (x ∷ xs) = omega (arith, h x, sum_mono v w h xs)

pub sum_less : (v w : ℕ → ℕ) → ((x : ℕ) → v x ≤ w x) → (xs : List ℕ) (y : ℕ) → mem y xs ≡ true → v y < w y → sum_of v xs < sum_of w xs
sum_less v w h [] y m l = never m refl
sum_less v w h (x ∷ xs) y m l =
    ⊎_elim
    (λ e. let l' : v x < w x = rw (← e) l in omega (arith, sum_mono v w h xs))
    (λ e. omega (arith, h x, sum_less v w h xs y e l))
    (mem-cases y x xs m)

pub sum_most : (v : ℕ → ℕ) (n : ℕ) → ((x : ℕ) → v x ≤ n) → (xs : List ℕ) → sum_of v xs ≤ n * length xs
sum_most v n h [] = omega arith
sum_most v n h (x ∷ xs) = omega (arith, h x, sum_most v n h xs)
