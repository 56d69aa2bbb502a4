-- The number of stages is the number of rule marks 1.
use Prim.Native.Nat.{ℕ, suc, ◌+◌, ◌<◌}
use native.Mathlib.Omega.{arith}
use mathlib.Core.Path.{◌≡◌, refl, ◌∙◌}
use mathlib.Core.Bool.{Bool, true, false, ◌||◌, cond}
use mathlib.Core.List.{List, [], ◌∷◌, map}
use borrow.Author.Tests.{eqb-true}
use lib.ListN.{length}
use lib.Dec.{eqb}
use Rattle.theory.specs.Rule.{mem, NoRepeat, up_to, how_many, Program, Mask, count, plain}
use Rattle.theory.specs.Run.{Stand, set_aside, rule_mark, marks_of_rules, stage_count, run}
use Rattle.theory.proofs.Bools.{never}
use Rattle.theory.proofs.Lists.{how_many-ext, how_many-up_to, eqb-sym, mem-here, mem-there}
use Rattle.theory.proofs.Run.{Sound, exception-known, not-both, run_sound}

pub how_many-map : (p : ℕ → Bool) (f : ℕ → ℕ) (xs : List ℕ) → how_many p (map f xs) ≡ how_many (λ x. p (f x)) xs
how_many-map p f [] = refl
how_many-map p f (x ∷ xs) = rw (how_many-map p f xs)

-- two tests that never pass together
how_many-or : (p q : ℕ → Bool) → ((x : ℕ) → p x ≡ true → q x ≡ true → ⊥) → (xs : List ℕ) → how_many (λ x. p x || q x) xs ≡ how_many p xs + how_many q xs
how_many-or p q d [] = refl
how_many-or p q d (x ∷ xs) = go (p x) (q x) (d x) (how_many-or p q d xs)
  where
    go : (a b : Bool) → (a ≡ true → b ≡ true → ⊥) → how_many (λ x. p x || q x) xs ≡ how_many p xs + how_many q xs → cond (a || b) (suc (how_many (λ x. p x || q x) xs)) (how_many (λ x. p x || q x) xs) ≡ cond a (suc (how_many p xs)) (how_many p xs) + cond b (suc (how_many q xs)) (how_many q xs)
    go true true n e = absurd (n refl refl)
    go true false n e = omega arith
    go false true n e = omega arith
    go false false n e = e

-- each of n numbers is counted once by a list of some of them without repeats
pub how_many-members : (n : ℕ) (xs : List ℕ) → NoRepeat xs → ((x : ℕ) → mem x xs ≡ true → x < n) → how_many (λ i. mem i xs) (up_to n) ≡ length xs
how_many-members n [] r b = none_passes (up_to n)
  where
    none_passes : (ys : List ℕ) → how_many (λ i. false) ys ≡ 0
    none_passes [] = refl
    none_passes (y ∷ ys) = none_passes ys
how_many-members n (x ∷ xs) r b =
    let here : x < n = b x (mem-here x xs) in
    let one : how_many (λ i. eqb i x) (up_to n) ≡ 1 = how_many-ext (λ i. eqb i x) (eqb x) (up_to n) (λ i _. eqb-sym i x) ∙ how_many-up_to n x here in
    let rest : how_many (λ i. mem i xs) (up_to n) ≡ length xs = how_many-members n xs r.1 (λ y m. b y (mem-there y x xs m)) in
    let both : how_many (λ i. eqb i x || mem i xs) (up_to n) ≡ how_many (λ i. eqb i x) (up_to n) + how_many (λ i. mem i xs) (up_to n) = how_many-or (λ i. eqb i x) (λ i. mem i xs) (λ i e m. never m (rw (eqb-true i x e) r.0)) (up_to n) in
    omega arith

mark_one : (P : Program) (on : Mask) (s : Stand) → Sound P on s → (i : ℕ) → eqb (rule_mark P on s i) 1 ≡ mem i s.applied
unfolding rule_mark
mark_one P on s v i = go (plain P i) refl (mem i s.applied) refl
  where
    other : (b o : Bool) → eqb (cond b 2 (cond o 3 4)) 1 ≡ false
    other true o = refl
    other false true = refl
    other false false = refl

    go : (p : Bool) → plain P i ≡ p → (m : Bool) → mem i s.applied ≡ m → eqb (cond p 0 (cond m 1 (cond (set_aside P on s.derived i) 2 (cond (on i) 3 4)))) 1 ≡ m
    go true e true m = absurd (not-both P on i e (v.excepted i m))
    go true e false m = refl
    go false e true m = refl
    go false e false m = other (set_aside P on s.derived i) (on i)

-- The stage count is the number of rule marks 1.
pub run-stages : (P : Program) (on : Mask) (order : List ℕ) → how_many (λ m. eqb m 1) (marks_of_rules P on (run P on order)) ≡ stage_count (run P on order)
run-stages P on order =
    how_many-map (λ m. eqb m 1) (rule_mark P on (run P on order)) (up_to (count P))
    ∙ (how_many-ext (λ i. eqb (rule_mark P on (run P on order) i) 1) (λ i. mem i (run P on order).applied) (up_to (count P)) (λ i _. mark_one P on (run P on order) (run_sound P on order) i)
    ∙ how_many-members (count P) (run P on order).applied (run_sound P on order).distinct (λ i m. exception-known P on i ((run_sound P on order).excepted i m)))
