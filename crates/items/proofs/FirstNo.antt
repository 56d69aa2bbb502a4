-- The first no of two lists of questions, one behind the other.
use Prim.Native.Nat.{ℕ}
use native.Mathlib.Omega.{arith}
use mathlib.Core.Path.{◌≡◌, refl}
use mathlib.Core.Bool.{Bool, true, false, cond}
use mathlib.Core.List.{List, [], ◌∷◌, ◌++◌}
use mathlib.Core.Option.{Option, none, some}
use Rattle.items.specs.declared.refusal.Refusal.{Refusal}
use Rattle.items.specs.Question.{Question, first_no}

-- A no to one of the first stops.
pub first-no : (xs ys : List Question) (r : Refusal) → first_no xs ≡ some r → first_no (xs ++ ys) ≡ some r
first-no [] ys r e = absurd (let z : ◌≡◌ {A = ℕ} 0 1 = cc in omega arith)
first-no (q ∷ xs) ys r e = go q.answer e (first-no xs ys r)
  where
    go : (b : Bool) → cond b (first_no xs) (some q.refusal) ≡ some r → (first_no xs ≡ some r → first_no (xs ++ ys) ≡ some r) → cond b (first_no (xs ++ ys)) (some q.refusal) ≡ some r
    go true h f = f h
    go false h f = h

-- A yes to all the first goes on.
pub first-yes : (xs ys : List Question) → ◌≡◌ {A = Option Refusal} (first_no xs) none → first_no (xs ++ ys) ≡ first_no ys
first-yes [] ys e = refl
first-yes (q ∷ xs) ys e = go q.answer e (first-yes xs ys)
  where
    go : (b : Bool) → ◌≡◌ {A = Option Refusal} (cond b (first_no xs) (some q.refusal)) none → (◌≡◌ {A = Option Refusal} (first_no xs) none → first_no (xs ++ ys) ≡ first_no ys) → cond b (first_no (xs ++ ys)) (some q.refusal) ≡ first_no ys
    go true h f = f h
    go false h f = absurd (let z : ◌≡◌ {A = ℕ} 0 1 = cc in omega arith)

-- A yes to all is a yes to the first and to the others.
pub both_yes : (xs ys : List Question) → ◌≡◌ {A = Option Refusal} (first_no (xs ++ ys)) none → (◌≡◌ {A = Option Refusal} (first_no xs) none) × (◌≡◌ {A = Option Refusal} (first_no ys) none)
both_yes [] ys e = (refl, e)
both_yes (q ∷ xs) ys e = go q.answer e (both_yes xs ys)
  where
    go : (b : Bool) → ◌≡◌ {A = Option Refusal} (cond b (first_no (xs ++ ys)) (some q.refusal)) none → (◌≡◌ {A = Option Refusal} (first_no (xs ++ ys)) none → (◌≡◌ {A = Option Refusal} (first_no xs) none) × (◌≡◌ {A = Option Refusal} (first_no ys) none)) → (◌≡◌ {A = Option Refusal} (cond b (first_no xs) (some q.refusal)) none) × (◌≡◌ {A = Option Refusal} (first_no ys) none)
    go true h f = f h
    go false h f = absurd (let z : ◌≡◌ {A = ℕ} 0 1 = cc in omega arith)

pub all_yes : (xs ys : List Question) → ◌≡◌ {A = Option Refusal} (first_no xs) none → ◌≡◌ {A = Option Refusal} (first_no ys) none → ◌≡◌ {A = Option Refusal} (first_no (xs ++ ys)) none
all_yes xs ys a b = rw (first-yes xs ys a) b
