-- Laws of truth values.
use mathlib.Core.Path.{◌≡◌, refl, sym, ◌∙◌}
use mathlib.Core.Bool.{Bool, true, false, not, ◌&&◌, ◌||◌, beq, true≢false}
use mathlib.Core.Logic.{◌⊎◌, inl, inr}

-- a value is true or false, with the equation
pub either : (b : Bool) → (b ≡ true) ⊎ (b ≡ false)
either true = inl refl
either false = inr refl

pub never : {A : Type 0} {b : Bool} → b ≡ true → b ≡ false → A
never p q = absurd (true≢false (sym p ∙ q))

pub and_left : (a b : Bool) → a && b ≡ true → a ≡ true
and_left true b p = refl
and_left false b p = p

pub and_right : (a b : Bool) → a && b ≡ true → b ≡ true
and_right true b p = p
and_right false b p = never p refl

pub and_both : {a b : Bool} → a ≡ true → b ≡ true → a && b ≡ true
and_both {a} {b} p q = rw p q

pub or_left : (a b : Bool) → a ≡ true → a || b ≡ true
or_left a b p = rw p refl

pub or_right : (a b : Bool) → b ≡ true → a || b ≡ true
or_right true b p = refl
or_right false b p = p

pub or_cases : (a b : Bool) → a || b ≡ true → (a ≡ true) ⊎ (b ≡ true)
or_cases true b p = inl refl
or_cases false b p = inr p

pub or-false : (a b : Bool) → a ≡ false → b ≡ false → a || b ≡ false
or-false a b p q = rw p q

pub or-false_left : (a b : Bool) → a || b ≡ false → a ≡ false
or-false_left true b p = p
or-false_left false b p = refl

pub or-false_right : (a b : Bool) → a || b ≡ false → b ≡ false
or-false_right true b p = never refl p
or-false_right false b p = p

pub not_of_false : {a : Bool} → a ≡ false → not a ≡ true
not_of_false p = rw p refl

pub false_of_not : (a : Bool) → not a ≡ true → a ≡ false
false_of_not true p = never p refl
false_of_not false p = refl

pub false_of : (a : Bool) → (a ≡ true → ⊥) → a ≡ false
false_of true h = absurd (h refl)
false_of false h = refl

-- two values that are true together are equal
pub both_ways : (a b : Bool) → (a ≡ true → b ≡ true) → (b ≡ true → a ≡ true) → a ≡ b
both_ways true b f g = sym (f refl)
both_ways false true f g = g refl
both_ways false false f g = refl

pub beq-true : (a b : Bool) → beq a b ≡ true → a ≡ b
beq-true true true p = refl
beq-true true false p = never p refl
beq-true false true p = never p refl
beq-true false false p = refl

pub beq-refl : (a b : Bool) → a ≡ b → beq a b ≡ true
beq-refl a b p = rw p (same b)
  where
    same : (c : Bool) → beq c c ≡ true
    same true = refl
    same false = refl

pub or-none : (a : Bool) → a || false ≡ a
or-none true = refl
or-none false = refl

pub or_assoc : (a b c : Bool) → a || (b || c) ≡ a || b || c
or_assoc true b c = refl
or_assoc false b c = refl

pub and-true : (a : Bool) → a && true ≡ a
and-true true = refl
and-true false = refl

pub and-false : (a : Bool) → a && false ≡ false
and-false true = refl
and-false false = refl
