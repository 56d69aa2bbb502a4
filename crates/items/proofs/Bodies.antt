-- Body lengths and values of items, kind by kind.
use Prim.Native.Nat.{ℕ, suc, ◌+◌, ◌*◌, ◌≤◌}
use mathlib.Core.Path.{◌≡◌, refl, ap, ◌∙◌}
use mathlib.Core.List.{List, [], ◌∷◌}
use native.Mathlib.Omega.{arith}
use borrow.Author.Tests.{ne_eqb}
use native.Mathlib.Numerals.{add-one}
use lib.ListN.{length, get_or, take, drop, length-drop}
use lib.Seq.{drop-cons, drop-drop}
use Rattle.items.specs.Item.{narrow, facts_kind, opens_kind, premise_kind, constraint_kind, rules_kind, names_kind, step_kind, unread_kind, no_such_kind, body_length, big_endian, step_fact, step_rule}

-- a byte that is none of the kinds
pub unknown : (k : ℕ) → (k ≡ opens_kind narrow → ⊥) → (k ≡ premise_kind narrow → ⊥) → (k ≡ constraint_kind narrow → ⊥) → (k ≡ names_kind → ⊥) → (k ≡ step_kind narrow → ⊥) → (k ≡ unread_kind narrow → ⊥) → (k ≡ facts_kind narrow → ⊥) → (k ≡ rules_kind → ⊥) → body_length narrow k ≡ no_such_kind
unfolding body_length
unknown k o p q n s u f r =
    rw
    (ne_eqb k (facts_kind narrow) f, ne_eqb k (opens_kind narrow) o, ne_eqb k (premise_kind narrow) p, ne_eqb k (constraint_kind narrow) q, ne_eqb k (unread_kind narrow) u, ne_eqb k rules_kind r, ne_eqb k names_kind n, ne_eqb k (step_kind narrow) s)

-- Fact numbers and rule numbers, at a place.
pub fact-field_at : (s : List ℕ) (at : ℕ) → at + 1 ≤ length s → get_or s at 0 ≡ big_endian (take 1 (drop at s))
fact-field_at s at h = rw (drop-cons s at 0 (omega arith)) (omega arith)

pub rule-field_at : (s : List ℕ) (at : ℕ) → at + 2 ≤ length s → get_or s at 0 * 256 + get_or s (at + 1) 0 ≡ big_endian (take 2 (drop at s))
rule-field_at s at h = rw (drop-cons s at 0 (omega arith), drop-cons s (suc at) 0 (omega arith), add-one at) (omega arith)

-- The parts of a step's body.
pub record StepBody (l : List ℕ) : Type 0 where
  pub fact : step_fact (take 3 l) ≡ big_endian (take 1 l)
  pub rule : step_rule (take 3 l) ≡ big_endian (take 2 (drop 1 l))

pub step-body : (l : List ℕ) → 3 ≤ length l → StepBody l
step-body [] h = absurd (omega arith)
step-body (a ∷ []) h = absurd (omega arith)
step-body (a ∷ b ∷ []) h = absurd (omega arith)
step-body (a ∷ b ∷ c ∷ l) h = record { fact = refl; rule = refl }

pub step-at : (s : List ℕ) (at : ℕ) → at + 3 ≤ length s → (step_fact (take 3 (drop at s)) ≡ big_endian (take 1 (drop at s))) × (step_rule (take 3 (drop at s)) ≡ big_endian (take 2 (drop (at + 1) s)))
step-at s at h = go (step-body (drop at s) (simp length-drop (omega arith)))
  where
    go : StepBody (drop at s) → (step_fact (take 3 (drop at s)) ≡ big_endian (take 1 (drop at s))) × (step_rule (take 3 (drop at s)) ≡ big_endian (take 2 (drop (at + 1) s)))
    go b = (b.fact, b.rule ∙ ap (λ (l : List ℕ). big_endian (take 2 l)) (drop-drop 1 at s))
