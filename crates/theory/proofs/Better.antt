-- Choosing by cost: the comparison, the better of two, and the best of three by pairs; the rules that a run sets aside are its rule marks 2.
use Prim.Native.Nat.{ℕ, ◌≤◌, ◌<◌}
use native.Mathlib.Omega.{arith}
use native.Mathlib.Decide.{dec_lt}
use mathlib.Core.Path.{◌≡◌, sym, ap, ◌∙◌}
use mathlib.Core.Bool.{true, false}
use mathlib.Core.List.{List}
use mathlib.Core.Logic.{◌⊎◌, inl, inr, ⊎_elim}
use borrow.Author.Tests.{lt-ltb, le-ltb}
use lib.Dec.{eqb}
use Rattle.theory.specs.Rule.{up_to, how_many, Program, Mask, count}
use Rattle.theory.specs.Run.{set_aside, rule_mark, marks_of_rules, run}
use Rattle.theory.specs.Better.{aside_count, second_preferred, better, FewestOfThree}
use Rattle.theory.proofs.Lists.{how_many-ext}
use Rattle.theory.proofs.Counts.{how_many-map}
use Rattle.theory.proofs.Run.{run_sound}
use Rattle.theory.proofs.Marks.{mark_aside}

pub prefers_first : (first second : ℕ) → first ≤ second → second_preferred first second ≡ false
unfolding second_preferred
prefers_first first second l = le-ltb second first l

pub prefers_second : (first second : ℕ) → second < first → second_preferred first second ≡ true
unfolding second_preferred
prefers_second first second l = lt-ltb second first l

module _ {A : Type 0} (cost : A → ℕ) where
  -- Of any two, one costs at most as much as the other, and what costs at most as much as a second costs at most as much as what the second does.
  pub cost_total : (x y : A) → (cost x ≤ cost y) ⊎ (cost y ≤ cost x)
  cost_total x y = go (dec_lt (cost y) (cost x))
    where
      go : Dec (cost y < cost x) → (cost x ≤ cost y) ⊎ (cost y ≤ cost x)
      go (yes l) = inr (omega arith)
      go (no h) = inl (omega arith)

  pub better-first : (x y : A) → cost x ≤ cost y → better cost x y ≡ x
  better-first x y l = rw (prefers_first (cost x) (cost y) l)

  pub better-second : (x y : A) → cost y < cost x → better cost x y ≡ y
  better-second x y l = rw (prefers_second (cost x) (cost y) l)

  -- What was chosen of two: by which of the two ways.
  pub better-ways : (x y : A) → ((cost x ≤ cost y) × (better cost x y ≡ x)) ⊎ ((cost y < cost x) × (better cost x y ≡ y))
  better-ways x y = go (dec_lt (cost y) (cost x))
    where
      go : Dec (cost y < cost x) → ((cost x ≤ cost y) × (better cost x y ≡ x)) ⊎ ((cost y < cost x) × (better cost x y ≡ y))
      go (yes l) = inr (l, better-second x y l)
      go (no h) = let l : cost x ≤ cost y = omega arith in inl (l, better-first x y l)

  pub better-one_of : (x y : A) → (better cost x y ≡ x) ⊎ (better cost x y ≡ y)
  better-one_of x y = ⊎_elim (λ w. inl w.1) (λ w. inr w.1) (better-ways x y)

  pub better-fewest : (x y : A) → (cost (better cost x y) ≤ cost x) × (cost (better cost x y) ≤ cost y)
  better-fewest x y =
      ⊎_elim
      (λ w. let e : cost (better cost x y) ≡ cost x = ap cost w.1 in let l : cost x ≤ cost y = w.0 in (omega arith, omega arith))
      (λ w. let e : cost (better cost x y) ≡ cost y = ap cost w.1 in let l : cost y < cost x = w.0 in (omega arith, omega arith))
      (better-ways x y)

  -- By pairs, the first two first.
  pub better-left : (x y z : A) → FewestOfThree cost x y z (better cost (better cost x y) z)
  better-left x y z =
      let two = better-fewest x y in
      let three = better-fewest (better cost x y) z in
      record {
        one_of = ⊎_elim (λ e. ⊎_elim (λ f. inl (e ∙ f)) (λ f. inr (inl (e ∙ f))) (better-one_of x y)) (λ e. inr (inr e)) (better-one_of (better cost x y) z);
        below_first = omega (arith, two.0, three.0);
        below_second = omega (arith, two.1, three.0);
        below_third = three.1;
      }

  -- The last two first: the same is chosen.
  pub better-pairs : (x y z : A) → better cost (better cost x y) z ≡ better cost x (better cost y z)
  better-pairs x y z = ⊎_elim first second (better-ways x y)
    where
      kept : (cost x ≤ cost y) → ((cost y ≤ cost z) × (better cost y z ≡ y)) ⊎ ((cost z < cost y) × (better cost y z ≡ z)) → better cost x z ≡ better cost x (better cost y z)
      kept l (inl v) = better-first x z (omega (arith, v.0)) ∙ sym (ap (better cost x) v.1 ∙ better-first x y l)
      kept l (inr v) = sym (ap (better cost x) v.1)

      first : (cost x ≤ cost y) × (better cost x y ≡ x) → better cost (better cost x y) z ≡ better cost x (better cost y z)
      first w = ap (λ (u : A). better cost u z) w.1 ∙ kept w.0 (better-ways y z)

      second : (cost y < cost x) × (better cost x y ≡ y) → better cost (better cost x y) z ≡ better cost x (better cost y z)
      second w = ap (λ (u : A). better cost u z) w.1 ∙ sym (better-second x (better cost y z) (omega (arith, w.0, (better-fewest y z).0)))

-- The rules that an order sets aside are those with rule mark 2.
module _ (P : Program) (on : Mask) (order : List ℕ) where
  pub marked-aside : how_many (λ i. eqb (rule_mark P on (run P on order) i) 2) (up_to (count P)) ≡ aside_count P on order
  unfolding aside_count
  marked-aside = how_many-ext _ (set_aside P on (run P on order).derived) (up_to (count P)) (λ i _. mark_aside P on (run P on order) (run_sound P on order) i)

  pub run-asides : how_many (λ m. eqb m 2) (marks_of_rules P on (run P on order)) ≡ aside_count P on order
  run-asides = how_many-map (λ m. eqb m 2) (rule_mark P on (run P on order)) (up_to (count P)) ∙ marked-aside
