-- The test of a row agrees with `Proof` and `Admits`, both ways.
use Prim.Native.Nat.{ℕ, zero, suc, ◌-◌, ◌<◌}
use native.Mathlib.Omega.{arith}
use mathlib.Core.Path.{◌≡◌, refl}
use mathlib.Core.Bool.{Bool, true, false, ◌&&◌, ◌||◌}
use mathlib.Core.List.{List, [], ◌∷◌}
use mathlib.Core.Logic.{◌↔◌}
use borrow.Author.Tests.{ltb-true, lt-ltb, eqb-true, eq-eqb}
use lib.ListN.{length, take}
use lib.Dec.{eqb, ltb}
use Rattle.theory.specs.Rule.{all, clear, Program, Mask, FactSet, nothing, adjoin, count, rule, Step}
use Rattle.theory.specs.Stable.{step_at, facts_of, used_rule, Proof, Admits}
use Rattle.theory.specs.Check.{step_holds, steps_hold, row_clear, ends_with, is_proof}
use Rattle.theory.proofs.Bools.{never, and_left, and_right, and_both}
use Rattle.theory.proofs.Lists.{less_one}
use Rattle.theory.proofs.Derive.{union}
use Rattle.theory.proofs.Grounds.{Grounded, Grounds, grounded_mono, grounds_at}

module _ (P : Program) (on : Mask) where
  holds_grounded : (S : FactSet) (s : Step) → step_holds P on S s ≡ true → Grounded P on S s
  unfolding step_holds
  holds_grounded S s e =
      let e3 = and_left _ (all S (rule P s.by).premises) e in
      let e2 = and_left _ (eqb (rule P s.by).conclusion s.fact) e3 in
      record {
        known = ltb-true s.by (count P) (and_left (ltb s.by (count P)) (on s.by) e2);
        granted = and_right (ltb s.by (count P)) (on s.by) e2;
        concludes = eqb-true _ _ (and_right (ltb s.by (count P) && on s.by) _ e3);
        founded = and_right (ltb s.by (count P) && on s.by && eqb (rule P s.by).conclusion s.fact) _ e;
      }

  grounded_holds : (S : FactSet) (s : Step) → Grounded P on S s → step_holds P on S s ≡ true
  unfolding step_holds
  grounded_holds S s g =
      and_both (and_both (and_both (lt-ltb s.by (count P) g.known) g.granted) (eq-eqb _ _ g.concludes)) g.founded

  hold_grounds : (row : List Step) (S : FactSet) → steps_hold P on S row ≡ true → Grounds P on S row
  hold_grounds [] S e = tt
  hold_grounds (s ∷ row) S e =
      (holds_grounded S s (and_left (step_holds P on S s) _ e), hold_grounds row (adjoin S s.fact) (and_right (step_holds P on S s) _ e))

  -- a row whose steps are grounded at their places, after S
  placed-hold : (row : List Step) (S : FactSet) → ((k : ℕ) → k < length row → Grounded P on (union S (facts_of (take k row))) (step_at row k)) → steps_hold P on S row ≡ true
  placed-hold [] S g = refl
  placed-hold (s ∷ row) S g =
      and_both
      (grounded_holds S s (grounded_mono P on on (λ i t. t) (union S (facts_of [])) S (λ f t. nothing-more (S f) t) s (g 0 (omega arith))))
      (placed-hold row (adjoin S s.fact) (λ k l. grounded_mono P on on (λ i t. t) (union S (facts_of (s ∷ take k row))) (union (adjoin S s.fact) (facts_of (take k row))) (λ f t. swap (S f) (eqb f s.fact) (facts_of (take k row) f) t) (step_at row k) (g (suc k) (omega arith))))
    where
      nothing-more : (a : Bool) → a || false ≡ true → a ≡ true
      nothing-more true e = refl
      nothing-more false e = e

      swap : (a b c : Bool) → a || (b || c) ≡ true → b || a || c ≡ true
      swap a true c e = refl
      swap true false c e = refl
      swap false false c e = e

clear_at : (P : Program) (T : FactSet) (row : List Step) → row_clear P T row ≡ true → (k : ℕ) → k < length row → clear T (used_rule P row k).constraints ≡ true
clear_at P T [] e k l = absurd (omega arith)
clear_at P T (s ∷ row) e zero l = and_left (clear T (rule P s.by).constraints) _ e
clear_at P T (s ∷ row) e (suc k) l = clear_at P T row (and_right (clear T (rule P s.by).constraints) _ e) k (omega arith)

at_clear : (P : Program) (T : FactSet) (row : List Step) → ((k : ℕ) → k < length row → clear T (used_rule P row k).constraints ≡ true) → row_clear P T row ≡ true
at_clear P T [] h = refl
at_clear P T (s ∷ row) h = and_both (h 0 (omega arith)) (at_clear P T row (λ k l. h (suc k) (omega arith)))

pub ends_last : (f : ℕ) (row : List Step) → ends_with f row ≡ true → (0 < length row) × ((step_at row (length row - 1)).fact ≡ f)
ends_last f [] e = never e refl
ends_last f (s ∷ []) e = (omega arith, eqb-true s.fact f e)
ends_last f (s ∷ t ∷ row) e =
    let r : (0 < length (t ∷ row)) × ((step_at (t ∷ row) (length (t ∷ row) - 1)).fact ≡ f) = ends_last f (t ∷ row) e in
    (omega arith, rw (less_one (suc (length row))) (rw (less_one (length row)) at r.1))

last-ends : (f : ℕ) (row : List Step) → 0 < length row → (step_at row (length row - 1)).fact ≡ f → ends_with f row ≡ true
last-ends f [] l e = absurd (omega arith)
last-ends f (s ∷ []) l e = eq-eqb s.fact f e
last-ends f (s ∷ t ∷ row) l e = last-ends f (t ∷ row) (omega arith) (rw (less_one (length row)) (rw (less_one (suc (length row))) at e))

-- The test says yes exactly where the row is a proof of f that M admits.
pub test_of_proof : (P : Program) (on : Mask) (M : FactSet) (row : List Step) (f : ℕ) → (is_proof P on M row f ≡ true) ↔ (Proof P on row f × Admits P M row)
unfolding is_proof
test_of_proof P on M row f = (into, back)
  where
    into : is_proof P on M row f ≡ true → Proof P on row f × Admits P M row
    into e = (
      record {
        not_empty = (ends_last f row ends).0;
        last = (ends_last f row ends).1;
        known = λ k l. (at k l).known;
        in-force = λ k l. (at k l).granted;
        concludes = λ k l. (at k l).concludes;
        founded = λ k l. (at k l).founded;
        consistent = clear_at P (facts_of row) row (and_right (ends_with f row && steps_hold P on nothing row) _ e3);
      },
      clear_at P M row (and_right (ends_with f row && steps_hold P on nothing row && row_clear P (facts_of row) row) _ e),
    )
      where
        e3 : ends_with f row && steps_hold P on nothing row && row_clear P (facts_of row) row ≡ true
        e3 = and_left _ (row_clear P M row) e

        e2 : ends_with f row && steps_hold P on nothing row ≡ true
        e2 = and_left _ (row_clear P (facts_of row) row) e3

        ends : ends_with f row ≡ true
        ends = and_left (ends_with f row) _ e2

        at : (k : ℕ) → k < length row → Grounded P on (facts_of (take k row)) (step_at row k)
        at k l = grounds_at P on row nothing (hold_grounds P on row nothing (and_right (ends_with f row) _ e2)) k l

    back : Proof P on row f × Admits P M row → is_proof P on M row f ≡ true
    back p =
        and_both
        (and_both
        (and_both (last-ends f row p.0.not_empty p.0.last)
        (placed-hold P on row nothing (λ k l. record { known = p.0.known k l; granted = p.0.in-force k l; concludes = p.0.concludes k l; founded = p.0.founded k l })))
        (at_clear P (facts_of row) row p.0.consistent))
        (at_clear P M row p.1)
