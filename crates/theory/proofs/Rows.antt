-- Each fact of a run has the row of steps up to its own as a proof that the run's set admits.
use Prim.Native.Nat.{ℕ, suc, ◌-◌, ◌<◌}
use native.Mathlib.Omega.{arith}
use mathlib.Core.Path.{◌≡◌, refl, sym, ◌∙◌, ap, subst}
use mathlib.Core.Bool.{Bool, true, false, cond}
use mathlib.Core.List.{List, [], ◌∷◌, ◌++◌}
use mathlib.Core.Logic.{⊎_elim}
use borrow.Author.Tests.{eqb-true}
use lib.ListN.{length, take}
use lib.Dec.{eqb}
use Rattle.theory.specs.Rule.{clear, Program, Mask, Sub, nothing, rule, plain, Step, plain_rules, count}
use Rattle.theory.specs.Run.{Stand, spares, run}
use Rattle.theory.specs.Stable.{step_at, facts_of, used_rule, Proof, Admits, row_to}
use Rattle.theory.proofs.Bools.{never, and_left, and_right, or_cases}
use Rattle.theory.proofs.Lists.{less_one, all-elem, clear-anti}
use Rattle.theory.proofs.Grounds.{Grounds, Grounded, grounds_front, grounds_at, facts-append}
use Rattle.theory.proofs.Run.{Sound, granted, run_sound}
use Rattle.theory.proofs.RunStable.{plain-clear}

-- what follows the fact's own step
abbrev rest_after : ℕ → List Step → List Step
rest_after f [] = []
rest_after f (s ∷ row) = cond (eqb f s.fact) row (rest_after f row)

row-splits : (f : ℕ) (row : List Step) → row ≡ row_to f row ++ rest_after f row
row-splits f [] = refl
row-splits f (s ∷ row) = go (eqb f s.fact) (row-splits f row)
  where
    go : (b : Bool) → row ≡ row_to f row ++ rest_after f row → s ∷ row ≡ s ∷ (cond b [] (row_to f row) ++ cond b row (rest_after f row))
    go true e = refl
    go false e = ap (λ r. s ∷ r) e

row-length : (f : ℕ) (row : List Step) → facts_of row f ≡ true → 0 < length (row_to f row)
row-length f [] m = never m refl
row-length f (s ∷ row) m = omega arith

row_last : (f : ℕ) (row : List Step) → facts_of row f ≡ true → (step_at (row_to f row) (length (row_to f row) - 1)).fact ≡ f
row_last f [] m = never m refl
row_last f (s ∷ row) m = go (eqb f s.fact) refl (row_last f row)
  where
    deep : (xs : List Step) → 0 < length xs → (step_at xs (length xs - 1)).fact ≡ f → (step_at (s ∷ xs) (length (s ∷ xs) - 1)).fact ≡ f
    deep [] l e = absurd (omega arith)
    deep (x ∷ xs) l e = rw (less_one (suc (length xs))) (rw (less_one (length xs)) at e)

    go : (b : Bool) → eqb f s.fact ≡ b → (facts_of row f ≡ true → (step_at (row_to f row) (length (row_to f row) - 1)).fact ≡ f) → (step_at (s ∷ cond (eqb f s.fact) [] (row_to f row)) (length (s ∷ cond (eqb f s.fact) [] (row_to f row)) - 1)).fact ≡ f
    go true e r = rw e (sym (eqb-true f s.fact e))
    go false e r =
        let m' : facts_of row f ≡ true = rw e at m in
        rw e (deep (row_to f row) (row-length f row m') (r m'))

module _ (P : Program) (on : Mask) (s : Stand) (v : Sound P on s) where
  -- a rule that the run may use is in force, and D meets none of its constraints
  granted-clear : (i : ℕ) → granted P on s.applied i ≡ true → clear s.derived (rule P i).constraints ≡ true
  unfolding spares plain_rules
  granted-clear i g =
      ⊎_elim
      (λ e. plain-clear P s.derived i (and_right (on i) (plain P i) e))
      (λ e. all-elem (λ j. clear s.derived (rule P j).constraints) s.applied v.spared i e)
      (or_cases (plain_rules P on i) _ g)

  granted-in_force : (i : ℕ) → granted P on s.applied i ≡ true → on i ≡ true
  unfolding plain_rules
  granted-in_force i g = ⊎_elim (λ e. and_left (on i) (plain P i) e) (λ e. v.in-force i e) (or_cases (plain_rules P on i) _ g)

  -- a row of facts in D that is grounded by rules that the run may use: D admits it, and it is a proof of the fact of its last step
  module _ (row : List Step) (g : Grounds P (granted P on s.applied) nothing row) where
    pub grounded_admits : Admits P s.derived row
    grounded_admits k l = granted-clear (step_at row k).by (grounds_at P (granted P on s.applied) row nothing g k l).granted

    pub grounded_proof : (f : ℕ) → Sub (facts_of row) s.derived → 0 < length row → (step_at row (length row - 1)).fact ≡ f → Proof P on row f
    grounded_proof f inside some last =
        record {
          not_empty = some;
          last = last;
          known = λ k l. (at k l).known;
          in-force = λ k l. granted-in_force (step_at row k).by (at k l).granted;
          concludes = λ k l. (at k l).concludes;
          founded = λ k l. (at k l).founded;
          consistent = λ k l. clear-anti (facts_of row) s.derived (used_rule P row k).constraints inside (grounded_admits k l);
        }
      where
        at : (k : ℕ) → k < length row → Grounded P (granted P on s.applied) (facts_of (take k row)) (step_at row k)
        at k l = grounds_at P (granted P on s.applied) row nothing g k l

  -- the facts of the row up to f are in D
  row_inside : (f : ℕ) → Sub (facts_of (row_to f s.trace)) s.derived
  row_inside f g m =
      rw (v.facts g, row-splits f s.trace, facts-append (row_to f s.trace) (rest_after f s.trace) g)
      (rw m refl)

  row-grounds : (f : ℕ) → Grounds P (granted P on s.applied) nothing (row_to f s.trace)
  row-grounds f = grounds_front P (granted P on s.applied) (row_to f s.trace) (rest_after f s.trace) nothing (subst (λ (row : List Step). Grounds P (granted P on s.applied) nothing row) (row-splits f s.trace) v.grounds)

  pub sound_admits : (f : ℕ) → Admits P s.derived (row_to f s.trace)
  sound_admits f = grounded_admits (row_to f s.trace) (row-grounds f)

  pub sound_proof : (f : ℕ) → s.derived f ≡ true → Proof P on (row_to f s.trace) f
  sound_proof f d = grounded_proof (row_to f s.trace) (row-grounds f) f (row_inside f) (row-length f s.trace m) (row_last f s.trace m)
    where
      m : facts_of s.trace f ≡ true
      m = sym (v.facts f) ∙ d

-- The row of steps from the first up to a fact's own step is a proof of the fact.
pub run-proof : (P : Program) (on : Mask) (order : List ℕ) (f : ℕ) → (run P on order).derived f ≡ true → Proof P on (row_to f (run P on order).trace) f
run-proof P on order f d = sound_proof P on (run P on order) (run_sound P on order) f d

-- The run's set admits it.
pub run-admits : (P : Program) (on : Mask) (order : List ℕ) (f : ℕ) → Admits P (run P on order).derived (row_to f (run P on order).trace)
run-admits P on order f = sound_admits P on (run P on order) (run_sound P on order) f

-- Each of its steps is by a rule of the program that is in force.
pub run-steps_on : (P : Program) (on : Mask) (order : List ℕ) (k : ℕ) → k < length (run P on order).trace → ((step_at (run P on order).trace k).by < count P) × (on (step_at (run P on order).trace k).by ≡ true)
run-steps_on P on order k l =
    let g = grounds_at P (granted P on (run P on order).applied) (run P on order).trace nothing (run_sound P on order).grounds k l in
    (g.known, granted-in_force P on (run P on order) (run_sound P on order) (step_at (run P on order).trace k).by g.granted)
