-- What the marks of a run say, in the terms of document 000: derived facts, rejected facts, inconsistent clauses.
use Prim.Native.Nat.{ℕ}
use mathlib.Core.Path.{◌≡◌, refl, sym, ◌∙◌, fun_ext}
use mathlib.Core.Bool.{Bool, true, false, not, ◌&&◌, cond}
use mathlib.Core.List.{List}
use mathlib.Core.Logic.{◌⊎◌, inl, inr, ⊎_elim, ◌↔◌}
use borrow.Author.Tests.{lt-ltb, ltb-true, eq-eqb, eqb-true}
use native.Mathlib.Omega.{arith}
use lib.Dec.{eqb, ltb}
use Rattle.theory.specs.Rule.{all, clear, mem, Program, Mask, FactSet, count, rule, plain, exception, plain_rules}
use Rattle.theory.specs.Derive.{conclude}
use Rattle.theory.specs.Run.{Stand, rejected, spares, trial, run, set_aside, fact_mark, rule_mark}
use Rattle.theory.specs.Chaining.{constraint_set, Supported, Chaining, IsUnion, Inconsistent}
use Rattle.theory.specs.Conditions.{Names}
use Rattle.theory.proofs.Bools.{either, never, and_left, and_right, and_both, not_of_false, false_of_not, false_of, both_ways}
use Rattle.theory.proofs.Lists.{all-fails, any_of}
use Rattle.theory.proofs.Derive.{derive-least}
use Rattle.theory.proofs.Run.{Sound, eligible-whole, not-both, run_sound, run-disjoint, run-none_eligible}
use Rattle.theory.proofs.Order.{plain-or_exception}
use Rattle.theory.proofs.Chaining.{chaining_derived, chaining_rejected}

module _ (P : Program) (on : Mask) where
  -- set aside says of a rule what the first two conditions of an inconsistent clause say
  pub aside_supported : (D : FactSet) (c : ℕ) → set_aside P on D c ≡ true → Supported P on D c
  unfolding set_aside
  aside_supported D c e =
      let a4 = and_left _ (not (D (rule P c).conclusion)) e in
      let a3 = and_left _ (clear D (rule P c).constraints) a4 in
      let a2 = and_left _ (all D (rule P c).premises) a3 in
      record {
        known = ltb-true c (count P) (and_left (ltb c (count P)) (on c) a2);
        in-force = and_right (ltb c (count P)) (on c) a2;
        premises-in = and_right (ltb c (count P) && on c) _ a3;
        conclusion_out = false_of_not (D (rule P c).conclusion) (and_right (ltb c (count P) && on c && all D (rule P c).premises && clear D (rule P c).constraints) _ e);
        constraints_out = and_right (ltb c (count P) && on c && all D (rule P c).premises) _ a4;
      }

  pub supported_aside : (D : FactSet) (c : ℕ) → Supported P on D c → set_aside P on D c ≡ true
  unfolding set_aside
  supported_aside D c t =
      and_both (and_both (and_both (and_both (lt-ltb c (count P) t.known) t.in-force) t.premises-in) t.constraints_out) (not_of_false t.conclusion_out)

  -- a plain rule in force is never set aside by a sound stand
  pub aside_exception : (s : Stand) → Sound P on s → (c : ℕ) → Supported P on s.derived c → exception P c ≡ true
  unfolding plain_rules
  aside_exception s v c t =
      ⊎_elim
      (λ p. never (v.closed c t.known (and_both t.in-force p) t.premises-in) t.conclusion_out)
      (λ x. x)
      (plain-or_exception P c t.known)

  -- Rule mark 2 is on exactly the rules set aside by a sound stand: no plain rule is, and no rule that was applied.
  pub mark_aside : (s : Stand) → Sound P on s → (c : ℕ) → eqb (rule_mark P on s c) 2 ≡ set_aside P on s.derived c
  unfolding rule_mark
  mark_aside s v c =
      two (plain P c) (mem c s.applied) (set_aside P on s.derived c) (on c)
      (λ p a. not-both P on c p (aside_exception s v c (aside_supported s.derived c a)))
      (λ m a. never (v.concluded c m) (aside_supported s.derived c a).conclusion_out)
    where
      two : (p a b o : Bool) → (p ≡ true → b ≡ true → ⊥) → (a ≡ true → b ≡ true → ⊥) → eqb (cond p 0 (cond a 1 (cond b 2 (cond o 3 4)))) 2 ≡ b
      two true a true o n m = absurd (n refl refl)
      two true a false o n m = refl
      two false true true o n m = absurd (m refl refl)
      two false true false o n m = refl
      two false false true o n m = refl
      two false false false true n m = refl
      two false false false false n m = refl

  -- a trial closure that spares neither meets a fact
  met_fact : (T : FactSet) (is : List ℕ) (c : ℕ) → (clear T (rule P c).constraints ≡ true → spares P T is ≡ true → ⊥) → (f : ℕ) × (T f ≡ true) × ((constraint_set P c f ≡ true) ⊎ (rejected P is f ≡ true))
  unfolding spares rejected
  met_fact T is c n =
      ⊎_elim
      (λ a. theirs (false_of (spares P T is) (n a)))
      (λ a. let w = all-fails (λ x. not (T x)) (rule P c).constraints a in (w.0, inside w.0 w.2, inl w.1))
      (either (clear T (rule P c).constraints))
    where
      inside : (f : ℕ) → not (T f) ≡ false → T f ≡ true
      inside f e = ⊎_elim (λ t. t) (λ t. never (not_of_false t) e) (either (T f))

      theirs : spares P T is ≡ false → (f : ℕ) × (T f ≡ true) × ((constraint_set P c f ≡ true) ⊎ (rejected P is f ≡ true))
      theirs e =
          let w = all-fails (λ i. clear T (rule P i).constraints) is e in
          let u = all-fails (λ x. not (T x)) (rule P w.0).constraints w.2 in
          (u.0, inside u.0 u.2, inr (any_of (λ i. mem u.0 (rule P i).constraints) is w.0 w.1 u.1))

  module _ (order : List ℕ) (names : Names P on order) where
    -- The rules set aside are the inconsistent clauses, third condition included.
    pub aside_inconsistent : (c : ℕ) → (set_aside P on (run P on order).derived c ≡ true) ↔ Inconsistent P on (run P on order).derived (rejected P (run P on order).applied) c
    aside_inconsistent c = (into, λ t. supported_aside (run P on order).derived c t.supported)
      where
        into : set_aside P on (run P on order).derived c ≡ true → Inconsistent P on (run P on order).derived (rejected P (run P on order).applied) c
        into e = record { supported = t; closed = trial P on (run P on order).derived c; is_closure = derive-least P (plain_rules P on) (conclude P (run P on order).derived c); met = w.0; met_in = w.1; met_by = w.2 }
          where
            t : Supported P on (run P on order).derived c
            t = aside_supported (run P on order).derived c e

            w : (f : ℕ) × (trial P on (run P on order).derived c f ≡ true) × ((constraint_set P c f ≡ true) ⊎ (rejected P (run P on order).applied f ≡ true))
            w =
                met_fact (trial P on (run P on order).derived c) (run P on order).applied c
                (λ own theirs. never (eligible-whole P on (run P on order) c (record { excepted = aside_exception (run P on order) (run_sound P on order) c t; in-force = t.in-force; conclusion_out = t.conclusion_out; premises-in = t.premises-in; spares_own = own; spares_rejected = theirs })) (run-none_eligible P on order names c))

    module _ (D R : ℕ → FactSet) (chain : Chaining P on order D R) where
      -- Mark 1: derived.
      pub mark_derived : (f : ℕ) → (fact_mark P (run P on order) f ≡ 1) ↔ ((n : ℕ) × (D n f ≡ true))
      unfolding fact_mark
      mark_derived f = (
        λ e. (chaining_derived P on order D R chain f).0 (one ((run P on order).derived f) (rejected P (run P on order).applied f) e),
        λ u. rw ((chaining_derived P on order D R chain f).1 u) refl,
      )
        where
          one : (d r : Bool) → ◌≡◌ {A = ℕ} (cond d 1 (cond r 2 0)) 1 → d ≡ true
          one true r e = refl
          one false true e = absurd (omega arith)
          one false false e = absurd (omega arith)

      -- Mark 2: rejected.
      pub mark_rejected : (f : ℕ) → (fact_mark P (run P on order) f ≡ 2) ↔ ((n : ℕ) × (R n f ≡ true))
      unfolding fact_mark
      mark_rejected f = (
        λ e. (chaining_rejected P on order D R chain f).0 (two ((run P on order).derived f) (rejected P (run P on order).applied f) e),
        λ u. let r = (chaining_rejected P on order D R chain f).1 u in rw (false_of ((run P on order).derived f) (λ d. run-disjoint P on order f d r), r) refl,
      )
        where
          two : (d r : Bool) → ◌≡◌ {A = ℕ} (cond d 1 (cond r 2 0)) 2 → r ≡ true
          two true r e = absurd (omega arith)
          two false true e = refl
          two false false e = absurd (omega arith)

      -- Rule mark 2: inconsistent with the order, for the unions of D and of R.
      pub mark_inconsistent : (X Y : FactSet) → IsUnion D X → IsUnion R Y → (c : ℕ) → (rule_mark P on (run P on order) c ≡ 2) ↔ Inconsistent P on X Y c
      mark_inconsistent X Y x y c = (
        λ e. rw (same X (run P on order).derived D x (chaining_derived P on order D R chain), same Y (rejected P (run P on order).applied) R y (chaining_rejected P on order D R chain)) ((aside_inconsistent c).0 (sym says ∙ eq-eqb _ 2 e)),
        λ t. eqb-true _ 2 (says ∙ (aside_inconsistent c).1 (rw (same X (run P on order).derived D x (chaining_derived P on order D R chain), same Y (rejected P (run P on order).applied) R y (chaining_rejected P on order D R chain)) at t)),
      )
        where
          same : (X Z : FactSet) (S : ℕ → FactSet) → IsUnion S X → IsUnion S Z → X ≡ Z
          same X Z S x z = fun_ext (λ f. both_ways (X f) (Z f) (λ t. (z f).1 ((x f).0 t)) (λ t. (x f).1 ((z f).0 t)))

          says : eqb (rule_mark P on (run P on order) c) 2 ≡ set_aside P on (run P on order).derived c
          says = mark_aside (run P on order) (run_sound P on order) c
