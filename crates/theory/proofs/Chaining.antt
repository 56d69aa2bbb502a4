-- The run is the forward chaining of document 000 along the order: its stages have `Chaining`, and whatever has `Chaining` is the run's, stage by
-- stage and rule by rule.
use Prim.Native.Nat.{ℕ, zero, suc, ◌<◌}
use native.Mathlib.Omega.{arith}
use native.Mathlib.Decide.{dec_lt}
use mathlib.Core.Path.{◌≡◌, refl, sym, ◌∙◌, ap, fun_ext, subst}
use mathlib.Core.Bool.{Bool, true, false, ◌||◌}
use mathlib.Core.List.{List, [], ◌∷◌}
use mathlib.Core.Logic.{◌⊎◌, inl, inr, ◌↔◌}
use mathlib.Core.Option.{Option, none, some}
use lib.ListN.{get_or}
use Rattle.theory.specs.Rule.{clear, mem, Program, Mask, FactSet, Same, nothing, count, rule, plain_rules}
use Rattle.theory.specs.Derive.{conclude, closure}
use Rattle.theory.specs.Run.{Stand, rejected, spares, trial, eligible, stage, first_eligible, run, stage_count}
use Rattle.theory.specs.Chaining.{Disjoint, constraint_set, Applicable, First, Takes, Rests, Chaining, IsUnion}
use Rattle.theory.specs.Conditions.{Names}
use Rattle.theory.proofs.Bools.{never, or_left, false_of}
use Rattle.theory.proofs.Lists.{Found, seek-some, seek-none, all-elem, all_of, clear-elem, clear_of, clear-anti, any-witness, any_of, any_append, get_or-mem}
use Rattle.theory.proofs.Derive.{derive-least, least_same}
use Rattle.theory.proofs.Run.{Eligible, eligible-parts, eligible-whole, exception-known, trial-above, run-disjoint}
use Rattle.theory.proofs.Stages.{onward, stands, onward-some, onward-none, run-stands, stands-end, stands-taken, stands-applied}

module _ (P : Program) (on : Mask) where
  -- T meets none of the constraints of these rules exactly where it is disjoint from R
  spares-disjoint : (T : FactSet) (is : List ℕ) → spares P T is ≡ true → Disjoint T (rejected P is)
  unfolding spares rejected
  spares-disjoint T is e f t r =
      let w = any-witness (λ i. mem f (rule P i).constraints) is r in
      never t (clear-elem T (rule P w.0).constraints (all-elem (λ i. clear T (rule P i).constraints) is e w.0 w.1) f w.2)

  disjoint_spares : (T : FactSet) (is : List ℕ) → Disjoint T (rejected P is) → spares P T is ≡ true
  unfolding spares rejected
  disjoint_spares T is d =
      all_of (λ i. clear T (rule P i).constraints) is
      (λ i m. clear_of T (rule P i).constraints (λ f k. false_of (T f) (λ t. d f t (any_of (λ j. mem f (rule P j).constraints) is i m k))))

  -- eligible (document 01) is applicable (document 000)
  pub eligible-applicable : (s : Stand) (c : ℕ) → eligible P on s c ≡ true → Applicable P on s.derived (rejected P s.applied) c
  eligible-applicable s c e =
      let t : Eligible P on s c = eligible-parts P on s c e in
      record {
        in_nmon = t.excepted;
        supported =
            record {
              known = exception-known P on c t.excepted;
              in-force = t.in-force;
              premises-in = t.premises-in;
              conclusion_out = t.conclusion_out;
              constraints_out = clear-anti s.derived (trial P on s.derived c) (rule P c).constraints (trial-above P on s.derived c) t.spares_own;
            };
        closed = trial P on s.derived c;
        is_closure = derive-least P (plain_rules P on) (conclude P s.derived c);
        spares_own = λ f a b. never a (clear-elem (trial P on s.derived c) (rule P c).constraints t.spares_own f b);
        spares_rejected = spares-disjoint (trial P on s.derived c) s.applied t.spares_rejected;
      }

  pub applicable_eligible : (s : Stand) (c : ℕ) → Applicable P on s.derived (rejected P s.applied) c → eligible P on s c ≡ true
  applicable_eligible s c a =
      eligible-whole P on s c
      (record {
        excepted = a.in_nmon;
        in-force = a.supported.in-force;
        conclusion_out = a.supported.conclusion_out;
        premises-in = a.supported.premises-in;
        spares_own = clear_of (trial P on s.derived c) (rule P c).constraints (λ f m. false_of (trial P on s.derived c f) (λ t. a.spares_own f (same f ∙ t) m));
        spares_rejected = disjoint_spares (trial P on s.derived c) s.applied (λ f t r. a.spares_rejected f (same f ∙ t) r);
      })
    where
      same : Same a.closed (trial P on s.derived c)
      same = least_same P (plain_rules P on) (conclude P s.derived c) a.closed (trial P on s.derived c) a.is_closure (derive-least P (plain_rules P on) (conclude P s.derived c))

  -- a stage puts the constraints of its rule into R
  stage-rejects : (s : Stand) (i f : ℕ) → rejected P (stage P on s i).applied f ≡ rejected P s.applied f || constraint_set P i f
  unfolding rejected
  stage-rejects s i f =
      any_append (λ j. mem f (rule P j).constraints) s.applied (i ∷ []) ∙ last (mem f (rule P i).constraints) (rejected P s.applied f)
    where
      last : (b a : Bool) → a || (b || false) ≡ a || b
      last true a = refl
      last false a = refl

  module _ (order : List ℕ) where
    -- the first eligible rule is the first applicable one
    eligible-first : (s : Stand) (i : ℕ) → first_eligible P on order s ≡ some i → First P on order s.derived (rejected P s.applied) i
    eligible-first s i e =
        let t : Found (eligible P on s) order i = seek-some (eligible P on s) order i e in
        record {
          place = t.place;
          inside = t.inside;
          is = t.is;
          applicable = eligible-applicable s i t.passes;
          none_before = λ j l a. never (applicable_eligible s (get_or order j 0) a) (t.none_before j l);
        }

    -- There is at most one first applicable rule, ..
    pub first-unique : (D R : FactSet) (c d : ℕ) → First P on order D R c → First P on order D R d → c ≡ d
    first-unique D R c d u v =
        sym u.is ∙ (ap (λ k. get_or order k 0) (places (dec_lt u.place v.place) (dec_lt v.place u.place)) ∙ v.is)
      where
        not_before : (c d : ℕ) (u : First P on order D R c) (v : First P on order D R d) → u.place < v.place → ⊥
        not_before c d u v l = v.none_before u.place l (rw u.is u.applicable)

        places : Dec (u.place < v.place) → Dec (v.place < u.place) → u.place ≡ v.place
        places (yes l) e = absurd (not_before c d u v l)
        places (no n) (yes l) = absurd (not_before d c v u l)
        places (no n) (no m) = omega arith

    -- .. and it is the first eligible one.
    first-eligible : (s : Stand) (c : ℕ) → First P on order s.derived (rejected P s.applied) c → first_eligible P on order s ≡ some c
    first-eligible s c h = go (first_eligible P on order s) refl
      where
        go : (o : Option ℕ) → first_eligible P on order s ≡ o → o ≡ some c
        go none e = never (applicable_eligible s c h.applicable) (seek-none (eligible P on s) order e c (subst (λ x. mem x order ≡ true) h.is (get_or-mem order h.place h.inside)))
        go (some i) e = ap some (first-unique s.derived (rejected P s.applied) i c (eligible-first s i e) h)

    -- The stages of the run are a forward chaining along an order that names every exception rule in force.
    pub run-chains : Names P on order → Chaining P on order (λ n. (stands P on order n).derived) (λ n. rejected P (stands P on order n).applied)
    unfolding rejected
    run-chains names =
        record {
          derives_first = derive-least P (plain_rules P on) nothing;
          rejects_first = λ f. refl;
          goes_on = λ n. go (stands P on order n) (first_eligible P on order (stands P on order n)) refl;
        }
      where
        go : (s : Stand) (o : Option ℕ) → first_eligible P on order s ≡ o → Takes P on order s.derived (rejected P s.applied) (onward P on order s).derived (rejected P (onward P on order s).applied) ⊎ Rests P on s.derived (rejected P s.applied) (onward P on order s).derived (rejected P (onward P on order s).applied)
        go s none e =
            inr
            (record {
              none_applicable = λ c a. never (applicable_eligible s c a) (seek-none (eligible P on s) order e c (names c a.in_nmon a.supported.in-force));
              derived_stays = λ f. ap (λ t. t.derived f) (onward-none P on order s e);
              rejected_stays = λ f. ap (λ t. rejected P t.applied f) (onward-none P on order s e);
            })
        go s (some i) e =
            inl
            (record {
              taken = i;
              first = eligible-first s i e;
              derives = rw (onward-some P on order s i e) (derive-least P (plain_rules P on) (conclude P s.derived i));
              rejects = λ f. ap (λ t. rejected P t.applied f) (onward-some P on order s i e) ∙ stage-rejects s i f;
            })

    module _ (D R : ℕ → FactSet) (chain : Chaining P on order D R) where
      -- Whatever chains along the order stands, after each number of stages, where the run stands.
      pub chaining_stands : (n : ℕ) → Same (D n) (stands P on order n).derived × Same (R n) (rejected P (stands P on order n).applied)
      unfolding rejected
      chaining_stands zero = (
        least_same P (plain_rules P on) nothing (D zero) (closure P on nothing) chain.derives_first (derive-least P (plain_rules P on) nothing),
        chain.rejects_first,
      )
      chaining_stands (suc n) =
          next (stands P on order n) (fun_ext (chaining_stands n).0) (fun_ext (chaining_stands n).1) (chain.goes_on n)
        where
          next : (s : Stand) → D n ≡ s.derived → R n ≡ rejected P s.applied → Takes P on order (D n) (R n) (D (suc n)) (R (suc n)) ⊎ Rests P on (D n) (R n) (D (suc n)) (R (suc n)) → Same (D (suc n)) (onward P on order s).derived × Same (R (suc n)) (rejected P (onward P on order s).applied)
          next s d r (inl t) = (
            λ f. least_same P (plain_rules P on) (conclude P s.derived t.taken) (D (suc n)) (trial P on s.derived t.taken) (rw d at t.derives) (derive-least P (plain_rules P on) (conclude P s.derived t.taken)) f ∙ ap (λ u. u.derived f) (sym to),
            λ f. t.rejects f ∙ (ap (λ (Q : FactSet). Q f || constraint_set P t.taken f) r ∙ (sym (stage-rejects s t.taken f) ∙ ap (λ u. rejected P u.applied f) (sym to))),
          )
            where
              found : first_eligible P on order s ≡ some t.taken
              found = first-eligible s t.taken (rw (d, r) at t.first)

              to : onward P on order s ≡ stage P on s t.taken
              to = onward-some P on order s t.taken found
          next s d r (inr t) = (
            λ f. t.derived_stays f ∙ (ap (λ (Q : FactSet). Q f) d ∙ ap (λ u. u.derived f) (sym to)),
            λ f. t.rejected_stays f ∙ (ap (λ (Q : FactSet). Q f) r ∙ ap (λ u. rejected P u.applied f) (sym to)),
          )
            where
              rest : (o : Option ℕ) → first_eligible P on order s ≡ o → ◌≡◌ {A = Option ℕ} (first_eligible P on order s) none
              rest none e = e
              rest (some i) e = absurd (t.none_applicable i (rw (d, r) (eligible-applicable s i (seek-some (eligible P on s) order i e).passes)))

              to : onward P on order s ≡ s
              to = onward-none P on order s (rest (first_eligible P on order s) refl)

      -- The facts that the run derives are the union of D.
      pub chaining_derived : IsUnion D (run P on order).derived
      chaining_derived f = (
        λ t. (count P, (chaining_stands (count P)).0 f ∙ (ap (λ s. s.derived f) (sym (run-stands P on order)) ∙ t)),
        λ u. stands-end P on order (λ s. s.derived f ≡ true) (λ s i t. trial-above P on s.derived i f t) u.0 (sym ((chaining_stands u.0).0 f) ∙ u.1),
      )

      -- The facts that the run rejects are the union of R.
      pub chaining_rejected : IsUnion R (rejected P (run P on order).applied)
      chaining_rejected f = (
        λ t. (count P, (chaining_stands (count P)).1 f ∙ (ap (λ s. rejected P s.applied f) (sym (run-stands P on order)) ∙ t)),
        λ u. stands-end P on order (λ s. rejected P s.applied f ≡ true) (λ s i t. stage-rejects s i f ∙ or_left _ _ t) u.0 (sym ((chaining_stands u.0).1 f) ∙ u.1),
      )

      -- No fact is ever derived at one stage and rejected at another.
      pub chaining_disjoint : (m n : ℕ) → Disjoint (D m) (R n)
      chaining_disjoint m n f d r = run-disjoint P on order f ((chaining_derived f).1 (m, d)) ((chaining_rejected f).1 (n, r))

      -- the first applicable rule of a stage is the rule that the run takes there
      first_taken : (n c : ℕ) → First P on order (D n) (R n) c → first_eligible P on order (stands P on order n) ≡ some c
      first_taken n c h =
          first-eligible (stands P on order n) c
          (rw (fun_ext (chaining_stands n).0, fun_ext (chaining_stands n).1) at h)

      pub taken-first : (n c : ℕ) → first_eligible P on order (stands P on order n) ≡ some c → First P on order (D n) (R n) c
      taken-first n c e =
          rw (fun_ext (chaining_stands n).0, fun_ext (chaining_stands n).1) (eligible-first (stands P on order n) c e)

      -- The rules that the run applies are those that are the first applicable one at some stage.
      pub chaining_applied : (c : ℕ) → (mem c (run P on order).applied ≡ true) ↔ ((n : ℕ) × First P on order (D n) (R n) c)
      chaining_applied c = (
        λ m. let t = (stands-applied P on order c).0 m in (t.0, taken-first t.0 c t.1),
        λ t. (stands-applied P on order c).1 (t.0, first_taken t.0 c t.1),
      )

      -- A rule is taken at exactly the first stages, as many as the run counts.
      pub chaining_taken : (n : ℕ) → (n < stage_count (run P on order)) ↔ ((c : ℕ) × First P on order (D n) (R n) c)
      chaining_taken n = (
        λ l. let t = (stands-taken P on order n).0 l in (t.0, taken-first n t.0 t.1),
        λ t. (stands-taken P on order n).1 (t.0, first_taken n t.0 t.1),
      )
