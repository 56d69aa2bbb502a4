-- What holds wherever a run stands (`Sound`), and at its end: no eligible rule is left, and D and R are disjoint.
use Prim.Native.Nat.{ℕ, ◌<◌}
use mathlib.Core.Path.{◌≡◌, refl, sym, ◌∙◌}
use mathlib.Core.Bool.{Bool, true, false, not, ◌&&◌, ◌||◌}
use mathlib.Core.List.{List, [], ◌∷◌, ◌++◌, map, map-append}
use mathlib.Core.Logic.{◌⊎◌, inl, inr, ⊎_elim}
use mathlib.Core.Option.{Option, none, some}
use borrow.Author.Tests.{ltb-true}
use lib.Dec.{eqb, ltb}
use Rattle.theory.specs.Rule.{all, clear, mem, NoRepeat, Program, Mask, FactSet, Sub, nothing, null, count, rule, plain, exception, Step, Closed, plain_rules}
use Rattle.theory.specs.Derive.{conclude, Fresh, fired, steps, step_by}
use Rattle.theory.specs.Run.{Stand, rejected, spares, trial, eligible, stage, start, first_eligible, run}
use Rattle.theory.specs.Chaining.{Disjoint}
use Rattle.theory.specs.Conditions.{Names}
use Rattle.theory.specs.Stable.{facts_of}
use Rattle.theory.proofs.Bools.{never, and_left, and_right, and_both, or_left, or_right, or_cases, not_of_false, false_of_not, false_of}
use Rattle.theory.proofs.Lists.{seek-some, seek-none, all-elem, all_append, any-witness, clear-elem, mem-cases, mem-here, mem-there, mem-append}
use Rattle.theory.proofs.Walk as walk
use Rattle.theory.proofs.Derive.{union, open_rules, open_most, open_less, adjoin-has, adjoin-above, derive-above, derive-closed, derive-facts, fired-trail, fired-fresh}
use Rattle.theory.proofs.Grounds.{Grounds, grounds_mono, grounds_append, trail_grounds, facts-append, facts-of_steps}

pub no-repeat_append : (xs ys : List ℕ) → NoRepeat xs → NoRepeat ys → ((x : ℕ) → mem x xs ≡ true → mem x ys ≡ true → ⊥) → NoRepeat (xs ++ ys)
no-repeat_append [] ys n m apart = m
no-repeat_append (x ∷ xs) ys n m apart = (
  false_of (mem x (xs ++ ys)) (λ t. ⊎_elim (λ e. never e n.0) (λ e. apart x (mem-here x xs) e) (or_cases (mem x xs) _ (rw (mem-append x xs ys) at t))),
  no-repeat_append xs ys n.1 m (λ y t u. apart y (mem-there y x xs t) u),
)

pub no-repeat_more : (xs : List ℕ) (y : ℕ) → NoRepeat xs → mem y xs ≡ false → NoRepeat (xs ++ (y ∷ []))
no-repeat_more xs y n m =
    no-repeat_append xs (y ∷ []) n (refl, tt) (λ x t u. ⊎_elim (λ e. never (rw (← e) t) m) (λ e. never e refl) (mem-cases x y [] u))

-- the facts of a row of steps, in their order
abbrev pub step_facts : List Step → List ℕ
step_facts row = map (λ s. s.fact) row

-- rules that each add a fact which is not yet in the set add no fact twice, and none that was in it
pub fresh-once : (P : Program) (is : List ℕ) (S : FactSet) → Fresh P S is → NoRepeat (step_facts (map (step_by P) is)) × ((f : ℕ) → mem f (step_facts (map (step_by P) is)) ≡ true → S f ≡ false)
fresh-once P [] S t = (tt, λ f m. never m refl)
fresh-once P (i ∷ is) S t = go (fresh-once P is (conclude P S i) t.2)
  where
    go : NoRepeat (step_facts (map (step_by P) is)) × ((f : ℕ) → mem f (step_facts (map (step_by P) is)) ≡ true → conclude P S i f ≡ false) → NoRepeat (step_facts (map (step_by P) (i ∷ is))) × ((f : ℕ) → mem f (step_facts (map (step_by P) (i ∷ is))) ≡ true → S f ≡ false)
    go later = (
      (false_of (mem (rule P i).conclusion (step_facts (map (step_by P) is))) (λ m. never (adjoin-has S (rule P i).conclusion) (later.1 (rule P i).conclusion m)), later.0),
      λ f m. ⊎_elim (λ e. rw e t.1) (λ e. false_of (S f) (λ u. never (adjoin-above S (rule P i).conclusion f u) (later.1 f e))) (mem-cases f (rule P i).conclusion (step_facts (map (step_by P) is)) m),
    )

-- the rules that a run may use by then: the plain ones in force, and those applied
abbrev pub granted : Program → Mask → List ℕ → Mask
granted P on applied i = plain_rules P on i || mem i applied

-- what holds wherever a run stands
pub record Sound (P : Program) (on : Mask) (s : Stand) : Type 0 where
  pub closed : Closed P (plain_rules P on) s.derived
  pub facts : (f : ℕ) → s.derived f ≡ facts_of s.trace f
  pub grounds : Grounds P (granted P on s.applied) nothing s.trace
  pub once : NoRepeat (step_facts s.trace)
  pub spared : spares P s.derived s.applied ≡ true
  pub concluded : (i : ℕ) → mem i s.applied ≡ true → s.derived (rule P i).conclusion ≡ true
  pub excepted : (i : ℕ) → mem i s.applied ≡ true → exception P i ≡ true
  pub in-force : (i : ℕ) → mem i s.applied ≡ true → on i ≡ true
  pub distinct : NoRepeat s.applied

-- the parts of `eligible`
pub record Eligible (P : Program) (on : Mask) (s : Stand) (i : ℕ) : Type 0 where
  pub excepted : exception P i ≡ true
  pub in-force : on i ≡ true
  pub conclusion_out : s.derived (rule P i).conclusion ≡ false
  pub premises-in : all s.derived (rule P i).premises ≡ true
  pub spares_own : clear (trial P on s.derived i) (rule P i).constraints ≡ true
  pub spares_rejected : spares P (trial P on s.derived i) s.applied ≡ true

module _ (P : Program) (on : Mask) where
  pub eligible-parts : (s : Stand) (i : ℕ) → eligible P on s i ≡ true → Eligible P on s i
  unfolding eligible
  eligible-parts s i e =
      let D = s.derived in
      let e5 = and_left _ (spares P (trial P on D i) s.applied) e in
      let e4 = and_left _ (clear (trial P on D i) (rule P i).constraints) e5 in
      let e3 = and_left _ (all D (rule P i).premises) e4 in
      let e2 = and_left _ (not (D (rule P i).conclusion)) e3 in
      record {
        excepted = and_left (exception P i) (on i) e2;
        in-force = and_right (exception P i) (on i) e2;
        conclusion_out = false_of_not (D (rule P i).conclusion) (and_right (exception P i && on i) _ e3);
        premises-in = and_right (exception P i && on i && not (D (rule P i).conclusion)) _ e4;
        spares_own = and_right (exception P i && on i && not (D (rule P i).conclusion) && all D (rule P i).premises) _ e5;
        spares_rejected = and_right (exception P i && on i && not (D (rule P i).conclusion) && all D (rule P i).premises && clear (trial P on D i) (rule P i).constraints) _ e;
      }

  pub eligible-whole : (s : Stand) (i : ℕ) → Eligible P on s i → eligible P on s i ≡ true
  unfolding eligible
  eligible-whole s i t =
      and_both (and_both (and_both (and_both (and_both t.excepted t.in-force) (not_of_false t.conclusion_out)) t.premises-in) t.spares_own) t.spares_rejected

  pub exception-known : (i : ℕ) → exception P i ≡ true → i < count P
  unfolding exception
  exception-known i e = ltb-true i (count P) (and_left (ltb i (count P)) _ e)

  pub not-both : (i : ℕ) → plain P i ≡ true → exception P i ≡ true → ⊥
  unfolding plain exception
  not-both i p e =
      never (and_right (ltb i (count P)) (null (rule P i).constraints) p) (false_of_not _ (and_right (ltb i (count P)) (not (null (rule P i).constraints)) e))

  pub start-sound : Sound P on (start P on)
  unfolding spares steps
  start-sound =
      record {
        closed = derive-closed P (plain_rules P on) nothing;
        facts = λ f. derive-facts P (plain_rules P on) nothing f ∙ sym (facts-of_steps P (fired P (plain_rules P on) nothing) f);
        grounds = grounds_mono P (plain_rules P on) (granted P on []) (λ i t. or_left _ _ t) (steps P (plain_rules P on) nothing) nothing nothing (λ f t. t) (trail_grounds P (plain_rules P on) (fired P (plain_rules P on) nothing) nothing (fired-trail P (plain_rules P on) nothing));
        once = (fresh-once P (fired P (plain_rules P on) nothing) nothing (fired-fresh P (plain_rules P on) nothing)).0;
        spared = refl;
        concluded = λ i m. never m refl;
        excepted = λ i m. never m refl;
        in-force = λ i m. never m refl;
        distinct = tt;
      }

  -- the trial closure holds D and the conclusion
  pub trial-above : (D : FactSet) (i : ℕ) → Sub D (trial P on D i)
  trial-above D i f t = derive-above P (plain_rules P on) (conclude P D i) f (adjoin-above D (rule P i).conclusion f t)

  pub trial-has : (D : FactSet) (i : ℕ) → trial P on D i (rule P i).conclusion ≡ true
  trial-has D i = derive-above P (plain_rules P on) (conclude P D i) (rule P i).conclusion (adjoin-has D (rule P i).conclusion)

  -- a rule applied now, or before
  pub applied_cases : (xs : List ℕ) (i j : ℕ) → mem j (xs ++ (i ∷ [])) ≡ true → (mem j xs ≡ true) ⊎ (j ≡ i)
  applied_cases xs i j m =
      ⊎_elim (λ e. inl e) (λ e. ⊎_elim (λ q. inr q) (λ q. never q refl) (mem-cases j i [] e)) (or_cases (mem j xs) _ (rw (mem-append j xs (i ∷ [])) at m))

  stage-facts : (s : Stand) (i : ℕ) → Sound P on s → (f : ℕ) → (stage P on s i).derived f ≡ facts_of (stage P on s i).trace f
  unfolding steps
  stage-facts s i v f =
      derive-facts P (plain_rules P on) (conclude P s.derived i) f
      ∙ (swap (eqb f (rule P i).conclusion) (s.derived f) (mem f (map (λ j. (rule P j).conclusion) new))
      ∙ sym (facts-append s.trace (step_by P i ∷ map (step_by P) new) f ∙ joined))
    where
      new : List ℕ
      new = fired P (plain_rules P on) (conclude P s.derived i)

      swap : (a b c : Bool) → a || b || c ≡ b || (a || c)
      swap true true c = refl
      swap true false c = refl
      swap false true c = refl
      swap false false c = refl

      joined : facts_of s.trace f || (eqb f (rule P i).conclusion || facts_of (map (step_by P) new) f) ≡ s.derived f || (eqb f (rule P i).conclusion || mem f (map (λ j. (rule P j).conclusion) new))
      joined = rw (facts-of_steps P new f, ← v.facts f)

  stage-grounds : (s : Stand) (i : ℕ) → Sound P on s → Eligible P on s i → Grounds P (granted P on (s.applied ++ (i ∷ []))) nothing (stage P on s i).trace
  unfolding steps
  stage-grounds s i v t =
      grounds_append P ok s.trace (step_by P i ∷ steps P (plain_rules P on) (conclude P s.derived i)) nothing
      (grounds_mono P (granted P on s.applied) ok older s.trace nothing nothing (λ f u. u) v.grounds)
      (grounds_mono P ok ok (λ j u. u) (step_by P i ∷ steps P (plain_rules P on) (conclude P s.derived i)) s.derived (union nothing (facts_of s.trace)) (λ f u. rw (v.facts f) at u) (
        first,
        grounds_mono P (plain_rules P on) ok (λ j u. or_left _ _ u) (steps P (plain_rules P on) (conclude P s.derived i)) (conclude P s.derived i) (conclude P s.derived i) (λ f u. u) (trail_grounds P (plain_rules P on) (fired P (plain_rules P on) (conclude P s.derived i)) (conclude P s.derived i) (fired-trail P (plain_rules P on) (conclude P s.derived i))),
      ))
    where
      ok : Mask
      ok = granted P on (s.applied ++ (i ∷ []))

      older : (j : ℕ) → granted P on s.applied j ≡ true → ok j ≡ true
      older j u =
          ⊎_elim (λ e. or_left (plain_rules P on j) _ e)
          (λ e. or_right (plain_rules P on j) _ (rw (mem-append j s.applied (i ∷ [])) (or_left _ _ e)))
          (or_cases (plain_rules P on j) _ u)

      first : Rattle.theory.proofs.Grounds.Grounded P ok s.derived (step_by P i)
      first =
          record {
            known = exception-known i t.excepted;
            granted = or_right (plain_rules P on i) _ (rw (mem-append i s.applied (i ∷ [])) (or_right (mem i s.applied) _ (mem-here i [])));
            concludes = refl;
            founded = t.premises-in;
          }

  stage-once : (s : Stand) (i : ℕ) → Sound P on s → Eligible P on s i → NoRepeat (step_facts (stage P on s i).trace)
  unfolding steps
  stage-once s i v t =
      rw (map-append (λ (x : Step). x.fact) s.trace (map (step_by P) new))
      (no-repeat_append (step_facts s.trace) (step_facts (map (step_by P) new)) v.once fresh.0 (λ f m u. never (v.facts f ∙ m) (fresh.1 f u)))
    where
      new : List ℕ
      new = i ∷ fired P (plain_rules P on) (conclude P s.derived i)

      fresh : NoRepeat (step_facts (map (step_by P) new)) × ((f : ℕ) → mem f (step_facts (map (step_by P) new)) ≡ true → s.derived f ≡ false)
      fresh = fresh-once P new s.derived (exception-known i t.excepted, t.conclusion_out, fired-fresh P (plain_rules P on) (conclude P s.derived i))

  pub stage-sound : (s : Stand) (i : ℕ) → Sound P on s → Eligible P on s i → Sound P on (stage P on s i)
  unfolding spares
  stage-sound s i v t =
      record {
        closed = derive-closed P (plain_rules P on) (conclude P s.derived i);
        facts = stage-facts s i v;
        grounds = stage-grounds s i v t;
        once = stage-once s i v t;
        spared = rw (all_append (λ j. clear (trial P on s.derived i) (rule P j).constraints) s.applied (i ∷ [])) (and_both t.spares_rejected (and_both t.spares_own refl));
        concluded = λ j m. ⊎_elim (λ e. trial-above s.derived i _ (v.concluded j e)) (λ q. rw q (trial-has s.derived i)) (applied_cases s.applied i j m);
        excepted = λ j m. ⊎_elim (λ e. v.excepted j e) (λ q. rw q t.excepted) (applied_cases s.applied i j m);
        in-force = λ j m. ⊎_elim (λ e. v.in-force j e) (λ q. rw q t.in-force) (applied_cases s.applied i j m);
        distinct = no-repeat_more s.applied i v.distinct (false_of (mem i s.applied) (λ m. never (v.concluded i m) t.conclusion_out));
      }

  module _ (order : List ℕ) where
    pub picked : (s : Stand) (i : ℕ) → first_eligible P on order s ≡ some i → Eligible P on s i
    picked s i e = eligible-parts s i (seek-some (eligible P on s) order i e).passes

    -- what each stage keeps holds at the end
    pub run-keeps : (Inv : Stand → Type 0) → Inv (start P on) → ((s : Stand) (i : ℕ) → Inv s → first_eligible P on order s ≡ some i → Inv (stage P on s i)) → Inv (run P on order)
    unfolding run
    run-keeps Inv v h = walk.kept (first_eligible P on order) (stage P on) Inv h (count P) (start P on) v

    pub run_sound : Sound P on (run P on order)
    run_sound = run-keeps (Sound P on) start-sound (λ s i v e. stage-sound s i v (picked s i e))

    pub stage-less : (s : Stand) (i : ℕ) → Eligible P on s i → open_rules P (stage P on s i).derived < open_rules P s.derived
    stage-less s i t =
        open_less P s.derived (trial P on s.derived i) i (trial-above s.derived i) (exception-known i t.excepted) t.conclusion_out (trial-has s.derived i)

    -- no rule in the order is eligible at the end
    pub run_ends : ◌≡◌ {A = Option ℕ} (first_eligible P on order (run P on order)) none
    unfolding run
    run_ends =
        walk.ends (first_eligible P on order) (stage P on) (λ _. Unit {0}) (λ s. open_rules P s.derived) (λ s i _ e. (tt, stage-less s i (picked s i e))) (count P) (start P on) tt (open_most P (start P on).derived)

    -- No eligible rule is left where the order names every exception rule in force.
    pub run-none_eligible : Names P on order → (i : ℕ) → eligible P on (run P on order) i ≡ false
    run-none_eligible n i =
        false_of (eligible P on (run P on order) i)
        (λ e. never e (seek-none (eligible P on (run P on order)) order run_ends i (n i (eligible-parts _ i e).excepted (eligible-parts _ i e).in-force)))

    -- D and R are disjoint.
    pub run-disjoint : Disjoint (run P on order).derived (rejected P (run P on order).applied)
    unfolding spares rejected
    run-disjoint f d r =
        let w = any-witness (λ i. mem f (rule P i).constraints) (run P on order).applied r in
        never d (clear-elem (run P on order).derived (rule P w.0).constraints (all-elem (λ i. clear (run P on order).derived (rule P i).constraints) (run P on order).applied run_sound.spared w.0 w.1) f w.2)
