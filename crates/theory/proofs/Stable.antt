-- Stable sets: the test of stability, what a stable set depends on, and that no fact outside one has a proof that it admits.
use Prim.Native.Nat.{ℕ, zero, suc, ◌-◌, ◌≤◌, ◌<◌}
use native.Mathlib.Omega.{arith}
use mathlib.Core.Path.{◌≡◌, refl, sym, ◌∙◌, ap, fun_ext, subst}
use mathlib.Core.Bool.{Bool, true, false, not, ◌&&◌, ◌||◌, beq}
use mathlib.Core.List.{List, [], ◌∷◌}
use mathlib.Core.Logic.{◌⊎◌, inl, inr, ⊎_elim, ◌↔◌, by_cases}
use borrow.Author.Tests.{eqb-true, ltb-true, not-false}
use native.Mathlib.Decide.{dec_lt}
use lib.ListN.{length, take}
use lib.Dec.{eqb, ltb}
use Rattle.theory.specs.Rule.{all, clear, mem, up_to, Program, Mask, FactSet, Sub, Same, nothing, count, rule, constraint_fact, Step, Closed, Least}
use Rattle.theory.specs.Conditions.{Bounded, Within}
use Rattle.theory.specs.Derive.{derive}
use Rattle.theory.specs.Check.{least_of, is_stable}
use Rattle.theory.specs.Stable.{reduct, Stable, step_at, facts_of, used_rule, Proof, Admits}
use Rattle.theory.proofs.Bools.{either, never, and_left, and_right, and_both, or_cases, or-false_left, or-false_right, or-none, or_assoc, false_of, false_of_not, not_of_false, both_ways, beq-true, beq-refl}
use Rattle.theory.proofs.Lists.{eqb-self, all-elem, all_of, all-mono, all-fails, clear-ext, clear-anti, any-witness, any_of, mem-up_to, up_to-mem}
use Rattle.theory.proofs.Derive.{derive-least, derive-mono, least_mono, least_same}

-- A least set depends on the mask at the rules of the program only.
pub least_mask : (P : Program) (on on' : Mask) (S M : FactSet) → ((i : ℕ) → i < count P → on i ≡ on' i) → Least P on S M → Least P on' S M
least_mask P on on' S M e l =
    record {
      above = l.above;
      closed = λ i k t p. l.closed i k (e i k ∙ t) p;
      below = λ N s c. l.below N s (λ i k t p. c i k (sym (e i k) ∙ t) p);
    }

-- A fact outside S that no rule that is on concludes is not in the least set above S, nor in what is derived from S.
pub least_absent : (P : Program) (on : Mask) (S M : FactSet) (f : ℕ) → S f ≡ false → ((i : ℕ) → i < count P → on i ≡ true → (rule P i).conclusion ≡ f → ⊥) → Least P on S M → M f ≡ false
least_absent P on S M f out h l =
    false_of (M f) (λ t. never (eqb-self f) (false_of_not _ (l.below (λ g. not (eqb g f)) others kept f t)))
  where
    apart : (g : ℕ) → (g ≡ f → ⊥) → not (eqb g f) ≡ true
    apart g n = not_of_false (false_of (eqb g f) (λ e. n (eqb-true g f e)))

    others : Sub S (λ g. not (eqb g f))
    others g t = apart g (λ e. never (rw e at t) out)

    kept : Closed P on (λ g. not (eqb g f))
    kept i k t p = apart (rule P i).conclusion (h i k t)

pub derive-absent : (P : Program) (on : Mask) (S : FactSet) (f : ℕ) → S f ≡ false → ((i : ℕ) → i < count P → on i ≡ true → (rule P i).conclusion ≡ f → ⊥) → derive P on S f ≡ false
derive-absent P on S f out h = least_absent P on S (derive P on S) f out h (derive-least P on S)

-- A constraint of a rule in force is a constraint fact, and each constraint fact is one.
pub constraint_of : (P : Program) (on : Mask) (i k : ℕ) → i < count P → on i ≡ true → mem k (rule P i).constraints ≡ true → constraint_fact P on k ≡ true
unfolding constraint_fact
constraint_of P on i k l o m =
    any_of (λ j. on j && mem k (rule P j).constraints) (up_to (count P)) i (up_to-mem (count P) i l) (and_both o m)

pub constraint_from : (P : Program) (on : Mask) (k : ℕ) → constraint_fact P on k ≡ true → (i : ℕ) × (i < count P) × (on i ≡ true) × (mem k (rule P i).constraints ≡ true)
unfolding constraint_fact
constraint_from P on k h =
    let t : (i : ℕ) × (mem i (up_to (count P)) ≡ true) × (on i && mem k (rule P i).constraints ≡ true) = any-witness (λ j. on j && mem k (rule P j).constraints) (up_to (count P)) h in
    (t.0, mem-up_to (count P) t.0 t.1, and_left _ _ t.2, and_right (on t.0) _ t.2)

pub constraint_below : (P : Program) (on : Mask) → Bounded P → (k : ℕ) → constraint_fact P on k ≡ true → k < P.facts
constraint_below P on b k h =
    let (i, l, _, m) = constraint_from P on k h in
    ltb-true k P.facts (all-elem (λ f. ltb f P.facts) (rule P i).constraints (b.constraints_below i l) k m)

-- The facts of a row with one step more.
pub facts-next : (row : List Step) (k g : ℕ) → k < length row → facts_of (take (suc k) row) g ≡ facts_of (take k row) g || eqb g (step_at row k).fact
facts-next [] k g l = absurd (omega arith)
facts-next (s ∷ row) zero g l = or-none (eqb g s.fact)
facts-next (s ∷ row) (suc k) g l = rw (facts-next row k g (omega arith)) (or_assoc (eqb g s.fact) _ _)

-- M and N agree on every constraint fact.
abbrev pub Agree : Program → Mask → FactSet → FactSet → Type 0
Agree P on M N = (k : ℕ) → constraint_fact P on k ≡ true → M k ≡ N k

module _ (P : Program) (on : Mask) where
  -- the reduct has the rules in force with no constraint in M
  pub reduct-has : (M : FactSet) (i : ℕ) → on i ≡ true → clear M (rule P i).constraints ≡ true → reduct P on M i ≡ true
  unfolding reduct
  reduct-has M i o c = and_both o c

  pub reduct-on : (M : FactSet) (i : ℕ) → reduct P on M i ≡ true → on i ≡ true
  unfolding reduct
  reduct-on M i t = and_left _ _ t

  pub reduct-clear : (M : FactSet) (i : ℕ) → reduct P on M i ≡ true → clear M (rule P i).constraints ≡ true
  unfolding reduct
  reduct-clear M i t = and_right (on i) _ t

  -- The reduct depends on the constraint facts only.
  pub reduct-agrees : (M N : FactSet) → Agree P on M N → (i : ℕ) → i < count P → reduct P on M i ≡ reduct P on N i
  unfolding reduct
  reduct-agrees M N a i l = go (on i) refl
    where
      go : (b : Bool) → on i ≡ b → on i && clear M (rule P i).constraints ≡ on i && clear N (rule P i).constraints
      go true e = rw e (clear-ext M N (rule P i).constraints (λ k m. a k (constraint_of P on i k l e m)))
      go false e = rw e refl

  -- `least_of P on G` is the least set closed under the reduct by G.
  pub least_of-least : (G : FactSet) → Least P (reduct P on G) nothing (least_of P on G)
  unfolding least_of
  least_of-least G = derive-least P (reduct P on G) nothing

  -- It is the only such set.
  pub least_of-same : (G M : FactSet) → Least P (reduct P on G) nothing M → least_of P on G ≡ M
  least_of-same G M l = fun_ext (least_same P (reduct P on G) nothing (least_of P on G) M (least_of-least G) l)

  -- Sets that agree on the constraint facts have the same least set of their reduct.
  pub least_of-agrees : (M N : FactSet) → Agree P on M N → least_of P on M ≡ least_of P on N
  least_of-agrees M N a =
      least_of-same M (least_of P on N)
      (least_mask P (reduct P on N) (reduct P on M) nothing (least_of P on N) (λ i l. sym (reduct-agrees M N a i l)) (least_of-least N))

  -- More facts taken as present leave fewer rules, and a smaller least set.
  pub least_anti : (G H : FactSet) → Sub G H → Sub (least_of P on H) (least_of P on G)
  unfolding least_of reduct
  least_anti G H s =
      derive-mono P (reduct P on H) (reduct P on G) nothing nothing
      (λ i _ r. and_both (and_left (on i) _ r) (clear-anti G H (rule P i).constraints s (and_right (on i) _ r)))
      (λ f t. t)

  -- Stable sets that agree on the constraint facts are the same.
  pub stable_agree : (M N : FactSet) → Stable P on M → Stable P on N → Agree P on M N → Same M N
  stable_agree M N s t a f =
      ap (λ X. X f) (sym (least_of-same M M s) ∙ least_of-agrees M N a ∙ least_of-same N N t)

  -- Two different stable sets differ on a constraint fact.
  pub stable_apart : (M N : FactSet) → Stable P on M → Stable P on N → Same M N ⊎ ((k : ℕ) × (constraint_fact P on k ≡ true) × (M k ≡ N k → ⊥))
  stable_apart M N s t =
      ⊎_elim (λ e. inl (stable_agree M N s t (agree e))) (λ e. inr (apart e)) (either (all same_on (up_to (count P))))
    where
      alike : ℕ → Bool
      alike k = beq (M k) (N k)

      -- M and N agree on the constraints of rule i, if it is in force
      same_on : ℕ → Bool
      same_on i = not (on i) || all alike (rule P i).constraints

      agree : all same_on (up_to (count P)) ≡ true → Agree P on M N
      agree e k h =
          let (i, l, o, m) = constraint_from P on k h in
          let q : not (on i) || all alike (rule P i).constraints ≡ true = all-elem same_on (up_to (count P)) e i (up_to-mem (count P) i l) in
          beq-true (M k) (N k) (all-elem alike (rule P i).constraints (rw o at q) k m)

      apart : all same_on (up_to (count P)) ≡ false → (k : ℕ) × (constraint_fact P on k ≡ true) × (M k ≡ N k → ⊥)
      apart e =
          let (i, l, q) = all-fails same_on (up_to (count P)) e in
          let (k, m, d) = all-fails alike (rule P i).constraints (or-false_right (not (on i)) _ q) in
          (k, constraint_of P on i k (mem-up_to (count P) i l) (not-false (on i) (or-false_left (not (on i)) _ q)) m, λ z. never (beq-refl (M k) (N k) z) d)

  -- A fact that no rule in force concludes is in no stable set.
  pub stable_absent : (M : FactSet) (f : ℕ) → ((i : ℕ) → i < count P → on i ≡ true → (rule P i).conclusion ≡ f → ⊥) → Stable P on M → M f ≡ false
  stable_absent M f h s =
      least_absent P (reduct P on M) nothing M f refl (λ i l t. h i l (reduct-on M i t)) s

  -- A least set of a reduct holds facts of the program only.
  pub least_within : (G M : FactSet) → Bounded P → Least P (reduct P on G) nothing M → Within P M
  least_within G M b l f k =
      least_absent P (reduct P on G) nothing M f refl
      (λ i u t e. let c : (rule P i).conclusion < P.facts = b.conclusion_below i u in omega arith)
      l

  -- A stable set holds facts of the program only.
  pub stable_within : (M : FactSet) → Bounded P → Stable P on M → Within P M
  stable_within M b s = least_within M M b s

  -- The test says yes exactly to the stable sets.
  pub test_of_stable : (M : FactSet) → Bounded P → Within P M → (is_stable P on M ≡ true) ↔ Stable P on M
  unfolding is_stable
  test_of_stable M b w = (
    λ e. subst (Least P (reduct P on M) nothing) (fun_ext (same e)) (least_of-least M),
    λ s. all_of (λ f. beq (least_of P on M f) (M f)) (up_to P.facts) (λ f m. beq-refl _ _ (ap (λ X. X f) (least_of-same M M s))),
  )
    where
      same : is_stable P on M ≡ true → Same (least_of P on M) M
      same e f =
          by_cases (dec_lt f P.facts)
          (λ l. beq-true _ _ (all-elem (λ g. beq (least_of P on M g) (M g)) (up_to P.facts) e f (up_to-mem P.facts f l)))
          (λ n. least_within M (least_of P on M) b (least_of-least M) f (omega arith) ∙ sym (w f (omega arith)))

  -- No stable set is a proper part of a second.
  pub stable_antichain : (M N : FactSet) → Stable P on M → Stable P on N → Sub M N → Same M N
  stable_antichain M N s t u f =
      both_ways _ _ (u f)
      (least_mono P (reduct P on N) (reduct P on M) nothing nothing N M
      (λ i l r. reduct-has M i (reduct-on N i r) (clear-anti M N (rule P i).constraints u (reduct-clear N i r))) (λ g z. z) t s f)

  -- Every fact of a proof that M admits is in M, where M is closed under the reduct by M.
  pub proof_inside : (M : FactSet) (row : List Step) (f : ℕ) → Closed P (reduct P on M) M → Proof P on row f → Admits P M row → M f ≡ true
  proof_inside M row f c p a =
      let l : 0 < length row = p.not_empty in
      sym (ap M p.last) ∙ next (length row - 1) (omega arith) (earlier (length row - 1) (omega arith))
    where
      next : (k : ℕ) → k < length row → Sub (facts_of (take k row)) M → M (step_at row k).fact ≡ true
      next k l s =
          rw (← p.concludes k l)
          (c (step_at row k).by (p.known k l) (reduct-has M (step_at row k).by (p.in-force k l) (a k l))
          (all-mono (facts_of (take k row)) M (used_rule P row k).premises s (p.founded k l)))

      earlier : (k : ℕ) → k ≤ length row → Sub (facts_of (take k row)) M
      earlier zero l g t = never t refl
      earlier (suc k) l g t =
          ⊎_elim
          (λ e. earlier k (omega arith) g e)
          (λ e. rw (eqb-true g (step_at row k).fact e) (next k l (earlier k (omega arith))))
          (or_cases (facts_of (take k row) g) _ (sym (facts-next row k g l) ∙ t))

  -- A fact outside a stable set has no proof that the set admits.
  pub outside-no_proof : (M : FactSet) (f : ℕ) → Stable P on M → M f ≡ false → (row : List Step) → Proof P on row f → Admits P M row → ⊥
  outside-no_proof M f s out row p a = never (proof_inside M row f s.closed p a) out

-- The least set of a reduct depends on which of the program's own rules are in force.
pub least_of-mask : (P : Program) (on on' : Mask) → ((i : ℕ) → i < count P → on i ≡ on' i) → (G : FactSet) → least_of P on G ≡ least_of P on' G
unfolding reduct
least_of-mask P on on' e G =
    least_of-same P on G (least_of P on' G)
    (least_mask P (reduct P on' G) (reduct P on G) nothing (least_of P on' G)
    (λ i l. ap (λ (b : Bool). b && clear G (rule P i).constraints) (sym (e i l))) (least_of-least P on' G))
