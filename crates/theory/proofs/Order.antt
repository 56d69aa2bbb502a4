-- For every stable set M, the run under the search's order for M ends at M and sets nothing aside (document 000, theorem 3.8).
use Prim.Native.Nat.{ℕ, ◌-◌, ◌<◌}
use mathlib.Core.Path.{◌≡◌, refl, sym, ◌∙◌, fun_ext}
use mathlib.Core.Bool.{Bool, true, false, not, ◌&&◌}
use mathlib.Core.List.{List, [], ◌∷◌, ◌++◌}
use mathlib.Core.Logic.{◌⊎◌, inl, inr, ⊎_elim}
use mathlib.Core.Option.{Option, none, some}
use borrow.Author.Tests.{lt-ltb, ltb-true}
use lib.Dec.{eqb, ltb}
use Rattle.theory.specs.Rule.{all, clear, mem, keep, up_to, Program, Mask, FactSet, Sub, Same, null, nothing, count, rule, plain, exception, Closed, plain_rules, by_key, first_case}
use Rattle.theory.specs.Lists.{seek}
use Rattle.theory.specs.Derive.{conclude}
use Rattle.theory.specs.Run.{Stand, spares, trial, eligible, stage, first_eligible, run, set_aside}
use Rattle.theory.specs.Stable.{reduct, Stable, upheld, group_for, order_groups, order_for}
use Rattle.theory.proofs.Bools.{either, never, and_left, and_right, and_both, not_of_false, false_of_not, false_of, both_ways}
use Rattle.theory.proofs.Lists.{seek-some, seek-none, seek-append, all_of, all-mono, clear-anti, mem-keep, up_to-mem}
use Rattle.theory.proofs.Derive.{derive-below, adjoin-sub}
use Rattle.theory.proofs.Run.{Sound, Eligible, eligible-parts, eligible-whole, exception-known, applied_cases, start-sound, stage-sound, trial-above, run-keeps, run_ends}
use Rattle.theory.proofs.RunStable.{plain-clear}
use Rattle.theory.proofs.Search.{order-names}

-- a rule of the program is plain or an exception rule
pub plain-or_exception : (P : Program) (i : ℕ) → i < count P → (plain P i ≡ true) ⊎ (exception P i ≡ true)
unfolding plain exception
plain-or_exception P i k =
    ⊎_elim
    (λ e. inl (and_both (lt-ltb i (count P) k) e))
    (λ e. inr (and_both (lt-ltb i (count P) k) (not_of_false e)))
    (either (null (rule P i).constraints))

module _ (P : Program) (on : Mask) (M : FactSet) (m : Stable P on M) where
  -- D is a part of M, and R is disjoint from M
  pub record Inside (s : Stand) : Type 0 where
    pub sound : Sound P on s
    pub inside : Sub s.derived M
    pub apart : (i : ℕ) → mem i s.applied ≡ true → clear M (rule P i).constraints ≡ true

  -- M is closed under the plain rules in force
  closed-plain : Closed P (plain_rules P on) M
  unfolding plain_rules reduct
  closed-plain i k r p =
      m.closed i k (and_both (and_left (on i) _ r) (plain-clear P M i (and_right (on i) _ r))) p

  -- an upheld rule concludes a fact of M
  upheld-in : (i : ℕ) → i < count P → upheld P on M i ≡ true → M (rule P i).conclusion ≡ true
  unfolding reduct
  upheld-in i k u =
      m.closed i k
      (and_both (and_left (on i) _ u) (and_right (all M (rule P i).premises) _ (and_right (on i) _ u)))
      (and_left (all M (rule P i).premises) _ (and_right (on i) _ u))

  -- the trial closure of an upheld rule stays inside M
  trial-inside : (D : FactSet) (i : ℕ) → Sub D M → i < count P → upheld P on M i ≡ true → Sub (trial P on D i) M
  trial-inside D i d k u =
      derive-below P (plain_rules P on) (conclude P D i) M (adjoin-sub D M (rule P i).conclusion d (upheld-in i k u)) closed-plain

  -- an upheld exception rule with its premises in D and its conclusion outside is eligible
  pub upheld-eligible : (s : Stand) (i : ℕ) → Inside s → exception P i ≡ true → upheld P on M i ≡ true → all s.derived (rule P i).premises ≡ true → s.derived (rule P i).conclusion ≡ false → eligible P on s i ≡ true
  unfolding spares
  upheld-eligible s i v x u p c =
      eligible-whole P on s i
      (record {
        excepted = x;
        in-force = and_left (on i) _ u;
        conclusion_out = c;
        premises-in = p;
        spares_own = clear-anti (trial P on s.derived i) M (rule P i).constraints less (and_right (all M (rule P i).premises) _ (and_right (on i) _ u));
        spares_rejected = all_of (λ j. clear (trial P on s.derived i) (rule P j).constraints) s.applied (λ j a. clear-anti (trial P on s.derived i) M (rule P j).constraints less (v.apart j a));
      })
    where
      less : Sub (trial P on s.derived i) M
      less = trial-inside s.derived i v.inside (exception-known P on i x) u

  -- where no upheld exception rule is eligible, D is M
  reached : (s : Stand) → Inside s → ((i : ℕ) → exception P i ≡ true → upheld P on M i ≡ true → eligible P on s i ≡ false) → Same s.derived M
  unfolding reduct plain_rules
  reached s v n f = both_ways _ _ (v.inside f) (m.below s.derived (λ g t. never t refl) closed f)
    where
      closed : Closed P (reduct P on M) s.derived
      closed i k r p =
          ⊎_elim
          (λ e. v.sound.closed i k (and_both (and_left (on i) _ r) e) p)
          (λ x.
          ⊎_elim (λ e. e)
          (λ e. never (upheld-eligible s i v x held p e) (n i x held))
          (either (s.derived (rule P i).conclusion)))
          (plain-or_exception P i k)
        where
          held : upheld P on M i ≡ true
          held = and_both (and_left (on i) _ r) (and_both (all-mono s.derived M (rule P i).premises v.inside p) (and_right (on i) _ r))

  -- An order that names every upheld exception rule, and whose first eligible rule is always upheld.
  module _ (order : List ℕ) (names : (i : ℕ) → exception P i ≡ true → upheld P on M i ≡ true → mem i order ≡ true) (takes : (s : Stand) (i : ℕ) → Inside s → first_eligible P on order s ≡ some i → upheld P on M i ≡ true) where
    stage-inside : (s : Stand) (i : ℕ) → Inside s → first_eligible P on order s ≡ some i → Inside (stage P on s i)
    stage-inside s i v e =
        record {
          sound = stage-sound P on s i v.sound t;
          inside = trial-inside s.derived i v.inside (exception-known P on i t.excepted) u;
          apart = λ j a. ⊎_elim (λ h. v.apart j h) (λ q. rw q (and_right (all M (rule P i).premises) _ (and_right (on i) _ u))) (applied_cases P on s.applied i j a);
        }
      where
        t : Eligible P on s i
        t = eligible-parts P on s i (seek-some (eligible P on s) order i e).passes

        u : upheld P on M i ≡ true
        u = takes s i v e

    end_inside : Inside (run P on order)
    end_inside =
        run-keeps P on order Inside
        (record { sound = start-sound P on; inside = derive-below P (plain_rules P on) nothing M (λ f t. never t refl) closed-plain; apart = λ i a. never a refl })
        stage-inside

    -- The run under it ends at M.
    pub ends_at : Same (run P on order).derived M
    ends_at =
        reached (run P on order) end_inside
        (λ i x u. seek-none (eligible P on (run P on order)) order (run_ends P on order) i (names i x u))

  -- the upheld exception rules are the first group of the order for M
  first : List ℕ
  first = keep (λ i. exception P i && eqb (group_for P on M i) 0) (up_to (count P))

  later : List ℕ
  later = by_key (exception P) (group_for P on M) (count P) 1 (order_groups - 1)

  first-upheld : (i : ℕ) → eqb (group_for P on M i) 0 ≡ upheld P on M i
  first-upheld i = go (upheld P on M i) (on i)
    where
      go : (u o : Bool) → eqb (first_case ((u, 0) ∷ (o, 1) ∷ []) 2) 0 ≡ u
      go true o = refl
      go false true = refl
      go false false = refl

  first_member : (i : ℕ) → exception P i ≡ true → upheld P on M i ≡ true → mem i first ≡ true
  unfolding first
  first_member i x u =
      rw (mem-keep (λ j. exception P j && eqb (group_for P on M j) 0) (up_to (count P)) i)
      (and_both (up_to-mem (count P) i (exception-known P on i x)) (and_both x (first-upheld i ∙ u)))

  member_first : (i : ℕ) → mem i first ≡ true → upheld P on M i ≡ true
  unfolding first
  member_first i e =
      sym (first-upheld i)
      ∙ and_right (exception P i) _ (and_right (mem i (up_to (count P))) _ (rw (mem-keep (λ j. exception P j && eqb (group_for P on M j) 0) (up_to (count P)) i) at e))

  -- where no rule of the first group is eligible, none is
  none_left : (s : Stand) → Inside s → ((i : ℕ) → mem i first ≡ true → eligible P on s i ≡ false) → (i : ℕ) → eligible P on s i ≡ true → ⊥
  none_left s v n i e =
      ⊎_elim
      (λ u. never e (n i (first_member i t.excepted u)))
      (λ u. never (and_both t.in-force (and_both (all-mono s.derived M (rule P i).premises v.inside t.premises-in) (clear-anti M (trial P on s.derived i) (rule P i).constraints grown t.spares_own))) u)
      (either (upheld P on M i))
    where
      t : Eligible P on s i
      t = eligible-parts P on s i e

      grown : Sub M (trial P on s.derived i)
      grown f h = trial-above P on s.derived i f (reached s v (λ j x u. n j (first_member j x u)) f ∙ h)

  -- the rule that a stage takes is of the first group
  taken-upheld : (s : Stand) (i : ℕ) → Inside s → first_eligible P on (order_for P on M) s ≡ some i → upheld P on M i ≡ true
  unfolding order_for first later
  taken-upheld s i v e = go (seek (eligible P on s) first) refl
    where
      go : (o : Option ℕ) → seek (eligible P on s) first ≡ o → upheld P on M i ≡ true
      go none q = absurd (none_left s v (seek-none (eligible P on s) first q) i (seek-some (eligible P on s) (first ++ later) i e).passes)
      go (some j) q =
          let r : some j ≡ some i = sym (seek-append (eligible P on s) first later j q) ∙ e in
          let w : j ≡ i = cc in
          rw (← w) (member_first j (seek-some (eligible P on s) first j q).element)

  -- The run under the order for M ends at M.
  pub order-reaches : Same (run P on (order_for P on M)).derived M
  order-reaches = ends_at (order_for P on M) (λ i x u. order-names P on M i x (and_left (on i) _ u)) taken-upheld

  -- A set that is stable leaves no rule to be set aside.
  pub stable_none_aside : (i : ℕ) → set_aside P on M i ≡ false
  unfolding set_aside reduct
  stable_none_aside i =
      false_of (set_aside P on M i)
      (λ e.
      let a4 = and_left _ (not (M (rule P i).conclusion)) e in
      let a3 = and_left _ (clear M (rule P i).constraints) a4 in
      let a2 = and_left _ (all M (rule P i).premises) a3 in
      never
      (m.closed i (ltb-true i (count P) (and_left (ltb i (count P)) _ a2)) (and_both (and_right (ltb i (count P)) (on i) a2) (and_right (ltb i (count P) && on i && all M (rule P i).premises) _ a4)) (and_right (ltb i (count P) && on i) _ a3))
      (false_of_not _ (and_right (ltb i (count P) && on i && all M (rule P i).premises && clear M (rule P i).constraints) _ e)))

  -- It sets nothing aside.
  pub order-none_aside : (i : ℕ) → set_aside P on (run P on (order_for P on M)).derived i ≡ false
  order-none_aside i = rw (fun_ext order-reaches) (stable_none_aside i)
