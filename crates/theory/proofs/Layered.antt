-- Where facts have ranks there is exactly one stable set, and the run under the order by rank ends at it and sets nothing aside.
use Prim.Native.Nat.{ℕ, zero, suc, ◌≤◌, ◌<◌}
use native.Mathlib.Omega.{arith}
use mathlib.Core.Path.{◌≡◌, refl, sym, ◌∙◌, fun_ext, subst}
use mathlib.Core.Bool.{Bool, true, false, cond, ◌||◌}
use mathlib.Core.List.{List}
use mathlib.Core.Logic.{◌⊎◌, inl, inr, ⊎_elim}
use mathlib.Core.Option.{some}
use borrow.Author.Tests.{lt-leb, leb-false}
use lib.ListN.{length, get_or}
use lib.Dec.{eqb, leb}
use Rattle.theory.specs.Rule.{all, mem, up_to, how_many, by_key, Program, Mask, FactSet, Same, nothing, count, rule, exception, constraint_fact, Closed, Least, plain_rules}
use Rattle.theory.specs.Run.{Stand, trial, eligible, first_eligible, run, set_aside}
use Rattle.theory.specs.Stable.{reduct, Stable, upheld}
use Rattle.theory.specs.Check.{least_of}
use Rattle.theory.specs.Layers.{Ranks, RankedBefore, ByRank, highest, rank_key}
use Rattle.theory.proofs.Bools.{either, never, and_both, or_left, or_right, or_cases, false_of, both_ways}
use Rattle.theory.proofs.Lists.{all-elem, all_of, all-mono, clear-elem, clear_of, get_or-mem, up_to-mem, seek-some}
use Rattle.theory.proofs.ByKey.{ByKeyBefore, key_member, key_rising, key_sorted, key_once, key_only, key_length, key_names, rising_first}
use Rattle.theory.proofs.Run.{Eligible, eligible-parts, exception-known, trial-above}
use Rattle.theory.proofs.Stable.{constraint_from, reduct-has, reduct-on, reduct-clear, least_of-least, least_of-agrees}
use Rattle.theory.proofs.Ranks.{highest-above}
use Rattle.theory.proofs.Order.{plain-or_exception, Inside, upheld-eligible, ends_at, stable_none_aside}

-- The exception rules by rank of conclusion, then by number; those that are not in force come last.
abbrev pub order_by_rank : Program → Mask → (ℕ → ℕ) → List ℕ
order_by_rank P on rank = by_key (exception P) (rank_key P on rank) (count P) 0 (suc P.facts)

module _ (P : Program) (on : Mask) (rank : ℕ → ℕ) where
  -- Of two rules by key, the first stands before the second by rank where the ranks of conclusions are below the key of the rules not in force.
  key_ranked : (i j : ℕ) → (on j ≡ true → rank (rule P j).conclusion < P.facts) → ByKeyBefore (rank_key P on rank) i j → RankedBefore P on rank i j
  key_ranked i j low = go (on i) refl (on j) refl low
    where
      go : (a : Bool) → on i ≡ a → (b : Bool) → on j ≡ b → (on j ≡ true → rank (rule P j).conclusion < P.facts) → ByKeyBefore (rank_key P on rank) i j → RankedBefore P on rank i j
      go true e true f s t = inl ((e, f), rw (e, f) at t)
      go true e false f s t = inr (inl (e, f))
      go false e true f s t = absurd (⊎_elim (λ q. omega (arith, s f, rw (e, f) at q)) (λ q. omega (arith, s f, rw (e, f) at q.0)) t)
      go false e false f s t = inr (inr ((e, f), ⊎_elim (λ q. absurd (omega (arith, rw (e, f) at q))) (λ q. q.1) t))

  -- The order is by rank, then by number, with the rules that are not in force behind all others.
  pub rank_sorted : ((i : ℕ) → exception P i ≡ true → on i ≡ true → rank (rule P i).conclusion < P.facts) → ByRank P on rank (order_by_rank P on rank)
  rank_sorted low j k l h =
      key_ranked (get_or (order_by_rank P on rank) j 0) (get_or (order_by_rank P on rank) k 0)
      (low (get_or (order_by_rank P on rank) k 0) (key_member (exception P) (rank_key P on rank) (count P) 0 (suc P.facts) (get_or (order_by_rank P on rank) k 0) (get_or-mem (order_by_rank P on rank) k h)).0)
      (key_sorted (exception P) (rank_key P on rank) (count P) (suc P.facts) j k l h)

  module _ (small : (f : ℕ) → rank f ≤ P.facts) where
    key_small : (i : ℕ) → rank_key P on rank i < suc P.facts
    key_small i = go (on i)
      where
        go : (b : Bool) → cond b (rank (rule P i).conclusion) P.facts < suc P.facts
        go true = omega (arith, small (rule P i).conclusion)
        go false = omega arith

    -- It names each exception rule once, and no other.
    pub rank_once : (i : ℕ) → exception P i ≡ true → how_many (eqb i) (order_by_rank P on rank) ≡ 1
    rank_once i x = key_once (exception P) (rank_key P on rank) (count P) (suc P.facts) key_small i (exception-known P on i x) x

    pub rank_only : (i : ℕ) → exception P i ≡ false → how_many (eqb i) (order_by_rank P on rank) ≡ 0
    rank_only i x = key_only (exception P) (rank_key P on rank) (count P) (suc P.facts) key_small i x

    -- It is as long as there are exception rules.
    pub rank_length : length (order_by_rank P on rank) ≡ how_many (exception P) (up_to (count P))
    rank_length = key_length (exception P) (rank_key P on rank) (count P) (suc P.facts) key_small

    pub rank_names : (i : ℕ) → exception P i ≡ true → mem i (order_by_rank P on rank) ≡ true
    rank_names i x = key_names (exception P) (rank_key P on rank) (count P) (suc P.facts) key_small i (exception-known P on i x) x

  module _ (r : Ranks P on rank) where
    -- A set that is closed under the rules of the reduct whose conclusions have rank below p holds what the least set has below rank p: with all
    -- facts from rank p on it is closed under the whole reduct.
    least_low : (p : ℕ) (M A D : FactSet) → Least P (reduct P on M) nothing A → ((i : ℕ) → i < count P → reduct P on M i ≡ true → rank (rule P i).conclusion < p → all D (rule P i).premises ≡ true → D (rule P i).conclusion ≡ true) → (f : ℕ) → rank f < p → A f ≡ true → D f ≡ true
    least_low p M A D a low f l t = inner f l (a.below wide (λ g u. never u refl) closed f t)
      where
        wide : FactSet
        wide g = D g || leb p (rank g)

        inner : (g : ℕ) → rank g < p → wide g ≡ true → D g ≡ true
        inner g h t = ⊎_elim (λ e. e) (λ e. never e (lt-leb p (rank g) h)) (or_cases (D g) _ t)

        closed : Closed P (reduct P on M) wide
        closed i k u h = ⊎_elim (λ e. or_right (D (rule P i).conclusion) _ e) (λ e. or_left _ _ (below (leb-false p _ e))) (either (leb p (rank (rule P i).conclusion)))
          where
            below : rank (rule P i).conclusion < p → D (rule P i).conclusion ≡ true
            below c =
                low i k u c
                (all_of D (rule P i).premises (λ g m. inner g (omega (arith, r.not_below i k (reduct-on P on M i u) g m)) (all-elem wide (rule P i).premises h g m)))

    -- Where M and N agree below rank p, the least sets of their reducts agree up to rank p.
    agree_up : (p : ℕ) (M N A B : FactSet) → ((k : ℕ) → rank k < p → M k ≡ N k) → Least P (reduct P on M) nothing A → Least P (reduct P on N) nothing B → (f : ℕ) → rank f < suc p → A f ≡ B f
    agree_up p M N A B same a b f l = both_ways _ _ (into M N A B same a b) (into N M B A (λ k h. sym (same k h)) b a)
      where
        into : (M N A B : FactSet) → ((k : ℕ) → rank k < p → M k ≡ N k) → Least P (reduct P on M) nothing A → Least P (reduct P on N) nothing B → A f ≡ true → B f ≡ true
        into M N A B same a b =
            least_low (suc p) M A B a
            (λ i k u c. let o = reduct-on P on M i u in b.closed i k (reduct-has P on N i o (clear_of N (rule P i).constraints (λ g m. sym (same g (omega (arith, r.above i k o g m))) ∙ clear-elem M (rule P i).constraints (reduct-clear P on M i u) g m))))
            f l

    -- There is at most one stable set, ..
    pub stable_one : (M N : FactSet) → Stable P on M → Stable P on N → Same M N
    stable_one M N a b f = below (suc (rank f)) f (omega arith)
      where
        below : (p g : ℕ) → rank g < p → M g ≡ N g
        below zero g l = absurd (omega arith)
        below (suc p) g l = agree_up p M N M N (below p) a b g l

    -- From nothing on, each is the least set of the reduct by the one before; below rank n they change no more after n.
    abbrev layer : ℕ → FactSet
    layer zero = nothing
    layer (suc n) = least_of P on (layer n)

    layer-settles : (n f : ℕ) → rank f < n → layer n f ≡ layer (suc n) f
    layer-settles zero f l = absurd (omega arith)
    layer-settles (suc n) f l =
        agree_up n (layer n) (layer (suc n)) (layer (suc n)) (layer (suc (suc n))) (layer-settles n) (least_of-least P on (layer n)) (least_of-least P on (layer (suc n))) f l

    -- .. and there is one.
    pub stable_some : (M : FactSet) × Stable P on M
    stable_some = (layer (suc top), subst (Least P (reduct P on (layer (suc top))) nothing) again (least_of-least P on (layer (suc top))))
      where
        -- above the rank of every constraint
        top : ℕ
        top = suc (highest (λ i. highest rank (rule P i).constraints) (up_to (count P)))

        low : (k : ℕ) → constraint_fact P on k ≡ true → rank k < top
        low k h =
            let (i, l, _, m) = constraint_from P on k h in
            omega (arith, highest-above rank (rule P i).constraints k m, highest-above (λ j. highest rank (rule P j).constraints) (up_to (count P)) i (up_to-mem (count P) i l))

        again : least_of P on (layer (suc top)) ≡ layer (suc top)
        again = least_of-agrees P on (layer (suc top)) (layer top) (λ k h. sym (layer-settles top k (low k h)))

    module _ (small : (f : ℕ) → rank f ≤ P.facts) where
      -- no eligible rule has a conclusion of lower rank than the one that a stage takes
      none_lower : (s : Stand) (q i : ℕ) → first_eligible P on (order_by_rank P on rank) s ≡ some q → eligible P on s q ≡ true → eligible P on s i ≡ true → rank (rule P i).conclusion < rank (rule P q).conclusion → ⊥
      none_lower s q i e t u l =
          go (rising_first (ByKeyBefore (rank_key P on rank)) (eligible P on s) (order_by_rank P on rank) q i (key_rising (exception P) (rank_key P on rank) (count P) 0 (suc P.facts)) e (rank_names small i (eligible-parts P on s i u).excepted) u)
        where
          key_of : (j : ℕ) → eligible P on s j ≡ true → rank_key P on rank j ≡ rank (rule P j).conclusion
          key_of j w = rw (eligible-parts P on s j w).in-force

          go : (i ≡ q) ⊎ ByKeyBefore (rank_key P on rank) q i → ⊥
          go (inl h) = let w : rank (rule P i).conclusion ≡ rank (rule P q).conclusion = rw h in omega arith
          go (inr (inl h)) = omega (arith, h, key_of i u, key_of q t)
          go (inr (inr h)) = omega (arith, h.0, key_of i u, key_of q t)

      module _ (M : FactSet) (m : Stable P on M) where
        -- The rule that a stage takes is upheld. A constraint of it has a lower rank, and below that rank D has all of M: it is closed under the
        -- plain rules, and an upheld exception rule with its conclusion outside would be eligible and stand before the rule taken.
        taken : (s : Stand) (q : ℕ) → Inside P on M m s → first_eligible P on (order_by_rank P on rank) s ≡ some q → upheld P on M q ≡ true
        unfolding plain_rules
        taken s q v e =
            and_both t.in-force
            (and_both (all-mono s.derived M (rule P q).premises v.inside t.premises-in) (clear_of M (rule P q).constraints (λ k c. false_of (M k) (out k c))))
          where
            passes : eligible P on s q ≡ true
            passes = (seek-some (eligible P on s) (order_by_rank P on rank) q e).passes

            t : Eligible P on s q
            t = eligible-parts P on s q passes

            low : (i : ℕ) → i < count P → reduct P on M i ≡ true → rank (rule P i).conclusion < rank (rule P q).conclusion → all s.derived (rule P i).premises ≡ true → s.derived (rule P i).conclusion ≡ true
            low i k u l p =
                ⊎_elim
                (λ x. v.sound.closed i k (and_both (reduct-on P on M i u) x) p)
                (λ x.
                ⊎_elim (λ d. d)
                (λ d. absurd (none_lower s q i e passes (upheld-eligible P on M m s i v x held p d) l))
                (either (s.derived (rule P i).conclusion)))
                (plain-or_exception P i k)
              where
                held : upheld P on M i ≡ true
                held = and_both (reduct-on P on M i u) (and_both (all-mono s.derived M (rule P i).premises v.inside p) (reduct-clear P on M i u))

            out : (k : ℕ) → mem k (rule P q).constraints ≡ true → M k ≡ true → ⊥
            out k c h =
                never
                (trial-above P on s.derived q k (least_low (rank (rule P q).conclusion) M M s.derived m low k (r.above q (exception-known P on q t.excepted) t.in-force k c) h))
                (clear-elem (trial P on s.derived q) (rule P q).constraints t.spares_own k c)

        -- The run under the order by rank ends at the stable set, ..
        pub rank_reaches : Same (run P on (order_by_rank P on rank)).derived M
        rank_reaches = ends_at P on M m (order_by_rank P on rank) (λ i x _. rank_names small i x) taken

      pub rank_run_stable : Stable P on (run P on (order_by_rank P on rank)).derived
      rank_run_stable = let (M, m) = stable_some in subst (Stable P on) (sym (fun_ext (rank_reaches M m))) m

      -- .. and sets nothing aside.
      pub rank_none_aside : (i : ℕ) → set_aside P on (run P on (order_by_rank P on rank)).derived i ≡ false
      rank_none_aside = stable_none_aside P on (run P on (order_by_rank P on rank)).derived rank_run_stable
