-- All lanes are settled: rule by rule, until no place waits.
use Prim.Native.Nat.{ℕ, ◌+◌, ◌*◌, ◌<◌}
use native.Mathlib.Omega.{arith}
use mathlib.Core.Path.{◌≡◌, refl, sym, ap, subst, fun_ext, ◌∙◌}
use mathlib.Core.Bool.{Bool, true, false, not, ◌&&◌}
use mathlib.Core.List.{List}
use mathlib.Core.Logic.{◌⊎◌, inl, inr, ⊎_elim}
use borrow.Author.Tests.{eqb-true, ltb-true, lt-ltb}
use lib.Dec.{eqb, ltb}
use lib.ListN.{length, get_or, replicate, length-replicate}
use Rattle.theory.specs.Rule.{all, clear, Program, FactSet, Sub, nothing, in_force, count, rule, Closed}
use Rattle.theory.specs.Check.{least_of}
use Rattle.theory.specs.Stable.{reduct}
use Rattle.theory.proofs.Bools.{either, never, and_left, and_right, and_both, or_left, or_right, or_cases, false_of, both_ways}
use Rattle.theory.proofs.Lists.{all-ext, all-mono, all-elem, zeros, eqb-self, get_or-mem}
use Rattle.theory.proofs.Stable.{least_of-least, reduct-has, reduct-on, reduct-clear}
use Rattle.theory.proofs.NumberBits.{bit-zero}
use Rattle.theory.specs.Guesses.{bit}
use Rattle.bits.specs.Flags.{word_bits, Flags, without}
use Rattle.premises.specs.Premises.{in_row, ripe}
use Rattle.lanes.specs.Lanes.{lane_words, lane_cells, lane_in, Fit}
use Rattle.blocks.specs.Order.{InOrder}
use Rattle.blocks.specs.Settling.{fires_in, Stepped, Settled}

-- what a lane derives in the end
abbrev pub least_in : Program → List ℕ → ℕ → ℕ → FactSet
least_in P outs w t = least_of P (in_force P) (λ k. not (lane_in outs w t k))

-- On the way: some places wait. The rules of the others derive nothing new, and nothing is derived without grounds.
pub record Settling (P : Program) (order : List ℕ) (outs derived pending : List ℕ) : Type 0 where
  pub waits : ℕ → Bool
  pub flags : Flags waits pending
  pub below : (k : ℕ) → waits k ≡ true → k < length order
  pub closed : (k : ℕ) → k < length order → waits k ≡ false → (w t : ℕ) → w < lane_words → t < word_bits → fires_in P outs derived (get_or order k 0) w t ≡ true → lane_in derived w t (rule P (get_or order k 0)).conclusion ≡ true
  pub sound : (w t : ℕ) → w < lane_words → t < word_bits → Sub (lane_in derived w t) (least_in P outs w t)
  pub places : length derived ≡ lane_cells
  pub fitting : Fit derived

module _ {P : Program} {order : List ℕ} (o : InOrder P order) where
  -- the rule at a place is one of the program
  pub known_at : (k : ℕ) → k < length order → get_or order k 0 < count P
  known_at k h =
      ltb-true (get_or order k 0) (count P) (all-elem (λ i. ltb i (count P)) order o.listed.known (get_or order k 0) (get_or-mem order k h))

  -- At first nothing is derived, and the places whose rules have no premise wait.
  pub none_settled : (outs derived pending : List ℕ) → derived ≡ replicate lane_cells 0 → Flags (ripe P (in_row order) nothing) pending → Settling P order outs derived pending
  none_settled outs derived pending e f =
      record {
        waits = ripe P (in_row order) nothing;
        flags = f;
        below = λ k t. ltb-true k _ (and_left (ltb k (length order)) _ t);
        closed = λ k h q w t u v g. never (asks_nothing k h (sym (all-ext (lane_in derived w t) nothing (rule P (get_or order k 0)).premises (λ x m. out w t x)) ∙ and_left _ _ g)) q;
        sound = λ w t h l g q. never q (out w t g);
        places = ap length e ∙ length-replicate {A = ℕ} lane_cells 0;
        fitting = λ i. let z : get_or derived i 0 ≡ 0 = nothing-there i in omega arith;
      }
    where
      nothing-there : (i : ℕ) → get_or derived i 0 ≡ 0
      nothing-there i = ap (λ (l : List ℕ). get_or l i 0) e ∙ zeros lane_cells i

      out : (w t g : ℕ) → lane_in derived w t g ≡ false
      out w t g = ap (λ (n : ℕ). bit n t) (nothing-there (g * lane_words + w)) ∙ bit-zero t

      asks_nothing : (k : ℕ) → k < length order → all nothing (rule P (get_or order k 0)).premises ≡ true → ripe P (in_row order) nothing k ≡ true
      asks_nothing k h q = and_both (lt-ltb k _ h) q

  module _ {outs derived pending : List ℕ} (s : Settling P order outs derived pending) where
    -- A place is taken, and its rule looked at.
    pub one_settled : (place : ℕ) → s.waits place ≡ true → {pending₁ derived' pending' : List ℕ} → Stepped P (in_row order) (without s.waits place) (get_or order place 0) outs derived pending₁ derived' pending' → Settling P order outs derived' pending'
    one_settled place t {pending₁} {derived'} {pending'} d =
        record {
          waits = d.waits;
          flags = d.flags;
          below = λ k q. ⊎_elim (λ e. s.below k (and_right (not (eqb k place)) (s.waits k) e)) (λ e. within k (d.taken k q e)) (either (without s.waits place k));
          closed = λ k h q w l u v f. go k h w l u v (before_too k h q w l u v f) (left k q);
          sound = λ w l h u g q. ⊎_elim (s.sound w l h u g) (λ e. grounded w l h u g e) (or_cases _ _ (sym (d.adds w l g h u) ∙ q));
          places = d.places;
          fitting = d.fitting s.fitting;
        }
      where
        within : (k : ℕ) → ltb k (length order) ≡ true → k < length order
        within k q = ltb-true k _ q

        taken_at : (k : ℕ) → k < length order → ltb k (length order) ≡ true
        taken_at k h = lt-ltb k _ h

        -- a place that does not wait now is the one taken, or did not wait before
        left : (k : ℕ) → d.waits k ≡ false → (eqb k place ≡ true) ⊎ (s.waits k ≡ false)
        left k q = sorted (eqb k place) (s.waits k) (false_of (without s.waits place k) (λ e. never (d.still k e) q))
          where
            sorted : (a b : Bool) → not a && b ≡ false → (a ≡ true) ⊎ (b ≡ false)
            sorted true b e = inl refl
            sorted false b e = inr e

        -- its rule fired before where it fires now
        before_too : (k : ℕ) → k < length order → d.waits k ≡ false → (w l : ℕ) → w < lane_words → l < word_bits → fires_in P outs derived' (get_or order k 0) w l ≡ true → fires_in P outs derived (get_or order k 0) w l ≡ true
        before_too k h q w l u v f =
            let same : all (lane_in derived' w l) (rule P (get_or order k 0)).premises ≡ all (lane_in derived w l) (rule P (get_or order k 0)).premises =
            d.known k (taken_at k h) q w l u v in
            and_both (sym same ∙ and_left _ _ f) (and_right (all (lane_in derived' w l) (rule P (get_or order k 0)).premises) _ f)

        go : (k : ℕ) → k < length order → (w l : ℕ) → w < lane_words → l < word_bits → fires_in P outs derived (get_or order k 0) w l ≡ true → (eqb k place ≡ true) ⊎ (s.waits k ≡ false) → lane_in derived' w l (rule P (get_or order k 0)).conclusion ≡ true
        go k h w l u v f (inl e) =
            let is : k ≡ place = eqb-true k place e in
            let fires : fires_in P outs derived (get_or order place 0) w l ≡ true = subst (λ (n : ℕ). fires_in P outs derived (get_or order n 0) w l ≡ true) is f in
            subst (λ (n : ℕ). lane_in derived' w l (rule P (get_or order n 0)).conclusion ≡ true) (sym is)
            (d.adds w l (rule P (get_or order place 0)).conclusion u v ∙ or_right (lane_in derived w l (rule P (get_or order place 0)).conclusion) _ (and_both (eqb-self (rule P (get_or order place 0)).conclusion) fires))
        go k h w l u v f (inr e) =
            d.adds w l (rule P (get_or order k 0)).conclusion u v ∙ or_left (lane_in derived w l (rule P (get_or order k 0)).conclusion) _ (s.closed k h e w l u v f)

        -- what is new has grounds
        grounded : (w l : ℕ) → w < lane_words → l < word_bits → (g : ℕ) → eqb g (rule P (get_or order place 0)).conclusion && fires_in P outs derived (get_or order place 0) w l ≡ true → least_in P outs w l g ≡ true
        grounded w l h u g e =
            let at : place < length order = s.below place t in
            let is : g ≡ (rule P (get_or order place 0)).conclusion = eqb-true g _ (and_left _ _ e) in
            let f : fires_in P outs derived (get_or order place 0) w l ≡ true = and_right (eqb g (rule P (get_or order place 0)).conclusion) _ e in
            subst (λ (n : ℕ). least_in P outs w l n ≡ true) (sym is)
            ((least_of-least P (in_force P) (λ k. not (lane_in outs w l k))).closed (get_or order place 0) (known_at place at)
            (reduct-has P (in_force P) (λ k. not (lane_in outs w l k)) (get_or order place 0) (o.only place at) (held-clear (rule P (get_or order place 0)).constraints (and_right (all (lane_in derived w l) (rule P (get_or order place 0)).premises) _ f)))
            (all-mono (lane_in derived w l) (least_in P outs w l) (rule P (get_or order place 0)).premises (s.sound w l h u) (and_left _ _ f)))
          where
            held-clear : (ks : List ℕ) → all (lane_in outs w l) ks ≡ true → clear (λ k. not (lane_in outs w l k)) ks ≡ true
            held-clear ks q = sym (all-ext (lane_in outs w l) (λ k. not (not (lane_in outs w l k))) ks (λ k m. twice (lane_in outs w l k))) ∙ q
              where
                twice : (b : Bool) → b ≡ not (not b)
                twice true = refl
                twice false = refl

    -- No place waits any more.
    pub all_settled : ((k : ℕ) → s.waits k ≡ false) → Settled P outs derived
    all_settled q = record { places = s.places; least = λ w t h l. fun_ext (λ f. both_ways _ _ (s.sound w t h l f) (contained w t h l f)) }
      where
        contained : (w t : ℕ) → w < lane_words → t < word_bits → Sub (least_in P outs w t) (lane_in derived w t)
        contained w t h l =
            (least_of-least P (in_force P) (λ k. not (lane_in outs w t k))).below (lane_in derived w t) (λ f z. never z refl) kept
          where
            clear-held : (ks : List ℕ) → clear (λ k. not (lane_in outs w t k)) ks ≡ true → all (lane_in outs w t) ks ≡ true
            clear-held ks e = all-ext (lane_in outs w t) (λ k. not (not (lane_in outs w t k))) ks (λ k m. twice (lane_in outs w t k)) ∙ e
              where
                twice : (b : Bool) → b ≡ not (not b)
                twice true = refl
                twice false = refl

            kept : Closed P (reduct P (in_force P) (λ k. not (lane_in outs w t k))) (lane_in derived w t)
            kept i k r p =
                let e : (m : ℕ) × (m < length order) × (get_or order m 0 ≡ i) = o.every i k (reduct-on P (in_force P) (λ j. not (lane_in outs w t j)) i r) in
                subst (λ (n : ℕ). lane_in derived w t (rule P n).conclusion ≡ true) e.2
                (s.closed e.0 e.1 (q e.0) w t h l
                (subst (λ (n : ℕ). fires_in P outs derived n w t ≡ true) (sym e.2) (and_both p (clear-held (rule P i).constraints (reduct-clear P (in_force P) (λ j. not (lane_in outs w t j)) i r)))))
