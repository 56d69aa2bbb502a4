-- The set of a run is stable for the program less the rules set aside, for the whole program if none is, and a rule once refused stays refused.
use Prim.Native.Nat.{ℕ, ◌<◌}
use mathlib.Core.Path.{◌≡◌, refl, sym, ◌∙◌, ap, fun_ext, subst}
use mathlib.Core.Bool.{true, false, not, ◌&&◌}
use mathlib.Core.List.{List, [], ◌∷◌}
use mathlib.Core.Logic.{⊎_elim}
use borrow.Author.Tests.{lt-ltb}
use lib.Dec.{ltb}
use Rattle.theory.specs.Rule.{all, clear, mem, Program, Mask, FactSet, Sub, nothing, null, count, rule, plain, Closed, plain_rules}
use Rattle.theory.specs.Derive.{conclude}
use Rattle.theory.specs.Run.{Stand, spares, trial, eligible, run, set_aside, kept}
use Rattle.theory.specs.Stable.{reduct, Stable}
use Rattle.theory.proofs.Bools.{either, never, and_left, and_right, and_both, or_cases, not_of_false, false_of_not, false_of, and-true}
use Rattle.theory.proofs.Lists.{all-elem, all_of, clear-anti}
use Rattle.theory.proofs.Derive.{derive-mono, adjoin-above, adjoin-has, adjoin-sub}
use Rattle.theory.proofs.Grounds.{grounds_below}
use Rattle.theory.proofs.Run.{Sound, Eligible, eligible-parts, eligible-whole, granted, run_sound}

-- a plain rule has no constraint that a set could meet
pub plain-clear : (P : Program) (M : FactSet) (i : ℕ) → plain P i ≡ true → clear M (rule P i).constraints ≡ true
unfolding plain
plain-clear P M i p = go (rule P i).constraints (and_right (ltb i (count P)) _ p)
  where
    go : (ks : List ℕ) → null ks ≡ true → clear M ks ≡ true
    go [] e = refl
    go (k ∷ ks) e = never e refl

-- a rule whose conclusion is in D is not set aside
pub concluded-kept : (P : Program) (on : Mask) (D : FactSet) (i : ℕ) → D (rule P i).conclusion ≡ true → set_aside P on D i ≡ false
unfolding set_aside
concluded-kept P on D i d =
    false_of (set_aside P on D i)
    (λ e. never d (false_of_not (D (rule P i).conclusion) (and_right (ltb i (count P) && on i && all D (rule P i).premises && clear D (rule P i).constraints) (not (D (rule P i).conclusion)) e)))

-- The run's facts are stable for the program less the rules set aside, wherever a run may stand.
pub sound_stable : (P : Program) (on : Mask) (s : Stand) → Sound P on s → Stable P (kept P on s.derived) s.derived
unfolding reduct set_aside spares plain_rules
sound_stable P on s v =
    record {
      above = λ f t. never t refl;
      closed = λ i k r p. ⊎_elim (λ e. e) (λ e. never (aside i k r p e) (false_of_not _ (and_right (on i) _ (and_left _ (clear s.derived (rule P i).constraints) r)))) (either (s.derived (rule P i).conclusion));
      below = λ N _ c f t. grounds_below P (granted P on s.applied) s.derived N (taken N c) s.trace nothing (λ g u. never u refl) (λ g u. v.facts g ∙ u) v.grounds f (sym (v.facts f) ∙ t);
    }
  where
    aside : (i : ℕ) → i < count P → reduct P (kept P on s.derived) s.derived i ≡ true → all s.derived (rule P i).premises ≡ true → s.derived (rule P i).conclusion ≡ false → set_aside P on s.derived i ≡ true
    aside i k r p e =
        and_both (and_both (and_both (and_both (lt-ltb i (count P) k) (and_left (on i) _ (and_left _ (clear s.derived (rule P i).constraints) r))) p) (and_right (kept P on s.derived i) _ r)) (not_of_false e)

    taken : (N : FactSet) → Closed P (reduct P (kept P on s.derived) s.derived) N → (i : ℕ) → i < count P → granted P on s.applied i ≡ true → s.derived (rule P i).conclusion ≡ true → all N (rule P i).premises ≡ true → N (rule P i).conclusion ≡ true
    taken N c i k g d p =
        c i k
        (⊎_elim
        (λ e. left (and_left (on i) _ e) (plain-clear P s.derived i (and_right (on i) _ e)))
        (λ e. left (v.in-force i e) (all-elem (λ j. clear s.derived (rule P j).constraints) s.applied v.spared i e))
        (or_cases (plain_rules P on i) _ g))
        p
      where
        left : on i ≡ true → clear s.derived (rule P i).constraints ≡ true → reduct P (kept P on s.derived) s.derived i ≡ true
        left o l = and_both (and_both o (not_of_false (concluded-kept P on s.derived i d))) l

-- The run ends at a stable set of the rules in force less those set aside, ..
pub run-stable : (P : Program) (on : Mask) (order : List ℕ) → Stable P (kept P on (run P on order).derived) (run P on order).derived
run-stable P on order = sound_stable P on (run P on order) (run_sound P on order)

-- .. so a run that sets nothing aside ends at a stable set of all the rules in force (document 000, theorem 3.3).
pub none_aside_stable : (P : Program) (on : Mask) (order : List ℕ) → ((i : ℕ) → set_aside P on (run P on order).derived i ≡ false) → Stable P on (run P on order).derived
none_aside_stable P on order none = subst (λ r. Stable P r (run P on order).derived) all-kept (run-stable P on order)
  where
    all-kept : kept P on (run P on order).derived ≡ on
    all-kept = fun_ext (λ i. ap (λ b. on i && not b) (none i) ∙ and-true (on i))

-- Once refused, always refused: a rule whose premises are in D and that is not eligible is not eligible at any later stage.
pub refused-stays : (P : Program) (on : Mask) (s t : Stand) (i : ℕ) → Sub s.derived t.derived → ((j : ℕ) → mem j s.applied ≡ true → mem j t.applied ≡ true) → all s.derived (rule P i).premises ≡ true → eligible P on s i ≡ false → eligible P on t i ≡ false
unfolding spares
refused-stays P on s t i d a p e =
    false_of (eligible P on t i) (λ u. never (eligible-whole P on s i (before (eligible-parts P on t i u))) e)
  where
    less : Sub (trial P on s.derived i) (trial P on t.derived i)
    less =
        derive-mono P (plain_rules P on) (plain_rules P on) (conclude P s.derived i) (conclude P t.derived i) (λ j k u. u)
        (adjoin-sub s.derived (conclude P t.derived i) (rule P i).conclusion (λ f u. adjoin-above t.derived (rule P i).conclusion f (d f u)) (adjoin-has t.derived (rule P i).conclusion))

    before : Eligible P on t i → Eligible P on s i
    before u =
        record {
          excepted = u.excepted;
          in-force = u.in-force;
          conclusion_out = false_of (s.derived (rule P i).conclusion) (λ w. never (d _ w) u.conclusion_out);
          premises-in = p;
          spares_own = clear-anti (trial P on s.derived i) (trial P on t.derived i) (rule P i).constraints less u.spares_own;
          spares_rejected = all_of (λ j. clear (trial P on s.derived i) (rule P j).constraints) s.applied (λ j m. clear-anti (trial P on s.derived i) (trial P on t.derived i) (rule P j).constraints less (all-elem (λ j. clear (trial P on t.derived i) (rule P j).constraints) t.applied u.spares_rejected j (a j m)));
        }
