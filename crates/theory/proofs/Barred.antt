-- A derivation with barred facts: whether it meets one decides whether the rule on trial is eligible.
use Prim.Native.Nat.{ℕ}
use mathlib.Core.Path.{◌≡◌, refl, sym, ap, ◌∙◌}
use mathlib.Core.Bool.{true, false, ◌||◌}
use mathlib.Core.List.{List, [], ◌∷◌, map}
use mathlib.Core.Logic.{⊎_elim}
use mathlib.Core.Option.{Option, none, some}
use borrow.Author.Tests.{eqb-true}
use lib.Dec.{eqb}
use Rattle.theory.specs.Rule.{all, any, clear, mem, Program, Mask, FactSet, rule, exception, plain_rules}
use Rattle.theory.specs.Derive.{lowest, conclude, fired, derive, meets}
use Rattle.theory.specs.Run.{Stand, rejected, spares, trial, eligible}
use Rattle.theory.proofs.Bools.{never, or_left, or_right, or_cases, or-false, or-false_left, or-false_right, false_of}
use Rattle.theory.proofs.Lists.{mem-here, mem-there, mem-cases, all-elem, all_of, any_of, any-witness, clear-elem, clear_of}
use Rattle.theory.proofs.Derive.{fired-some, fired-none, derive-facts}
use Rattle.theory.proofs.Run.{Eligible, eligible-parts, eligible-whole, trial-has}

module _ (P : Program) (on : Mask) (B : FactSet) where
  -- One rule, and none, of a derivation.
  pub meets-some : (S : FactSet) (i : ℕ) → lowest P on S ≡ some i → meets P on B S ≡ B (rule P i).conclusion || meets P on B (conclude P S i)
  meets-some S i e = ap (any (λ j. B (rule P j).conclusion)) (fired-some P on S i e)

  pub meets-none : (S : FactSet) → ◌≡◌ {A = Option ℕ} (lowest P on S) none → meets P on B S ≡ false
  meets-none S e = ap (any (λ j. B (rule P j).conclusion)) (fired-none P on S e)

  unmet : (f : ℕ) (is : List ℕ) → any (λ i. B (rule P i).conclusion) is ≡ false → mem f (map (λ i. (rule P i).conclusion) is) ≡ true → B f ≡ false
  unmet f [] m k = never k refl
  unmet f (i ∷ is) m k =
      ⊎_elim
      (λ e. rw e (or-false_left (B (rule P i).conclusion) _ m))
      (λ e. unmet f is (or-false_right (B (rule P i).conclusion) _ m) e)
      (mem-cases f (rule P i).conclusion (map (λ j. (rule P j).conclusion) is) k)

  none_met : (is : List ℕ) → ((f : ℕ) → mem f (map (λ i. (rule P i).conclusion) is) ≡ true → B f ≡ false) → any (λ i. B (rule P i).conclusion) is ≡ false
  none_met [] h = refl
  none_met (i ∷ is) h =
      or-false (B (rule P i).conclusion) _ (h (rule P i).conclusion (mem-here (rule P i).conclusion (map (λ j. (rule P j).conclusion) is)))
      (none_met is (λ f k. h f (mem-there f (rule P i).conclusion (map (λ j. (rule P j).conclusion) is) k)))

  -- From a set without a barred fact, what is derived has none exactly where the derivation meets none.
  pub derived_clear : (S : FactSet) → ((f : ℕ) → S f ≡ true → B f ≡ false) → meets P on B S ≡ false → (f : ℕ) → derive P on S f ≡ true → B f ≡ false
  derived_clear S out m f t = ⊎_elim (out f) (unmet f (fired P on S) m) (or_cases (S f) _ (sym (derive-facts P on S f) ∙ t))

  pub clear-meets : (S : FactSet) → ((f : ℕ) → derive P on S f ≡ true → B f ≡ false) → meets P on B S ≡ false
  clear-meets S out = none_met (fired P on S) (λ f k. out f (derive-facts P on S f ∙ or_right (S f) _ k))

-- Barred are the constraints of rule i, and R.
module _ (P : Program) (on : Mask) (s : Stand) (i : ℕ) (B : FactSet) (bars : (f : ℕ) → B f ≡ mem f (rule P i).constraints || rejected P s.applied f) where
  spares-both : ((f : ℕ) → trial P on s.derived i f ≡ true → B f ≡ false) → (clear (trial P on s.derived i) (rule P i).constraints ≡ true) × (spares P (trial P on s.derived i) s.applied ≡ true)
  unfolding spares rejected
  spares-both out = (
    clear_of (trial P on s.derived i) (rule P i).constraints (λ f k. false_of _ (λ t. never (bars f ∙ or_left _ _ k) (out f t))),
    all_of (λ j. clear (trial P on s.derived i) (rule P j).constraints) s.applied
        (λ j m. clear_of (trial P on s.derived i) (rule P j).constraints
        (λ f k. false_of _ (λ t. never (bars f ∙ or_right (mem f (rule P i).constraints) _ (any_of (λ l. mem f (rule P l).constraints) s.applied j m k)) (out f t)))),
  )

  none_barred : Eligible P on s i → (f : ℕ) → trial P on s.derived i f ≡ true → B f ≡ false
  unfolding spares rejected
  none_barred e f t =
      bars f
      ∙ or-false (mem f (rule P i).constraints) _ (false_of _ (λ k. never t (clear-elem (trial P on s.derived i) (rule P i).constraints e.spares_own f k)))
      (false_of _ (λ r.
      let w = any-witness (λ j. mem f (rule P j).constraints) s.applied r in
      never t (clear-elem (trial P on s.derived i) (rule P w.0).constraints (all-elem (λ j. clear (trial P on s.derived i) (rule P j).constraints) s.applied e.spares_rejected w.0 w.1) f w.2)))

  -- A rule whose conclusion is barred, or whose trial meets a barred fact, is not eligible.
  pub conclusion_barred : B (rule P i).conclusion ≡ true → eligible P on s i ≡ false
  conclusion_barred b =
      false_of _ (λ e. never b (none_barred (eligible-parts P on s i e) (rule P i).conclusion (trial-has P on s.derived i)))

  pub trial-barred : meets P (plain_rules P on) B (conclude P s.derived i) ≡ true → eligible P on s i ≡ false
  trial-barred m =
      false_of _ (λ e. never m (clear-meets P (plain_rules P on) B (conclude P s.derived i) (none_barred (eligible-parts P on s i e))))

  -- Otherwise it is, where D has no barred fact.
  module _ (apart : (f : ℕ) → s.derived f ≡ true → B f ≡ false) (free : B (rule P i).conclusion ≡ false) (unmet-any : meets P (plain_rules P on) B (conclude P s.derived i) ≡ false) where
    pub trial-clear : (f : ℕ) → trial P on s.derived i f ≡ true → B f ≡ false
    trial-clear =
        derived_clear P (plain_rules P on) B (conclude P s.derived i) start unmet-any
      where
        start : (f : ℕ) → conclude P s.derived i f ≡ true → B f ≡ false
        start f t = ⊎_elim (λ e. rw (eqb-true f (rule P i).conclusion e) free) (apart f) (or_cases (eqb f (rule P i).conclusion) _ t)

    pub trial-eligible : exception P i ≡ true → on i ≡ true → s.derived (rule P i).conclusion ≡ false → all s.derived (rule P i).premises ≡ true → eligible P on s i ≡ true
    trial-eligible x o out p =
        eligible-whole P on s i
        (record { excepted = x; in-force = o; conclusion_out = out; premises-in = p; spares_own = (spares-both trial-clear).0; spares_rejected = (spares-both trial-clear).1 })
