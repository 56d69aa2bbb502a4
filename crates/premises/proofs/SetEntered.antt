-- The facts of a set enter, from the lowest on.
use Prim.Native.Nat.{ℕ, ◌+◌, ◌<◌}
use mathlib.Core.Path.{◌≡◌, refl, sym, ap, subst, ◌∙◌, fun_ext}
use mathlib.Core.Bool.{Bool, true, false, ◌&&◌, ◌||◌}
use mathlib.Core.List.{List}
use mathlib.Core.Logic.{⊎_elim}
use native.Mathlib.Omega.{arith}
use borrow.Author.Tests.{eqb-true, lt-ltb, le-ltb}
use lib.Dec.{eqb, ltb}
use Rattle.theory.specs.Rule.{up_to, nothing, adjoin, Program, FactSet}
use Rattle.theory.specs.Conditions.{Bounded}
use Rattle.theory.proofs.Bools.{either}
use Rattle.theory.proofs.Lists.{all-ext, eqb-self, how_many-ext, mem-up_to, below_more, here_not, here_now}
use Rattle.theory.proofs.Derive.{adjoin-above}
use Rattle.items.specs.Item.{narrow, max_facts}
use Rattle.bits.specs.Flags.{Flags}
use Rattle.premises.specs.Premises.{Places, premises_at, lacks, ripe, Asked, Counted}
use Rattle.premises.proofs.RowRoused.{roused-ripe}
use Rattle.premises.proofs.PremisesCounted.{premises_below}
use Rattle.premises.proofs.FactsEntered.{Enters, fact-entered}

-- the facts of the set below n
abbrev below : ℕ → FactSet → FactSet
below n S f = ltb f n && S f

-- Those below n have entered.
pub record SetEntering (P : Program) (S : FactSet) (asks missing₀ awake₀ : List ℕ) (n : ℕ) (missing awake : List ℕ) : Type 0 where
  pub any : (R : Places) → Asked P R asks → Counted P R nothing missing₀ → Flags (ripe P R nothing) awake₀ → Counted P R (below n S) missing × Flags (ripe P R (below n S)) awake

same_sets : {P : Program} {R : Places} {S T : FactSet} {missing awake : List ℕ} → S ≡ T → Counted P R S missing × Flags (ripe P R S) awake → Counted P R T missing × Flags (ripe P R T) awake
same_sets {P} {R} {S} {T} {missing} {awake} e = subst (λ (U : FactSet). Counted P R U missing × Flags (ripe P R U) awake) e

pub none_in : (P : Program) (S : FactSet) (asks missing awake : List ℕ) → SetEntering P S asks missing awake 0 missing awake
none_in P S asks missing awake =
    record { any = λ R a c f. same_sets (fun_ext (λ g. sym (ap (λ (b : Bool). b && S g) (le-ltb g 0 (omega arith))))) (c, f) }

module _ {P : Program} (b : Bounded P) {S : FactSet} {asks missing₀ awake₀ : List ℕ} {n : ℕ} {missing awake : List ℕ} (w : SetEntering P S asks missing₀ awake₀ n missing awake) where
  at_each : (T : FactSet) → T n ≡ below (n + 1) S n → ((g : ℕ) → eqb g n ≡ false → T g ≡ below n S g) → T ≡ below (n + 1) S
  at_each T here other = fun_ext (λ g. ⊎_elim (λ e. let is : g ≡ n = eqb-true g n e in rw is here) (λ e. other g e ∙ below_more n g (S g) e) (either (eqb g n)))

  pub one_out : S n ≡ false → SetEntering P S asks missing₀ awake₀ (n + 1) missing awake
  one_out out = record { any = λ R a c f. same_sets (at_each (below n S) (here_not n (S n) ∙ sym (here_now n (S n) ∙ out)) (λ g e. refl)) (w.any R a c f) }

  pub one_in : S n ≡ true → n < max_facts narrow → {missing' awake' : List ℕ} → Enters n asks missing awake missing' awake' → SetEntering P S asks missing₀ awake₀ (n + 1) missing' awake'
  one_in inside small {missing'} {awake'} enters = record { any = λ R a c f. same_sets (at_each (adjoin (below n S) n) first other) (next R a (w.any R a c f)) }
    where
      first : adjoin (below n S) n n ≡ below (n + 1) S n
      first = ap (λ (t : Bool). t || below n S n) (eqb-self n) ∙ sym (here_now n (S n) ∙ inside)

      other : (g : ℕ) → eqb g n ≡ false → adjoin (below n S) n g ≡ below n S g
      other g e = ap (λ (t : Bool). t || below n S g) e

      next : (R : Places) → Asked P R asks → Counted P R (below n S) missing × Flags (ripe P R (below n S)) awake → Counted P R (adjoin (below n S) n) missing' × Flags (ripe P R (adjoin (below n S) n)) awake'
      next R a t =
          let e = fact-entered b small enters a t.0 t.1 (here_not n (S n)) in
          (e.0, subst (λ (p : ℕ → Bool). Flags p awake') (fun_ext (roused-ripe P R (below n S) (adjoin (below n S) n) (adjoin-above (below n S) n))) e.1)

  -- All facts of the program are passed; no premise is another.
  pub all_in : n ≡ P.facts → (R : Places) → Asked P R asks → Counted P R nothing missing₀ → Flags (ripe P R nothing) awake₀ → Counted P R S missing × Flags (ripe P R S) awake
  all_in e R a c f = whole (w.any R a c f)
    where
      same : (g : ℕ) → g < P.facts → below n S g ≡ S g
      same g l = ap (λ (t : Bool). t && S g) (lt-ltb g n (omega arith))

      whole : Counted P R (below n S) missing × Flags (ripe P R (below n S)) awake → Counted P R S missing × Flags (ripe P R S) awake
      whole t = (
        record {
          places = t.0.places;
          counts = λ k h. t.0.counts k h ∙ how_many-ext (lacks P R (below n S) k) (lacks P R S k) (up_to P.facts) (λ g m. rw (same g (mem-up_to P.facts g m)) refl);
        },
        subst (λ (p : ℕ → Bool). Flags p awake) (fun_ext (λ k. ap (λ (u : Bool). R.taken k && u) (all-ext (below n S) S (premises_at P R k) (λ g m. same g (premises_below b R k g m))))) t.1,
      )
