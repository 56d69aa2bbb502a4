-- Closing a component: the facts from one place of the stack up to another, one after the other.
use Prim.Native.Nat.{ℕ, ◌+◌, ◌<◌, ◌≤◌, max}
use mathlib.Core.Path.{◌≡◌, ap, ◌∙◌}
use mathlib.Core.Bool.{true, false}
use mathlib.Core.List.{List}
use mathlib.Core.Logic.{⊎_elim}
use native.Mathlib.Omega.{arith}
use borrow.Author.Tests.{eqb-true, eqb-false, ltb-true, ltb-false}
use lib.Dec.{eqb, ltb}
use lib.ListN.{length, get_or}
use Rattle.theory.specs.Places.{rank_in}
use Rattle.theory.proofs.Bools.{either}
use Rattle.components.specs.Open.{fact_at}

-- A rank is that of a fact of the component.
abbrev pub RankThere : List ℕ → List ℕ → ℕ → ℕ → ℕ → Type 0
RankThere stack ranks from to rank = (a : ℕ) × ((from ≤ a) × ((a < to) × (rank ≡ rank_in ranks (fact_at stack a))))

-- No fact of the component up to a place has a higher one.
abbrev pub NoneHigher : List ℕ → List ℕ → ℕ → ℕ → ℕ → Type 0
NoneHigher stack ranks from to rank = (a : ℕ) → from ≤ a → a < to → rank_in ranks (fact_at stack a) ≤ rank

-- A rank is the highest of those up to a place.
pub record HighestYet (stack ranks : List ℕ) (from to a high : ℕ) : Type 0 where
  pub reached : from ≤ a
  pub there : RankThere stack ranks from to high
  pub none_higher : NoneHigher stack ranks from a high

-- One place more: the highest rank now is the higher one of that of its fact and the one so far.
module _ {stack ranks : List ℕ} {from to a high : ℕ} (w : HighestYet stack ranks from to a high) (h : a < to) (fact : ℕ) (is : fact ≡ fact_at stack a) where
  still_none : (more : ℕ) → high ≤ more → rank_in ranks fact ≤ more → NoneHigher stack ranks from (a + 1) more
  still_none more up here b low l =
      ⊎_elim
      (λ e. let same : b ≡ a = eqb-true b a e in rw (same, ← is) here)
      (λ e. let other : b ≡ a → ⊥ = eqb-false b a e in omega (arith, w.none_higher b low (omega arith)))
      (either (eqb b a))

  pub one_more : (more : ℕ) → more ≡ max high (rank_in ranks fact) → HighestYet stack ranks from to (a + 1) more
  one_more more e = record { reached = omega (arith, w.reached); there = ⊎_elim higher not-higher (either (ltb high (rank_in ranks fact))); none_higher = still_none more (omega arith) (omega arith) }
    where
      higher : ltb high (rank_in ranks fact) ≡ true → RankThere stack ranks from to more
      higher t = let up : high < rank_in ranks fact = ltb-true _ _ t in (a, (w.reached, (h, (let own : more ≡ rank_in ranks fact = omega arith in own) ∙ ap (rank_in ranks) is)))

      not-higher : ltb high (rank_in ranks fact) ≡ false → RankThere stack ranks from to more
      not-higher t = let low : rank_in ranks fact ≤ high = ltb-false _ _ t in (w.there.0, (w.there.1.0, (w.there.1.1.0, omega (arith, w.there.1.1.1))))

-- The facts from one place up to another have a value in a row, and no other fact's has changed.
pub record Written (stack : List ℕ) (from a value : ℕ) (row row' : List ℕ) : Type 0 where
  pub places : length row' ≡ length row
  pub writes : (b : ℕ) → from ≤ b → b < a → get_or row' (fact_at stack b) 0 ≡ value
  pub keeps : (f : ℕ) → ((b : ℕ) → from ≤ b → b < a → fact_at stack b ≡ f → ⊥) → get_or row' f 0 ≡ get_or row f 0
