-- A rank in the row is raised.
use Prim.Native.Nat.{ℕ, ◌<◌, ◌≤◌}
use native.Mathlib.Omega.{arith}
use mathlib.Core.Path.{◌∙◌, ◌≡◌}
use mathlib.Core.List.{List}
use mathlib.Core.Logic.{⊎_elim}
use borrow.Author.Tests.{eqb-true, eqb-false}
use lib.ListN.{length, set, length-set}
use lib.Seq.{get_or-set_same, get_or-set_other}
use lib.Dec.{eqb}
use Rattle.theory.specs.Rule.{Program, in_force}
use Rattle.theory.specs.Layers.{Ranks}
use Rattle.theory.specs.Places.{rank_in}
use Rattle.theory.proofs.Bools.{either}
use Rattle.items.specs.Item.{narrow, max_facts}
use Rattle.tables.specs.Ranking.{RanksSoFar}

-- The fact has its new rank, ..
pub fact-raised : (ranks : List ℕ) (f high : ℕ) → f < length ranks → rank_in (set ranks f high) f ≡ high
fact-raised ranks f high inside = get_or-set_same ranks f high 0 inside

-- .. and what holds of the new rank there, and held of the ranks before, holds of the ranks now.
pub of_raised : (ranks : List ℕ) (f high : ℕ) → f < length ranks → (Q : ℕ → ℕ → Type 0) → Q f high → ((g : ℕ) → Q g (rank_in ranks g)) → (g : ℕ) → Q g (rank_in (set ranks f high) g)
of_raised ranks f high inside Q now before g =
    ⊎_elim
    (λ e. let same : g ≡ f = eqb-true _ _ e in rw (same, fact-raised ranks f high inside) now)
    (λ e. rw (get_or-set_other ranks f g high 0 (eqb-false _ _ e)) (before g))
    (either (eqb g f))

-- A rank may be raised to what it must be at least.
pub raised : (P : Program) (ranks : List ℕ) (f high : ℕ) → f < max_facts narrow → high < max_facts narrow → ((rank : ℕ → ℕ) → Ranks P (in_force P) rank → high ≤ rank f) → RanksSoFar P ranks → RanksSoFar P (set ranks f high)
raised P ranks f high inside low asked so_far =
    record {
      places = length-set ranks f high ∙ so_far.places;
      low = of_raised ranks f high there (λ g n. n < max_facts narrow) low so_far.low;
      under = λ rank r. of_raised ranks f high there (λ g n. n ≤ rank g) (asked rank r) (so_far.under rank r);
    }
  where
    there : f < length ranks
    there = omega (arith, so_far.places)
