-- The facts of a lane are marked, one by one.
use Prim.Native.Nat.{ℕ, ◌+◌, ◌≤◌, ◌<◌}
use mathlib.Core.Path.{◌≡◌, ap, ◌∙◌}
use mathlib.Core.List.{List}
use mathlib.Core.Logic.{⊎_elim}
use native.Mathlib.Omega.{arith}
use borrow.Author.Tests.{eqb-true, eqb-false}
use lib.Dec.{eqb}
use lib.ListN.{length, set, length-set}
use lib.Seq.{get_or-set_same, get_or-set_other}
use Rattle.theory.proofs.Bools.{either}
use Rattle.items.specs.Item.{narrow, max_facts, has}
use Rattle.lanes.specs.Lanes.{lane_in}

-- The first facts are marked where the lane has them.
pub record Marking (derived : List ℕ) (w t : ℕ) (found : List ℕ) (n : ℕ) : Type 0 where
  pub places : length found ≡ max_facts narrow
  pub marked : (f : ℕ) → f < n → has found f ≡ lane_in derived w t f

pub none_marked : (derived : List ℕ) (w t : ℕ) (found : List ℕ) → length found ≡ max_facts narrow → Marking derived w t found 0
none_marked derived w t found e = record { places = e; marked = λ f h. absurd (omega arith) }

module _ {derived : List ℕ} {w t : ℕ} {found : List ℕ} {n : ℕ} (m : Marking derived w t found n) where
  pub one_marked : n < max_facts narrow → (v : ℕ) → eqb v 1 ≡ lane_in derived w t n → {after : List ℕ} → after ≡ set found n v → Marking derived w t after (n + 1)
  unfolding has
  one_marked h v is e = rw e after-set
    where
      after-set : Marking derived w t (set found n v) (n + 1)
      after-set =
          record {
            places = length-set found n v ∙ m.places;
            marked = λ f l.
                ⊎_elim
                (λ q. let here : f ≡ n = eqb-true f n q in rw here (ap (λ (x : ℕ). eqb x 1) (get_or-set_same found n v 0 (omega (arith, m.places))) ∙ is))
                (λ q. let ne : f ≡ n → ⊥ = eqb-false f n q in ap (λ (x : ℕ). eqb x 1) (get_or-set_other found n f v 0 ne) ∙ m.marked f (omega arith))
                (either (eqb f n));
          }

  pub all-marked : max_facts narrow ≤ n → (f : ℕ) → f < max_facts narrow → has found f ≡ lane_in derived w t f
  all-marked h f l = m.marked f (omega arith)
