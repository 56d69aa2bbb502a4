-- Bytes written for each number that has a mark, in one pass over the marks.
use Prim.Native.Nat.{ℕ, ◌+◌, ◌-◌, ◌≤◌, ◌<◌}
use native.Mathlib.Omega.{arith}
use mathlib.Core.Path.{◌≡◌, ap, ◌∙◌}
use mathlib.Core.List.{List, ◌∷◌, ◌++◌}
use borrow.Author.Tests.{eq-eqb, ne_eqb}
use lib.ListN.{get_or}
use lib.Dec.{eqb}
use Rattle.theory.specs.Rule.{keep, range}
use Rattle.theory.proofs.Lists.{range_all, range_cons, range-end}
use Rattle.questions.specs.Questions.{each}
use Rattle.theory.specs.Places.{places_marked}
use Rattle.questions.specs.Put.{Fits, Put}
use Rattle.questions.proofs.BytesPut.{Putting, begun, ended, nothing_put, next_fits, one_put}

-- what g gives of the numbers from i on that have the mark m
abbrev to_come : (ℕ → List ℕ) → ℕ → List ℕ → ℕ → ℕ → List ℕ
to_come g m marks n i = each g (keep (λ j. eqb (get_or marks j 0) m) (range i (n - i)))

-- The numbers below i are passed.
pub record Passing (g : ℕ → List ℕ) (m : ℕ) (marks : List ℕ) (n from : ℕ) (before : List ℕ) (at : ℕ) (now : List ℕ) (i : ℕ) : Type 0 where
  pub inside : i ≤ n
  pub putting : Putting (each g (places_marked m marks n)) from before (to_come g m marks n i) at now

pub none_passed : (g : ℕ → List ℕ) (m : ℕ) (marks : List ℕ) (n from : ℕ) (before : List ℕ) → Fits (each g (places_marked m marks n)) from before → Passing g m marks n from before from before 0
unfolding places_marked
none_passed g m marks n from before h =
    record {
      inside = omega arith;
      putting = nothing_put (begun _ _ _ h) (to_come g m marks n 0) (ap (λ (r : List ℕ). each g (keep (λ j. eqb (get_or marks j 0) m) r)) (range_all n));
    }

module _ {g : ℕ → List ℕ} {m : ℕ} {marks : List ℕ} {n from : ℕ} {before : List ℕ} {at : ℕ} {now : List ℕ} {i : ℕ} (w : Passing g m marks n from before at now i) where
  pub all-passed : n ≤ i → Put (each g (places_marked m marks n)) from before at now
  all-passed h = ended w.putting (ap (λ (r : List ℕ). each g (keep (λ j. eqb (get_or marks j 0) m) r)) (range-end n i h))

  module _ (h : i < n) where
    here : to_come g m marks n i ≡ each g (keep (λ j. eqb (get_or marks j 0) m) (i ∷ range (i + 1) (n - (i + 1))))
    here = ap (λ (r : List ℕ). each g (keep (λ j. eqb (get_or marks j 0) m) r)) (range_cons n i h)

    module _ (e : get_or marks i 0 ≡ m) where
      split : to_come g m marks n i ≡ g i ++ to_come g m marks n (i + 1)
      split = here ∙ rw (eq-eqb _ m e)

      pub mark_fits : Fits (g i) at now
      mark_fits = next_fits w.putting (g i) (to_come g m marks n (i + 1)) split

      pub mark_put : (next : ℕ) (after : List ℕ) → Put (g i) at now next after → Passing g m marks n from before next after (i + 1)
      mark_put next after p =
          record { inside = omega arith; putting = one_put w.putting (g i) (to_come g m marks n (i + 1)) split next after p }

    pub mark_passed : (get_or marks i 0 ≡ m → ⊥) → Passing g m marks n from before at now (i + 1)
    mark_passed o =
        let same : to_come g m marks n i ≡ to_come g m marks n (i + 1) = here ∙ rw (ne_eqb _ m o) in
        record { inside = omega arith; putting = nothing_put w.putting (to_come g m marks n (i + 1)) same }
