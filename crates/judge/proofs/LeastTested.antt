-- With the facts held out that are not in a set, what is derived is the least set of its reduct.
use Prim.Native.Nat.{ℕ, ◌≤◌, ◌<◌}
use mathlib.Core.Path.{◌≡◌, refl, ap, ap₂, ◌∙◌}
use mathlib.Core.Bool.{Bool, true, false, not, ◌&&◌, ◌||◌, beq}
use mathlib.Core.List.{List, []}
use native.Mathlib.Omega.{arith}
use lib.ListN.{replicate}
use Rattle.theory.specs.Rule.{all, keep, up_to, Program, Mask, FactSet, count}
use Rattle.theory.specs.Conditions.{Bounded}
use Rattle.theory.specs.Check.{least_of, is_stable}
use Rattle.theory.proofs.Bools.{or-none}
use Rattle.theory.proofs.Lists.{all-ext, mem-keep, mem-up_to, up_to-mem}
use Rattle.theory.proofs.Stable.{constraint_below, least_of-agrees, least_of-mask}
use Rattle.items.specs.Item.{narrow, max_facts, has}
use Rattle.marking.proofs.MarksPainted.{unmarked}
use Rattle.index.specs.Literal.{outside, literals}
use Rattle.index.specs.Cells.{on_in}
use Rattle.propagation.specs.State.{not_held_out, Settled, HeldToo}
use Rattle.propagation.proofs.Least.{settled_least}

module _ (P : Program) (b : Bounded P) (few : P.facts ≤ max_facts narrow) (R set first marks missing : List ℕ) (s : Settled P (on_in R) marks missing) (none : HeldToo (replicate literals 0) [] first) (held : HeldToo first (keep (λ k. not (has set k)) (up_to P.facts)) marks) where
  none_out : (k : ℕ) → has first (outside k) ≡ false
  none_out k = none k ∙ or-none (has (replicate literals 0) (outside k)) ∙ ap (λ (p : ℕ → Bool). p (outside k)) (unmarked literals)

  held_out : (k : ℕ) → k < P.facts → not_held_out (has marks) k ≡ has set k
  held_out k h =
      ap not
      (held k
      ∙ ap₂ (λ (x y : Bool). x || y) (none_out k) (mem-keep (λ f. not (has set f)) (up_to P.facts) k ∙ ap (λ (x : Bool). x && not (has set k)) (up_to-mem P.facts k h)))
      ∙ twice (has set k)
    where
      twice : (x : Bool) → not (not x) ≡ x
      twice true = refl
      twice false = refl

  module _ (on : Mask) (same : (i : ℕ) → i < count P → on_in R i ≡ on i) where
    least_there : (f : ℕ) → f < P.facts → has marks f ≡ least_of P on (has set) f
    least_there f h =
        settled_least P (on_in R) marks missing s f (omega arith)
        ∙ ap (λ (S : FactSet). S f) (least_of-agrees P (on_in R) (not_held_out (has marks)) (has set) (λ k c. held_out k (constraint_below P (on_in R) b k c)) ∙ least_of-mask P (on_in R) on same (has set))

    pub tested : (n : ℕ) → n ≡ P.facts → all (λ f. beq (has marks f) (has set f)) (up_to n) ≡ is_stable P on (has set)
    unfolding is_stable
    tested n e =
        ap (λ (m : ℕ). all (λ f. beq (has marks f) (has set f)) (up_to m)) e
        ∙ all-ext _ _ (up_to P.facts) (λ f m. ap (λ (x : Bool). beq x (has set f)) (least_there f (mem-up_to P.facts f m)))
