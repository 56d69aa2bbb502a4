-- A fact that no rule in force concludes counts as absent: it is in no run. (`stable_absent`: it is in no stable set.)
use Prim.Native.Nat.{ℕ, ◌<◌}
use mathlib.Core.Path.{◌≡◌}
use mathlib.Core.Bool.{true, false}
use mathlib.Core.List.{List}
use Rattle.theory.specs.Rule.{Program, Mask, count, rule}
use Rattle.theory.specs.Run.{run}
use Rattle.theory.proofs.Bools.{and_left}
use Rattle.theory.proofs.RunStable.{run-stable}
use Rattle.theory.proofs.Stable.{stable_absent}

pub run-absent : (P : Program) (on : Mask) (order : List ℕ) (f : ℕ) → ((i : ℕ) → i < count P → on i ≡ true → (rule P i).conclusion ≡ f → ⊥) → (run P on order).derived f ≡ false
run-absent P on order f h =
    stable_absent P _ (run P on order).derived f (λ i l o e. h i l (and_left (on i) _ o) e) (run-stable P on order)
