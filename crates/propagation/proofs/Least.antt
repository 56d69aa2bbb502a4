-- What is settled is the least set of the reduct by the facts that are not held out.
use Prim.Native.Nat.{ℕ, ◌<◌}
use mathlib.Core.Path.{◌≡◌, refl, ◌∙◌}
use mathlib.Core.List.{List}
use Rattle.theory.specs.Rule.{Program, Mask, Closed}
use Rattle.theory.specs.Check.{least_of}
use Rattle.theory.specs.Stable.{reduct}
use Rattle.theory.proofs.Bools.{never, both_ways}
use Rattle.theory.proofs.Stable.{least_of-least, reduct-on, reduct-clear}
use Rattle.items.specs.Item.{narrow, max_facts, has}
use Rattle.propagation.specs.State.{not_held_out, Settled}
use Rattle.propagation.proofs.Grounds.{none_missing}

pub settled_closed : (P : Program) (on : Mask) (marks missing : List ℕ) → Settled P on marks missing → Closed P (reduct P on (not_held_out (has marks))) (has marks)
settled_closed P on marks missing w i l r p =
    w.fires i l (w.missed i l (reduct-on P on (not_held_out (has marks)) i r) ∙ none_missing P on (has marks) i p (reduct-clear P on (not_held_out (has marks)) i r))

pub settled_least : (P : Program) (on : Mask) (marks missing : List ℕ) → Settled P on marks missing → (f : ℕ) → f < max_facts narrow → has marks f ≡ least_of P on (not_held_out (has marks)) f
settled_least P on marks missing w f h =
    both_ways _ _
    (w.sound (least_of P on (not_held_out (has marks))) (least_of-least P on (not_held_out (has marks))).closed f h)
    ((least_of-least P on (not_held_out (has marks))).below (has marks) (λ g t. never t refl) (settled_closed P on marks missing w) f)
