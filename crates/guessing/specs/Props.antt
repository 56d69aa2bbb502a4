-- Internal: facts of which there is one proof at most, as those beside values are.
use Rattle.std.specs.Prelude.{ℕ, false, List, [], ◌∷◌}
use Rattle.std.specs.Coded.{×_prop, Unit-prop}
use Rattle.std.proofs.Math.Bool.{Bool-set}
use Rattle.theory.specs.Rule.{mem, NoRepeat}

pub NoRepeat-prop : (ks : List ℕ) → IsProp (NoRepeat ks)
NoRepeat-prop [] = Unit-prop
NoRepeat-prop (k ∷ ks) = ×_prop (Bool-set (mem k ks) false) (NoRepeat-prop ks)
