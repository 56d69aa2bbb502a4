-- A walk: as long as something is picked at the present state, act on it. Both the closure and the run are walks.
use Rattle.std.specs.Prelude.{ℕ, zero, suc, List, [], ◌∷◌}
use Rattle.std.proofs.Math.Option.{Option, none, some}

module _ {State : Type 0} where
  -- the rules picked on the way, in their order, at most as many as the first number allows
  abbrev pub picks : (State → Option ℕ) → (State → ℕ → State) → ℕ → State → List ℕ
  picks pick act zero s = []
  picks pick act (suc n) s = elim (pick s) [ none ↦ [] | some i ↦ i ∷ picks pick act n (act s i) ]

  -- the state after acting on each
  abbrev pub after : (State → ℕ → State) → State → List ℕ → State
  after act s [] = s
  after act s (i ∷ is) = after act (act s i) is
