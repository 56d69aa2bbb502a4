-- What a cell of the stack tells: the fact that stands there, and the place of the fact that opened it.
use Prim.Native.Nat.{ℕ, ◌+◌, ◌*◌, ◌/◌, ◌%◌, ◌<◌}
use native.Mathlib.Omega.{arith}
use mathlib.Core.Path.{◌≡◌, refl, ap}
use mathlib.Core.List.{List}
use lib.ListN.{get_or}
use Rattle.items.specs.Item.{narrow, max_facts}
use Rattle.components.specs.Open.{fact_at, opener_at}

abbrev pub stack_cell : ℕ → ℕ → ℕ
stack_cell f opener = f + max_facts narrow * opener

module _ (stack : List ℕ) (a : ℕ) where
  pub fact-told : get_or stack a 0 % max_facts narrow ≡ fact_at stack a
  unfolding fact_at
  fact-told = refl

  pub opener_told : get_or stack a 0 / max_facts narrow ≡ opener_at stack a
  unfolding opener_at
  opener_told = refl

  pub cell_fact : (f opener : ℕ) → f < max_facts narrow → get_or stack a 0 ≡ stack_cell f opener → fact_at stack a ≡ f
  cell_fact f opener h e = omega (arith, fact-told)

  pub cell_opener : (f opener : ℕ) → f < max_facts narrow → get_or stack a 0 ≡ stack_cell f opener → opener_at stack a ≡ opener
  cell_opener f opener h e = omega (arith, opener_told)

  -- a cell that stays as it is tells the same
  pub same_fact : (stack' : List ℕ) → get_or stack' a 0 ≡ get_or stack a 0 → fact_at stack' a ≡ fact_at stack a
  unfolding fact_at
  same_fact stack' e = ap (λ (c : ℕ). c % max_facts narrow) e

  pub same_opener : (stack' : List ℕ) → get_or stack' a 0 ≡ get_or stack a 0 → opener_at stack' a ≡ opener_at stack a
  unfolding opener_at
  same_opener stack' e = ap (λ (c : ℕ). c / max_facts narrow) e
