-- The better of two orders (document 02, wish 7).
use Rattle.std.specs.Prelude.{ℕ, ◌≤◌, ◌≡◌, Bool, cond, List, ◌⊎◌, ltb}
use Rattle.theory.specs.Rule.{up_to, how_many, Program, Mask, count}
use Rattle.theory.specs.Run.{run, set_aside}

-- How many rules an order sets aside: those that are set aside at the end of the run under it.
unfoldable pub aside_count : Program → Mask → List ℕ → ℕ
aside_count P on order = how_many (set_aside P on (run P on order).derived) (up_to (count P))

-- Is the second of two preferred, by what each of them costs? Only where it costs less: where they are equal the first is.
unfoldable pub second_preferred : ℕ → ℕ → Bool
second_preferred first second = ltb second first

-- The better of two by their costs.
abbrev pub better : {A : Type 0} → (A → ℕ) → A → A → A
better cost first second = cond (second_preferred (cost first) (cost second)) second first

-- One of three, and none of the three costs less.
pub record FewestOfThree {A : Type 0} (cost : A → ℕ) (x y z chosen : A) : Type 0 where
  pub one_of : (chosen ≡ x) ⊎ ((chosen ≡ y) ⊎ (chosen ≡ z))
  pub below_first : cost chosen ≤ cost x
  pub below_second : cost chosen ≤ cost y
  pub below_third : cost chosen ≤ cost z
