-- Which places wake as a set grows.
use Prim.Native.Nat.{ℕ}
use mathlib.Core.Path.{◌≡◌, refl, sym}
use mathlib.Core.Bool.{Bool, true, false, not, ◌&&◌, ◌||◌}
use Rattle.theory.specs.Rule.{all, Program, FactSet, Sub}
use Rattle.theory.proofs.Bools.{or-none}
use Rattle.theory.proofs.Lists.{all-mono}
use Rattle.premises.specs.Premises.{Places, premises_at, ripe, roused}

module _ (P : Program) (R : Places) (S : FactSet) where
  -- A set that does not grow rouses none.
  pub roused-none : (p : ℕ → Bool) (k : ℕ) → roused P R S S p k ≡ p k
  roused-none p k = tests (p k) (R.taken k) (all S (premises_at P R k))
    where
      tests : (a n s : Bool) → a || n && (not s && s) ≡ a
      tests a true true = or-none a
      tests a true false = or-none a
      tests a false s = or-none a

-- Of the places whose premises are all in a set, a larger one rouses those whose premises are all in it.
pub roused-ripe : (P : Program) (R : Places) (S T : FactSet) → Sub S T → (k : ℕ) → roused P R S T (ripe P R S) k ≡ ripe P R T k
roused-ripe P R S T grows k = tests (R.taken k) (all S (premises_at P R k)) (all T (premises_at P R k)) (all-mono S T (premises_at P R k) grows)
  where
    tests : (n s t : Bool) → (s ≡ true → t ≡ true) → n && s || n && (not s && t) ≡ n && t
    tests true true t h = sym (h refl)
    tests true false t h = refl
    tests false s t h = refl
