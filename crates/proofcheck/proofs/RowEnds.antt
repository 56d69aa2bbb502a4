-- Where a row ends, told step by step.
use Prim.Native.Nat.{ℕ}
use mathlib.Core.Path.{◌≡◌, refl, sym, ap, ◌∙◌}
use mathlib.Core.Bool.{Bool, false}
use mathlib.Core.List.{List, [], ◌∷◌}
use lib.Dec.{eqb}
use Rattle.theory.specs.Rule.{Step}
use Rattle.theory.specs.Check.{ends_with}

-- the last step concludes f, where `ends` tells it of the step before this row
abbrev ends_after : ℕ → Bool → List Step → Bool
ends_after f ends [] = ends
ends_after f ends (s ∷ row) = ends_with f (s ∷ row)

one_step : (f : ℕ) (s : Step) (row : List Step) → ends_with f (s ∷ row) ≡ ends_after f (eqb s.fact f) row
one_step f s [] = refl
one_step f s (t ∷ row) = refl

-- What is to come, with what the last step told, decides as the whole does.
pub record Ending (f : ℕ) (ends : Bool) (row rest : List Step) : Type 0 where
  pub same : ends_with f row ≡ ends_after f ends rest

pub none_passed : (f : ℕ) (row : List Step) → Ending f false row row
none_passed f [] = record { same = refl }
none_passed f (s ∷ row) = record { same = refl }

module _ {f : ℕ} {ends : Bool} {row rest : List Step} (w : Ending f ends row rest) where
  pub all-passed : rest ≡ [] → ends ≡ ends_with f row
  all-passed e = sym (w.same ∙ ap (ends_after f ends) e)

  pub ending_along : (more : List Step) → rest ≡ more → Ending f ends row more
  ending_along more e = record { same = w.same ∙ ap (ends_after f ends) e }

  pub one_passed : (s : Step) (more : List Step) → rest ≡ s ∷ more → Ending f (eqb s.fact f) row more
  one_passed s more e = record { same = w.same ∙ ap (ends_after f ends) e ∙ one_step f s more }
