-- Internal: marks that are set by a test, and the marks of facts.
use Rattle.std.specs.Prelude.{ℕ, suc, Bool, cond, List, [], ◌∷◌, get_or, eqb}

-- The mark of a fact that is not to be derived (document 01: 2, in R). A fact in D has the mark of `has`, 1.
abbrev pub barred : ℕ
barred = 2

-- the facts with that mark
unfoldable pub barred_in : List ℕ → ℕ → Bool
barred_in marks f = eqb (get_or marks f 0) barred

-- marks with the mark v at each place that passes the test; i is the number of the first place
abbrev pub paint_from : ℕ → ℕ → (ℕ → Bool) → List ℕ → List ℕ
paint_from v i p [] = []
paint_from v i p (x ∷ xs) = cond (p i) v x ∷ paint_from v (suc i) p xs

abbrev pub paint_as : ℕ → (ℕ → Bool) → List ℕ → List ℕ
paint_as v p marks = paint_from v 0 p marks

abbrev pub paint : (ℕ → Bool) → List ℕ → List ℕ
paint p marks = paint_as 1 p marks
