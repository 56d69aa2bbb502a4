-- The starred examples of document 01, as programs.
use Rattle.std.specs.Prelude.{ℕ, List, [], ◌∷◌}
use Rattle.theory.specs.Rule.{Rule, Program, nothing}

-- c < p, !k
abbrev pub clause : ℕ → List ℕ → List ℕ → Rule
clause c p k = record { conclusion = c; premises = p; constraints = k }

abbrev pub program : ℕ → List Rule → Program
program n rs = record { facts = n; rules = rs; unread = nothing }

abbrev pub example_a : Program
example_a = program 4 (clause 0 [] [] ∷ clause 1 (0 ∷ []) (2 ∷ []) ∷ clause 2 (0 ∷ []) (1 ∷ []) ∷ clause 3 (2 ∷ []) [] ∷ [])

abbrev pub example_b : Program
example_b = program 1 (clause 0 [] (0 ∷ []) ∷ [])

abbrev pub example_c : Program
example_c = program 3 (clause 0 [] (1 ∷ []) ∷ clause 1 [] (2 ∷ []) ∷ [])

abbrev pub example_d : Program
example_d = program 2 (clause 1 (0 ∷ []) [] ∷ clause 0 [] (1 ∷ []) ∷ [])

abbrev pub example_e : Program
example_e = program 0 []

abbrev pub example_f : Program
example_f = program 1 (clause 0 (0 ∷ []) [] ∷ [])
