-- Internal: the tests that the judge and the proof check run; proofs/Stable and proofs/Check join them to what they mean.
use Rattle.std.specs.Prelude.{ℕ, Bool, true, false, ◌&&◌, List, [], ◌∷◌, eqb, ltb}
use Rattle.std.specs.Bool.{beq}
use Rattle.theory.specs.Rule.{all, clear, Program, Mask, FactSet, nothing, adjoin, count, rule, Step, up_to}
use Rattle.theory.specs.Stable.{facts_of, reduct}
use Rattle.theory.specs.Derive.{derive}

-- the least set closed under the reduct by G
unfoldable pub least_of : Program → Mask → FactSet → FactSet
least_of P on G = derive P (reduct P on G) nothing

-- The test of stability: the least set closed under the reduct by M has the facts of M.
unfoldable pub is_stable : Program → Mask → FactSet → Bool
is_stable P on M = all (λ f. beq (least_of P on M f) (M f)) (up_to P.facts)

-- A step after the facts S: its rule is one of the program, in force, and concludes its fact from premises in S.
unfoldable pub step_holds : Program → Mask → FactSet → Step → Bool
step_holds P on S s =
    ltb s.by (count P) && on s.by
    && eqb (rule P s.by).conclusion s.fact
    && all S (rule P s.by).premises

-- each step after S and the facts of the steps before it
abbrev pub steps_hold : Program → Mask → FactSet → List Step → Bool
steps_hold P on S [] = true
steps_hold P on S (s ∷ row) = step_holds P on S s && steps_hold P on (adjoin S s.fact) row

-- T meets no constraint of a used rule
abbrev pub row_clear : Program → FactSet → List Step → Bool
row_clear P T [] = true
row_clear P T (s ∷ row) = clear T (rule P s.by).constraints && row_clear P T row

-- the last of the steps concludes f
abbrev pub ends_with : ℕ → List Step → Bool
ends_with f [] = false
ends_with f (s ∷ []) = eqb s.fact f
ends_with f (s ∷ t ∷ row) = ends_with f (t ∷ row)

-- The row is a proof of f that M admits, by test.
unfoldable pub is_proof : Program → Mask → FactSet → List Step → ℕ → Bool
is_proof P on M row f =
    ends_with f row && steps_hold P on nothing row
    && row_clear P (facts_of row) row
    && row_clear P M row
