-- The starred examples of document 01, shown from the definitions.
use Prim.Native.Nat.{ℕ, zero, suc}
use native.Mathlib.Omega.{arith}
use mathlib.Core.Path.{◌≡◌, refl}
use mathlib.Core.Bool.{Bool, true, false, false≢true}
use mathlib.Core.List.{List, [], ◌∷◌, map}
use mathlib.Core.Option
use mathlib.Core.Option.{Option, none, some}
use Rattle.theory.specs.Rule.{up_to, Program, nothing, adjoin, withheld, in_force, plain, exception, constraint_fact, Step, Closed, plain_rules}
use Rattle.theory.specs.Derive.{fired, derive, steps}
use Rattle.theory.specs.Run.{rejected, spares, eligible, run, set_aside, fact_mark, rule_mark, marks_of_facts, marks_of_rules, stage_count}
use Rattle.theory.specs.Check.{least_of}
use Rattle.theory.specs.Stable.{reduct, Stable, order_for}
use Rattle.theory.specs.Search.{guessed, fits, search}
use Rattle.theory.specs.Examples.{example_a, example_b, example_c, example_d, example_e, example_f}

-- the marks of the facts and of the rules, and the count of stages
abbrev pub Marks : Program → List ℕ → List ℕ → List ℕ → ℕ → Type 0
Marks P order facts rules stages =
    (marks_of_facts P (run P (in_force P) order) ≡ facts)
    × (marks_of_rules P (in_force P) (run P (in_force P) order) ≡ rules)
    × (stage_count (run P (in_force P) order) ≡ stages)

abbrev pub step : ℕ → ℕ → Step
step f r = record { fact = f; by = r }

-- the set that the search takes, a value for each fact
abbrev pub taken : Program → Option (List Bool)
taken P = Option.map (λ M. map M (up_to P.facts)) (search P (in_force P))

-- the order for it
abbrev pub order_taken : Program → Option (List ℕ)
order_taken P = Option.map (order_for P (in_force P)) (search P (in_force P))

pub runs-of-a :
    Marks example_a (1 ∷ 2 ∷ []) (1 ∷ 1 ∷ 2 ∷ 0 ∷ []) (0 ∷ 1 ∷ 3 ∷ 0 ∷ []) 1
    × Marks example_a (2 ∷ 1 ∷ []) (1 ∷ 2 ∷ 1 ∷ 1 ∷ []) (0 ∷ 3 ∷ 1 ∷ 0 ∷ []) 1
    × ((run example_a (in_force example_a) (2 ∷ 1 ∷ [])).trace ≡ step 0 0 ∷ step 2 2 ∷ step 3 3 ∷ [])
unfolding run eligible rejected spares set_aside fact_mark rule_mark fired derive steps plain_rules plain exception in_force withheld
runs-of-a = ((refl, refl, refl), (refl, refl, refl), refl)

pub runs-of-others :
    Marks example_b (0 ∷ []) (0 ∷ []) (2 ∷ []) 0
    × Marks example_c (0 ∷ 1 ∷ []) (1 ∷ 2 ∷ 0 ∷ []) (1 ∷ 2 ∷ []) 1
    × Marks example_c (1 ∷ 0 ∷ []) (0 ∷ 1 ∷ 2 ∷ []) (3 ∷ 1 ∷ []) 1
    × Marks example_d (1 ∷ []) (0 ∷ 0 ∷ []) (0 ∷ 2 ∷ []) 0
    × Marks example_e [] [] [] 0
unfolding run eligible rejected spares set_aside fact_mark rule_mark fired derive steps plain_rules plain exception in_force withheld
runs-of-others = ((refl, refl, refl), (refl, refl, refl), (refl, refl, refl), (refl, refl, refl), (refl, refl, refl))

pub searches :
    (taken example_a ≡ some (true ∷ true ∷ false ∷ false ∷ []))
    × (taken example_b ≡ none)
    × (order_taken example_c ≡ some (1 ∷ 0 ∷ []))
    × (taken example_d ≡ none)
    × (taken example_e ≡ some [])
    × (order_taken example_e ≡ some [])
unfolding search guessed fits least_of reduct fired derive exception constraint_fact order_for in_force withheld
searches = (refl, refl, refl, refl, refl, refl)

-- F: closed is not stable
pub f_all_not_stable : Stable example_f (in_force example_f) (adjoin nothing 0) → ⊥
f_all_not_stable s = false≢true (s.below nothing (λ f t. t) closed 0 refl)
  where
    closed : Closed example_f (reduct example_f (in_force example_f) (adjoin nothing 0)) nothing
    closed zero l o p = p
    closed (suc i) l o p = absurd (omega arith)
