-- The one operator (document 01, "The least set and its steps", for any choice of rules): from S, while some rule that is on has its premises
-- in the set and its conclusion not, the lowest-numbered such rule adds its conclusion, one step. Constraints are not looked at.
use Rattle.std.specs.Prelude.{ℕ, ◌<◌, ◌≡◌, Bool, false, not, ◌&&◌, List, [], ◌∷◌, map}
use Rattle.std.proofs.Math.Option.{Option}
use Rattle.theory.specs.Rule.{Step, plain_rules, all, any, up_to, Program, Mask, FactSet, adjoin, count, rule}
use Rattle.theory.specs.Lists.{seek}
use Rattle.theory.specs.Walk.{picks, after}

-- rule i's premises are in S and its conclusion is not
abbrev pub ready : Program → Mask → FactSet → ℕ → Bool
ready P on S i = on i && (all S (rule P i).premises && not (S (rule P i).conclusion))

abbrev pub lowest : Program → Mask → FactSet → Option ℕ
lowest P on S = seek (ready P on S) (up_to (count P))

-- S with the conclusion of rule i, and with the conclusions of several rules
abbrev pub conclude : Program → FactSet → ℕ → FactSet
conclude P S i = adjoin S (rule P i).conclusion

-- Each rule in turn is a rule of the program and adds a fact that is not yet in the set.
abbrev pub Fresh : Program → FactSet → List ℕ → Type 0
Fresh P S [] = Unit {0}
Fresh P S (i ∷ is) = (i < count P) × (S (rule P i).conclusion ≡ false) × Fresh P (conclude P S i) is

-- The rules that add a conclusion, in the order in which they do. A rule whose conclusion is in the set adds nothing more, so there are at
-- most as many as rules.
unfoldable pub fired : Program → Mask → FactSet → List ℕ
fired P on S = picks (lowest P on) (conclude P) (count P) S

unfoldable pub derive : Program → Mask → FactSet → FactSet
derive P on S = after (conclude P) S (fired P on S)

-- Some fact that is added to S is in B.
abbrev pub meets : Program → Mask → FactSet → FactSet → Bool
meets P on B S = any (λ i. B (rule P i).conclusion) (fired P on S)

abbrev pub step_by : Program → ℕ → Step
step_by P i = record { fact = (rule P i).conclusion; by = i }

unfoldable pub steps : Program → Mask → FactSet → List Step
steps P on S = map (step_by P) (fired P on S)

-- The closure of S (document 01).
abbrev pub closure : Program → Mask → FactSet → FactSet
closure P on S = derive P (plain_rules P on) S
