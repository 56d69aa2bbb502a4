-- Internal: a derivation on its way. The rules that may fire wait in a row of bits, and each plain rule has the count of premises that it lacks.
use Rattle.std.specs.Prelude.{ℕ, ◌+◌, ◌<◌, ◌≤◌, ◌≡◌, Bool, true, false, not, List, length, take, Option, Some, None}
use Rattle.theory.specs.Rule.{all, how_many, up_to, Program, Mask, FactSet, rule, plain, Closed as ClosedUnder}
use Rattle.theory.specs.Derive.{conclude, fired, meets, derive}
use Rattle.items.specs.declared.item.RuleId.{RuleId}
use Rattle.items.specs.Item.{narrow, max_facts, has}
use Rattle.items.specs.Write.{placed}
use Rattle.bits.specs.Flags.{Flags}
use Rattle.marking.specs.Marks.{barred_in, paint}
use Rattle.premises.specs.Premises.{plain_ones, Counted}
use Rattle.closure.specs.declared.turn.Turn.{Turn}
use Rattle.closure.specs.declared.turn.Turn.TheVariants.{Fired, Done, Stopped}
use Rattle.closure.specs.Steps.{derivation_of}

-- The row has plain rules with their premises in S, and all that are on, have their premises in S and their conclusion not in T. S is the set that
-- the counts are of; T is S, or has the conclusion of a rule taken too.
pub record Waits (P : Program) (on : Mask) (S T : FactSet) (ready : List ℕ) : Type 0 where
  pub p : ℕ → Bool
  pub flags : Flags p ready
  pub sound : (i : ℕ) → p i ≡ true → (plain P i ≡ true) × (all S (rule P i).premises ≡ true)
  pub waits : (i : ℕ) → on i ≡ true → all S (rule P i).premises ≡ true → T (rule P i).conclusion ≡ false → p i ≡ true

-- What is left where a rule was taken: those wait still whose conclusion is not that of the rule.
abbrev pub Left : Program → Mask → FactSet → Option RuleId → List ℕ → Type 0
Left P on S None ready = Unit {0}
Left P on S (Some r) ready = Waits P on S (conclude P S r.0) ready

-- Before the next rule is chosen: the count of each plain rule is the number of its distinct premises that are not in the set, and those that may fire
-- wait.
pub record Poised (P : Program) (on : Mask) (S : FactSet) (missing ready : List ℕ) : Type 0 where
  pub counted : Counted P (plain_ones P) S missing
  pub waiting : Waits P on S S ready

-- Between two derivations: the counts are those of the set, and no rule that is on may fire.
pub record AtRest (P : Program) (on : Mask) (S : FactSet) (missing : List ℕ) : Type 0 where
  pub counted : Counted P (plain_ones P) S missing
  pub closed : ClosedUnder P on S

-- The marks and the rules fired now, and the place of the next, beside those at entry: what is still to come gives what the whole gives.
pub record Deriving (P : Program) (on : Mask) (marks₀ fired₀ : List ℕ) (at : ℕ) (marks fired-now : List ℕ) (to : ℕ) : Type 0 where
  pub number : at + length (fired P on (has marks₀)) ≡ to + length (fired P on (has marks))
  pub facts : paint (derive P on (has marks₀)) marks₀ ≡ paint (derive P on (has marks)) marks
  pub set : derive P on (has marks₀) ≡ derive P on (has marks)
  pub row : placed (fired P on (has marks₀)) at fired₀ ≡ placed (fired P on (has marks)) to fired-now
  pub bars : barred_in marks ≡ barred_in marks₀
  pub met : meets P on (barred_in marks₀) (has marks₀) ≡ meets P on (barred_in marks₀) (has marks)
  pub kept : take at fired-now ≡ take at fired₀
  pub reached : at ≤ to
  pub places : length marks ≡ max_facts narrow
  pub cells : length fired-now ≡ max_facts narrow
  pub room : to + how_many (λ f. not (has marks f)) (up_to P.facts) ≤ max_facts narrow

-- What a derivation promises: it meets a barred fact, or not, as `derive` does; where it does not, the set derived is marked, the rules fired are entered
-- in their order, and the counts are those of the set.
pub record Derived (P : Program) (on : Mask) (marks₀ fired₀ : List ℕ) (at : ℕ) (r : Option ℕ) (marks missing fired-now : List ℕ) : Type 0 where
  pub answer : r ≡ derivation_of (meets P on (barred_in marks₀) (has marks₀)) (at + length (fired P on (has marks₀)))
  pub facts : meets P on (barred_in marks₀) (has marks₀) ≡ false → marks ≡ paint (derive P on (has marks₀)) marks₀
  pub rules : meets P on (barred_in marks₀) (has marks₀) ≡ false → fired-now ≡ placed (fired P on (has marks₀)) at fired₀
  pub counted : meets P on (barred_in marks₀) (has marks₀) ≡ false → Counted P (plain_ones P) (derive P on (has marks₀)) missing
  pub kept : take at fired-now ≡ take at fired₀
  pub cells : length fired-now ≡ max_facts narrow

-- One rule more has fired, and one fact less is missing.
pub record Advanced (P : Program) (on : Mask) (marks₀ fired₀ : List ℕ) (at : ℕ) (before marks missing ready fired-now : List ℕ) (to : ℕ) : Type 0 where
  pub further : Deriving P on marks₀ fired₀ at marks fired-now to
  pub poised : Poised P on (has marks) missing ready
  pub less : how_many (λ f. not (has marks f)) (up_to P.facts) < how_many (λ f. not (has before f)) (up_to P.facts)

-- What one turn leaves, from wherever the marks were derived.
abbrev pub Turned : Program → Mask → List ℕ → List ℕ → ℕ → List ℕ → ℕ → Turn → List ℕ → List ℕ → List ℕ → List ℕ → Type 0
Turned P on marks₀ fired₀ at before to Fired marks missing ready fired-now = Advanced P on marks₀ fired₀ at before marks missing ready fired-now (to + 1)
Turned P on marks₀ fired₀ at before to Done marks missing ready fired-now = Derived P on marks₀ fired₀ at (Some to) marks missing fired-now
Turned P on marks₀ fired₀ at before to Stopped marks missing ready fired-now = Derived P on marks₀ fired₀ at None marks missing fired-now
