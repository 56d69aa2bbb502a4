-- Internal: what looking at a rule finds among its premises and constraints.
use Rattle.std.specs.Prelude.{ℕ, ◌+◌, ◌<◌, ◌≤◌, ◌≡◌, Bool, true, false, cond, List, ◌⊎◌, Result, Ok, Err}
use Rattle.theory.specs.Rule.{mem, Program, in_force, rule}
use Rattle.theory.specs.Layers.{Ranks}
use Rattle.theory.specs.Places.{rank_in}
use Rattle.items.specs.Item.{narrow, max_facts}
use Rattle.components.specs.declared.look.Look.{Look}
use Rattle.components.specs.declared.look.Look.TheVariants.{Unmet, Seen}
use Rattle.components.specs.declared.look.Cyclic.{Cyclic}
use Rattle.components.specs.Open.{unmet, nowhere, seen_of}

-- the premises, or the constraints, of rule i
abbrev pub body_part : Program → ℕ → Bool → List ℕ
body_part P i barring = cond barring (rule P i).constraints (rule P i).premises

-- A fact that a rule names was met, and where it is open it is a premise, at a place or behind it.
pub record Noted (barring : Bool) (seen : List ℕ) (low g : ℕ) : Type 0 where
  pub met : seen_of seen g ≡ unmet → ⊥
  pub not_before : seen_of seen g < max_facts narrow → (barring ≡ false) × (low ≤ seen_of seen g)

-- So are all premises, or all constraints, of rule i; and a rank is at least that of each premise, above that of each constraint.
abbrev pub EachNoted : Program → ℕ → Bool → List ℕ → List ℕ → ℕ → ℕ → Type 0
EachNoted P i barring seen ranks low high = (g : ℕ) → mem g (body_part P i barring) ≡ true → Noted barring seen low g × (rank_in ranks g + cond barring 1 0 ≤ high)

-- Some number is no place, or the place of a premise of rule i that is open.
abbrev pub PremisePlace : Program → ℕ → List ℕ → ℕ → Type 0
PremisePlace P i seen low = (low ≡ nowhere) ⊎ ((g : ℕ) × ((mem g (rule P i).premises ≡ true) × ((g < P.facts) × ((seen_of seen g ≡ low) × (low < max_facts narrow)))))

-- A rank that the conclusion of rule i must have at least. It is no higher than a number that no rank passes and that those of closed facts do not reach.
pub record Asked (P : Program) (i : ℕ) (seen ranks : List ℕ) (high : ℕ) : Type 0 where
  pub under : (rank : ℕ → ℕ) → Ranks P (in_force P) rank → high ≤ rank (rule P i).conclusion
  pub bounded : (b : ℕ) → ((f : ℕ) → rank_in ranks f ≤ b) → ((f : ℕ) → f < P.facts → (seen_of seen f ≡ unmet → ⊥) → (seen_of seen f < max_facts narrow → ⊥) → rank_in ranks f < b) → high ≤ b

-- What was found: a fact of the rule that was not met, as a premise or as a constraint; or, of facts that are all met, the lowest place of a premise that is open,
-- if there is one, and a rank that the conclusion must have. Or a constraint is open.
abbrev pub LookFinds : Program → ℕ → List ℕ → List ℕ → Result Look Cyclic → Type 0
LookFinds P i seen ranks (Ok (Unmet f barring)) = (mem f.0 (body_part P i barring) ≡ true) × ((f.0 < P.facts) × (seen_of seen f.0 ≡ unmet))
LookFinds P i seen ranks (Ok (Seen low high)) =
    (PremisePlace P i seen low × Asked P i seen ranks high) × (EachNoted P i false seen ranks low high × EachNoted P i true seen ranks low high)
LookFinds P i seen ranks (Err _) = (k : ℕ) × ((mem k (rule P i).constraints ≡ true) × ((k < P.facts) × (seen_of seen k < max_facts narrow)))

-- .. among the premises alone, or the constraints
abbrev pub PartFinds : Program → ℕ → Bool → List ℕ → List ℕ → Result Look Cyclic → Type 0
PartFinds P i barring seen ranks (Ok (Unmet f by)) = LookFinds P i seen ranks (Ok (Unmet f by))
PartFinds P i barring seen ranks (Ok (Seen low high)) = (PremisePlace P i seen low × Asked P i seen ranks high) × EachNoted P i barring seen ranks low high
PartFinds P i barring seen ranks (Err e) = LookFinds P i seen ranks (Err e)
