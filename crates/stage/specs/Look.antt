-- Internal: the look along an order for the first rule that is eligible. A place of the order is awake where its rule's premises are in D and the
-- rule has not been decided there; a rule that was refused with its premises in D stays refused, so that no place is looked at twice.
use Rattle.std.specs.Prelude.{ℕ, ◌<◌, ◌≡◌, Bool, true, false, List, ◌∷◌, ◌⊎◌, length, get_or, Option, Some, None}
use Rattle.std.proofs.Math.Option.{Option as Maybe, none, some}
use Rattle.std.proofs.Math.Seq.{slice}
use Rattle.theory.specs.Rule.{all, mem, Program, in_force, rule, exception, plain_rules}
use Rattle.theory.specs.Derive.{conclude, fired as fired_from}
use Rattle.theory.specs.Run.{Stand, eligible, stage, first_eligible}
use Rattle.bits.specs.Flags.{Flags}
use Rattle.stage.specs.declared.staged.Stage.{Stage}
use Rattle.stage.specs.Memory.{Holds, StandAtRest}

-- the order names exception rules of the program alone
abbrev pub NamesOnly : Program → List ℕ → Type 0
NamesOnly P order = (i : ℕ) → mem i order ≡ true → exception P i ≡ true

-- the rule at a place of the order, and whether its premises are in D and whether it is eligible where the run stands
abbrev pub premises_in : Program → List ℕ → Stand → ℕ → Bool
premises_in P order s k = all s.derived (rule P (get_or order k 0)).premises

abbrev pub eligible_at : Program → List ℕ → Stand → ℕ → Bool
eligible_at P order s k = eligible P (in_force P) s (get_or order k 0)

-- The places p are awake: the premises of their rules are in D, and no rule at another place is eligible.
pub record Awake (P : Program) (order : List ℕ) (s : Stand) (p : ℕ → Bool) : Type 0 where
  pub roused : (k : ℕ) → p k ≡ true → (k < length order) × (premises_in P order s k ≡ true)
  pub asleep : (k : ℕ) → k < length order → p k ≡ false → eligible_at P order s k ≡ false

-- The same, but for the places of rule i, which was taken.
pub record AwakeBut (P : Program) (order : List ℕ) (s : Stand) (i : ℕ) (p : ℕ → Bool) : Type 0 where
  pub roused : (k : ℕ) → p k ≡ true → (k < length order) × (premises_in P order s k ≡ true)
  pub asleep : (k : ℕ) → k < length order → p k ≡ false → (eligible_at P order s k ≡ false) ⊎ (get_or order k 0 ≡ i)

-- The memory holds a stand of a run along an order, with its awake places.
pub record Looking (P : Program) (order marks missing fired : List ℕ) (n : ℕ) (awake : List ℕ) (s : Stand) (p : ℕ → Bool) : Type 0 where
  pub names_only : NamesOnly P order
  pub holds : Holds P s marks fired n
  pub rests : StandAtRest P s missing
  pub flags : Flags p awake
  pub waits : Awake P order s p

-- It holds some stand.
pub record Stands (P : Program) (order marks missing fired : List ℕ) (n : ℕ) (awake : List ℕ) : Type 0 where
  pub at : Stand
  pub places : ℕ → Bool
  pub looking : Looking P order marks missing fired n awake at places

-- The look took rule i, the first that is eligible: the memory holds the stand after its stage, m steps, of which those from n on are the rule's
-- and those of the closure.
pub record Taken (P : Program) (order : List ℕ) (s : Stand) (n i : ℕ) (marks missing fired awake : List ℕ) (m : ℕ) : Type 0 where
  pub first : first_eligible P (in_force P) order s ≡ some i
  pub holds : Holds P (stage P (in_force P) s i) marks fired m
  pub rests : StandAtRest P (stage P (in_force P) s i) missing
  pub added : slice n m fired ≡ i ∷ fired_from P (plain_rules P (in_force P)) (conclude P s.derived i)
  pub places : ℕ → Bool
  pub flags : Flags places awake
  pub waits : AwakeBut P order s i places

-- It found none.
pub record Ended (P : Program) (order : List ℕ) (s : Stand) (n : ℕ) (marks fired : List ℕ) : Type 0 where
  pub none_left : ◌≡◌ {A = Maybe ℕ} (first_eligible P (in_force P) order s) none
  pub holds : Holds P s marks fired n

-- What a look leaves of n steps before.
abbrev pub Looked : Program → List ℕ → Stand → ℕ → Option Stage → List ℕ → List ℕ → List ℕ → List ℕ → Type 0
Looked P order s n (Some t) marks missing fired awake = Taken P order s n t.rule.0 marks missing fired awake t.steps
Looked P order s n None marks missing fired awake = Ended P order s n marks fired
