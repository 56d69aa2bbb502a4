-- The bytes of a row of steps, what a search for a rule finds, and what a derivation comes to.
use Rattle.std.specs.Prelude.{ℕ, Bool, true, false, List, [], ◌∷◌, ◌++◌, Option, Some, None}
use Rattle.std.proofs.Math.Option.{Option as Maybe, none, some}
use Rattle.theory.specs.Rule.{Step}
use Rattle.items.specs.declared.item.RuleId.{RuleId}
use Rattle.items.specs.Item.{rule_id, Width}
use Rattle.items.specs.Write.{step_item}

-- The steps as items, in their order.
abbrev pub step_bytes : Width → List Step → List ℕ
step_bytes w [] = []
step_bytes w (s ∷ row) = step_item w s.fact s.by ++ step_bytes w row

abbrev pub found_of : Maybe ℕ → Option RuleId
found_of none = None
found_of (some i) = Some (rule_id i)

-- the number of rules fired, where no barred fact is met
abbrev pub derivation_of : Bool → ℕ → Option ℕ
derivation_of true n = None
derivation_of false n = Some n
