-- The length of a rule: how many premise and constraint items it has, repeats counted (document 02, wish 2).
use Rattle.std.specs.Prelude.{ℕ, ◌+◌, ◌<◌, ◌≤◌, List, [], ◌∷◌, length}
use Rattle.theory.specs.Rule.{Rule, Program, count, rule}
use Rattle.items.specs.Item.{max_rule_items}

abbrev pub rule_length : Rule → ℕ
rule_length r = length r.premises + length r.constraints

-- of all rules together
abbrev pub all_lengths : List Rule → ℕ
all_lengths [] = 0
all_lengths (r ∷ rs) = rule_length r + all_lengths rs

-- No rule is longer than the cap.
abbrev pub WithinCap : Program → Type 0
WithinCap P = (i : ℕ) → i < count P → rule_length (rule P i) ≤ max_rule_items
