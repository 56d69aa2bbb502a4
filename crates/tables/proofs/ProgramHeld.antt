-- The program that the tables hold, rule by rule.
use Prim.Native.Nat.{ℕ, ◌<◌, ◌≤◌}
use mathlib.Core.Path.{◌≡◌, refl}
use mathlib.Core.List.{List}
use native.Mathlib.Omega.{arith}
use Rattle.theory.specs.Rule.{blank, count, rule, withheld}
use Rattle.theory.proofs.Lists.{mapped_length, mapped_at}
use Rattle.items.specs.Item.{narrow, max_facts, max_rules}
use Rattle.tables.specs.Layout.{facts_in, rules_in, rule_in, withheld_in, program_in, WellFormed}

-- its counts
pub facts-held : (T : List ℕ) → (program_in T).facts ≡ facts_in T
unfolding program_in
facts-held T = refl

pub rules-held : (T : List ℕ) → count (program_in T) ≡ rules_in T
unfolding program_in
rules-held T = mapped_length (rule_in T) (rules_in T)

-- its rules
pub rule-held : (T : List ℕ) (i : ℕ) → i < rules_in T → rule (program_in T) i ≡ rule_in T i
unfolding program_in
rule-held T i h = mapped_at (rule_in T) blank (rules_in T) i h

module _ {T : List ℕ} (w : WellFormed T) where
  pub facts_below : (program_in T).facts < max_facts narrow
  facts_below = rw (facts-held T) w.facts_few

  pub rules-below : count (program_in T) ≤ max_rules
  rules-below = rw (rules-held T) w.rules_few

  module _ {i : ℕ} (h : i < count (program_in T)) where
    pub known : i < rules_in T
    known = rw (rules-held T) at h

    pub in_table : i < max_rules
    in_table = omega (arith, h, rules-below)

    -- the mark of a withheld rule tells it
    pub withheld-marked : withheld_in T i ≡ withheld (program_in T) i
    withheld-marked = w.marks_withheld i known

    pub conclusion_below : (rule (program_in T) i).conclusion < (program_in T).facts
    conclusion_below = w.in_bounds.conclusion_below i h
