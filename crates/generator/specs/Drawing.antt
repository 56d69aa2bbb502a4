-- Internal: how the draws and the rules of a load are made.
use Rattle.std.specs.Prelude.{◌≡◌, ℕ, suc, ◌+◌, ◌*◌, ◌/◌, ◌%◌, ◌<◌, ◌≤◌, cond, eqb, List, [], ◌∷◌}
use Rattle.theory.specs.Rule.{up_to}
use Rattle.items.specs.declared.item.Item.TheVariants.{Facts}
use Rattle.items.specs.Item.{narrow, premise_kind, constraint_kind}
use Rattle.items.specs.Write.{bytes_of, placed, over}
use Rattle.generator.specs.declared.draw.Modulus.{Modulus}
use Rattle.generator.specs.Draws.{states, state_after}
use Rattle.generator.specs.Load.{rule_items, items_of}
use Rattle.generator.specs.Outcome.{most_facts}

-- A modulus that was made: 1 to the most facts, with the factor that stands for a division by them.
pub record Divides (by : Modulus) : Type 0 where
  pub some : 0 < by.facts
  pub few : by.facts ≤ most_facts
  pub inverse : by.inverse ≡ states / by.facts + 1

-- The kinds of a rule's two further items, by its turn.
abbrev pub first_kind : ℕ → ℕ
first_kind turn = cond (eqb turn 0) (constraint_kind narrow) (premise_kind narrow)

abbrev pub second_kind : ℕ → ℕ
second_kind turn = cond (eqb turn 0) (constraint_kind narrow) (cond (eqb turn 1) (premise_kind narrow) (constraint_kind narrow))

-- Where the state is the one behind the draws of the rules before rule i, whose turn it is, its items stand at a place, and r is the state behind its draws.
abbrev pub RuleWritten : ℕ → ℕ → ℕ → ℕ → List ℕ → ℕ → List ℕ → Type 0
RuleWritten n state turn at out r out' =
    (start i : ℕ) → state ≡ state_after start (3 * i) → turn ≡ i % 3
    → (out' ≡ placed (bytes_of narrow (rule_items start n i)) at out) × (r ≡ state_after start (3 * suc i))

-- Where the count of facts stands at the front of a buffer, the first m rules stand behind it.
abbrev pub RulesWritten : ℕ → ℕ → ℕ → List ℕ → List ℕ → Type 0
RulesWritten start n m out out' =
    (room : List ℕ) → out ≡ over (bytes_of narrow (Facts n ∷ [])) room → out' ≡ over (bytes_of narrow (Facts n ∷ items_of start n (up_to m))) room
