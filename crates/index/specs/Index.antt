-- Internal: the rules in force by literal, each once and ascending, and how many literals each of them asks.
use Rattle.std.specs.Prelude.{ℕ, ◌<◌, ◌≤◌, ◌≡◌, Bool, true, false, not, ◌&&◌, List, length, get_or, replicate}
use Rattle.theory.specs.Rule.{mem, keep, up_to, nothing, Program, Mask, in_force, count, rule}
use Rattle.items.specs.Item.{max_rules, has}
use Rattle.bits.specs.Matrix.{Matrix}
use Rattle.index.specs.Literal.{literals, body, lacking}
use Rattle.index.specs.Cells.{index_words, on_in}

-- the rule is on and asks the literal
abbrev pub asks : Program → Mask → ℕ → ℕ → Bool
asks P on l i = on i && mem l (body (rule P i))

-- the rules that are on and ask the literal, ascending
abbrev pub askers : Program → Mask → ℕ → List ℕ
askers P on l = keep (asks P on l) (up_to (count P))

-- The index of a program: the row of each literal has the bits of the rules in force that ask it.
pub record Indexed (P : Program) (R : List ℕ) : Type 0 where
  pub few : count P ≤ max_rules
  pub rows : Matrix literals (asks P (on_in R)) R

-- the rules in force, less those that are off
abbrev pub in_force_but : Program → List ℕ → Mask
in_force_but P off i = in_force P i && not (has off i)

abbrev pub LeftOut : Program → List ℕ → List ℕ → Type 0
LeftOut P off R = (i : ℕ) → i < count P → on_in R i ≡ in_force_but P off i

-- Each rule in force misses its whole body. A rule that is not in force misses one literal for ever, so it never fires.
pub record Sized (P : Program) (R missing : List ℕ) : Type 0 where
  pub rule_places : length missing ≡ max_rules
  pub sizes : (i : ℕ) → i < count P → on_in R i ≡ true → get_or missing i 0 ≡ lacking P nothing i
  pub unused : (i : ℕ) → i < count P → on_in R i ≡ false → get_or missing i 0 ≡ 1

-- The index before it is filled.
pub record Blank (R missing : List ℕ) : Type 0 where
  pub words : ◌≡◌ {A = List ℕ} R (replicate index_words 0)
  pub rule_places : length missing ≡ max_rules
