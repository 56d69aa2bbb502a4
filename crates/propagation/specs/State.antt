-- Internal: what the rules derive from facts held out, kept up to date as more are held out.
--
-- The marks have a byte for each literal: 1 where it is taken as true and every rule that asks it knows, 2 where it waits to be, 0 where it is
-- not known to be true. For each rule in force it is kept how many literals of its body are missing; a rule that is not in force misses one for ever.
use Rattle.std.specs.Prelude.{ℕ, ◌+◌, ◌<◌, ◌≤◌, ◌≡◌, Bool, true, false, not, ◌||◌, List, [], length, get_or, take, eqb, ltb}
use Rattle.theory.specs.Rule.{all, mem, how_many, Program, Mask, FactSet, adjoin, count, rule, Closed}
use Rattle.theory.specs.Conditions.{Bounded, every_rule}
use Rattle.theory.specs.Stable.{reduct}
use Rattle.items.specs.Item.{narrow, max_facts, max_rules, has}
use Rattle.index.specs.Literal.{outside, literals, literal_count, lacking}

-- the byte of a literal that waits
abbrev pub waiting : ℕ
waiting = 2

-- true, or waiting to be
unfoldable pub told : List ℕ → ℕ → Bool
told marks l = not (eqb (get_or marks l 0) 0)

-- how many literals are told
abbrev pub told_count : List ℕ → ℕ
told_count marks = literal_count (told marks)

-- the facts that are not held out
abbrev pub not_held_out : (ℕ → Bool) → FactSet
not_held_out yet k = not (yet (outside k))

-- The literals that wait are on the stack, which has `top` of them.
pub record Stacked (marks stack : List ℕ) (top : ℕ) : Type 0 where
  pub literal_places : length marks ≡ literals
  pub stack_places : length stack ≡ literals
  pub stacked : all (λ l. ltb l literals) (take top stack) ≡ true
  -- each literal on the stack was told
  pub room : top ≤ told_count marks
  pub waits : (l : ℕ) → l < literals → get_or marks l 0 ≡ waiting → mem l (take top stack) ≡ true
  pub bytes : (l : ℕ) → l < literals → get_or marks l 0 ≤ waiting

-- Every set closed under the rules whose constraints are all held out has the fact.
abbrev pub Grounded : Program → Mask → (ℕ → Bool) → ℕ → Type 0
Grounded P on yet f = (N : FactSet) → Closed P (reduct P on (not_held_out yet)) N → N f ≡ true

-- Between two rules. Of the rules asked for, those that miss nothing have their conclusions. These rules are still to be told of a literal that
-- is true.
pub record Spreading (P : Program) (on asked : Mask) (rules : List ℕ) (marks missing stack : List ℕ) (top : ℕ) : Type 0 where
  pub on_stack : Stacked marks stack top
  pub rule_places : length missing ≡ max_rules
  pub missed : (i : ℕ) → i < count P → on i ≡ true → get_or missing i 0 ≡ lacking P (has marks) i + how_many (eqb i) rules
  pub unused : (i : ℕ) → i < count P → on i ≡ false → get_or missing i 0 ≡ 1
  pub fires : (i : ℕ) → i < count P → asked i ≡ true → get_or missing i 0 ≡ 0 → told marks (rule P i).conclusion ≡ true
  -- nothing is derived without grounds
  pub sound : (f : ℕ) → f < max_facts narrow → told marks f ≡ true → Grounded P on (told marks) f

-- Between two literals: every rule knows of every literal that is true.
abbrev pub Between : Program → Mask → List ℕ → List ℕ → List ℕ → ℕ → Type 0
Between P on marks missing stack top = Spreading P on every_rule [] marks missing stack top

-- A literal is told now, if it was not before.
pub record Waited (literal : ℕ) (marks : List ℕ) (top : ℕ) (marks' stack' : List ℕ) (top' : ℕ) : Type 0 where
  pub on_stack : Stacked marks' stack' top'
  pub tells : (l : ℕ) → told marks' l ≡ adjoin (told marks) literal l
  pub keeps : (l : ℕ) → has marks' l ≡ has marks l
  pub paced : top' + told_count marks ≤ top + told_count marks'

-- The conclusion of a rule is told now, if it was not before.
pub record Concluded (P : Program) (i : ℕ) (marks : List ℕ) (top : ℕ) (marks' stack' : List ℕ) (top' : ℕ) : Type 0 where
  pub bounded : Bounded P
  pub few : P.facts ≤ max_facts narrow
  pub waited : Waited (rule P i).conclusion marks top marks' stack' top'

-- The same facts are held out as before, and the stack has grown by no more than the literals told.
pub record Onward (marks : List ℕ) (top : ℕ) (marks' : List ℕ) (top' : ℕ) : Type 0 where
  pub outside_kept : (k : ℕ) → told marks' (outside k) ≡ told marks (outside k)
  pub paced : top' + told_count marks ≤ top + told_count marks'

-- Nothing waits: the facts marked are those that the rules derive from the facts held out.
pub record Settled (P : Program) (on : Mask) (marks missing : List ℕ) : Type 0 where
  pub literal_places : length marks ≡ literals
  pub rule_places : length missing ≡ max_rules
  pub bits : (l : ℕ) → l < literals → get_or marks l 0 < waiting
  pub missed : (i : ℕ) → i < count P → on i ≡ true → get_or missing i 0 ≡ lacking P (has marks) i
  pub unused : (i : ℕ) → i < count P → on i ≡ false → get_or missing i 0 ≡ 1
  pub fires : (i : ℕ) → i < count P → get_or missing i 0 ≡ 0 → has marks (rule P i).conclusion ≡ true
  pub sound : (N : FactSet) → Closed P (reduct P on (not_held_out (has marks))) N → (f : ℕ) → f < max_facts narrow → has marks f ≡ true → N f ≡ true

-- The same facts are held out as before, and these.
abbrev pub HeldToo : List ℕ → List ℕ → List ℕ → Type 0
HeldToo before facts after = (k : ℕ) → has after (outside k) ≡ has before (outside k) || mem k facts
