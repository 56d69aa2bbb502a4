-- Internal: what the scan of the items after the first answers, and what it leaves in the tables.
use Rattle.std.specs.Prelude.{ℕ, ◌<◌, ◌≡◌, List, replicate}
use Rattle.std.proofs.Math.Option.{Option, none}
use Rattle.theory.specs.Rule.{mem, Program, count}
use Rattle.items.specs.declared.refusal.Refusal.{Refusal}
use Rattle.cursors.specs.declared.cursor.Cursor.{Cursor}
use Rattle.items.specs.Item.{narrow, max_facts}
use Rattle.items.specs.Question.{first_no}
use Rattle.cursors.specs.Cursor.{items_at}
use Rattle.tables.specs.Layout.{table_cells, place_in, program_in, WellFormed}
use Rattle.reader.specs.Questions.{rules_of, unread_of, fresh, body_questions}
use Rattle.reader.specs.Scanned.{RuleAt}

-- The program of n facts, and the first no to questions 3 to 10, 51 and 56, where the items after the first start at c.
abbrev pub program_from : ℕ → List ℕ → Cursor → Program
program_from n s c = record { facts = n; rules = rules_of (items_at s c); unread = λ f. mem f (unread_of (items_at s c)) }

abbrev pub body_no : ℕ → List ℕ → Cursor → Option Refusal
body_no n s c = first_no (body_questions (fresh n) (items_at s c))

-- The tables hold that program, and where each rule's own items stand.
pub record BodyTabled (n : ℕ) (s : List ℕ) (c : Cursor) (T : List ℕ) : Type 0 where
  pub program : program_in T ≡ program_from n s c
  pub well_formed : WellFormed T
  pub placed : (i : ℕ) → i < count (program_from n s c) → RuleAt s c (place_in T i) i

-- They do where each question gets yes.
abbrev pub BodyScanned : ℕ → List ℕ → Cursor → List ℕ → Type 0
BodyScanned n s c T = ◌≡◌ {A = Option Refusal} (body_no n s c) none → BodyTabled n s c T

-- Nothing is stored yet.
pub record Cleared (T : List ℕ) : Type 0 where
  pub zeros : ◌≡◌ {A = List ℕ} T (replicate table_cells 0)

-- No fact is marked yet.
pub record Unmarked (marks : List ℕ) : Type 0 where
  pub zeros : marks ≡ replicate (max_facts narrow) 0
