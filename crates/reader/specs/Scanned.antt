-- Internal: what the scan of an accepted file leaves in the tables.
use Rattle.std.specs.Prelude.{ℕ, ◌<◌, ◌≡◌, List, [], get_or}
use Rattle.std.proofs.Math.Option.{Option, none}
use Rattle.theory.specs.Rule.{count}
use Rattle.items.specs.declared.refusal.Refusal.{Refusal}
use Rattle.cursors.specs.declared.cursor.Cursor.{Cursor}
use Rattle.cursors.specs.Cursor.{items_at, file_start, body_at}
use Rattle.tables.specs.Layout.{place_in, program_in, WellFormed}
use Rattle.reader.specs.Questions.{behind_rules, program_of, file_no}

-- From place p of a file on stands what stands behind the opening item of rule i, of the rules from a cursor on.
abbrev pub RuleAt : List ℕ → Cursor → ℕ → ℕ → Type 0
RuleAt s c p i = items_at s (body_at p) ≡ get_or (behind_rules (items_at s c)) i []

-- The tables hold the program of the file, and where each rule's own items stand.
pub record Tabled (file T : List ℕ) : Type 0 where
  pub program : program_in T ≡ program_of file
  pub well_formed : WellFormed T
  pub placed : (i : ℕ) → i < count (program_of file) → RuleAt file file_start (place_in T i) i

-- They do where the file is accepted. On a refusal nobody reads them.
abbrev pub Scanned : List ℕ → List ℕ → Type 0
Scanned file T = ◌≡◌ {A = Option Refusal} (file_no file) none → Tabled file T
