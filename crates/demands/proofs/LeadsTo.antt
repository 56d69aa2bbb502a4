-- For every stable set of an accepted file, the order that names first the exception rules with premises in the set and no constraint in it
-- leads to the set.
use Prim.Native.Nat.{ℕ}
use mathlib.Core.Path.{◌≡◌}
use mathlib.Core.List.{List}
use mathlib.Core.Option.{Option, none}
use lib.ListN.{length}
use Rattle.theory.specs.Rule.{Program, FactSet, in_force}
use Rattle.theory.specs.Run.{run}
use Rattle.theory.specs.Stable.{Stable, row_to, order_for}
use Rattle.theory.proofs.Search.{order-once, order-only, order-length}
use Rattle.theory.proofs.Order.{order-reaches}
use Rattle.items.specs.declared.refusal.Refusal.{Refusal}
use Rattle.items.specs.Item.{narrow}
use Rattle.reader.specs.Questions.{program_of, file_no, exceptions}
use Rattle.questions.specs.Questions.{row_of, buffers_no, naming}
use Rattle.closure.specs.Steps.{step_bytes}
use Rattle.run.specs.Outcome.{run_written, run_outcome}
use Rattle.demands.specs.Results.{RowsProve, LeadsTo}
use Rattle.demands.proofs.OrderLeads as leading

module _ (file : List ℕ) (accepted : ◌≡◌ {A = Option Refusal} (file_no file) none) (M : FactSet) (stable : Stable (program_of file) (in_force (program_of file)) M) where
  abbrev P : Program
  P = program_of file

  abbrev row : List ℕ
  row = order_for P (in_force P) M

  names : leading.NamesOnce P row
  unfolding exceptions
  names = record { once = order-once P (in_force P) M; only = order-only P (in_force P) M; long = order-length P (in_force P) M }

  pub reaches : (run P (in_force P) row).derived ≡ M
  reaches = leading.reached file accepted M stable row names (order-reaches P (in_force P) M stable)

  module _ (rows : ℕ → List ℕ) (rows_are : (f : ℕ) → rows f ≡ step_bytes narrow (row_to f (run P (in_force P) row).trace)) where
    pub rows_read : (f : ℕ) → row_of (rows f) ≡ row_to f (run P (in_force P) row).trace
    rows_read = leading.rows_read file accepted M stable row names (order-reaches P (in_force P) M stable) rows rows_are

    pub rows_prove : RowsProve file M rows
    rows_prove = leading.rows_prove file accepted M stable row names (order-reaches P (in_force P) M stable) rows rows_are

  pub ran : (facts rules steps : List ℕ) → ◌≡◌ {A = Option Refusal} (buffers_no narrow P (length facts) (length rules) (length steps)) none → run_outcome file (naming row) facts rules steps ≡ run_written P (run P (in_force P) row) facts rules steps
  ran = leading.ran file accepted M stable row names (order-reaches P (in_force P) M stable)

  pub leads-to : LeadsTo file (naming row) M
  leads-to = leading.order-leads file accepted M stable row names (order-reaches P (in_force P) M stable)
