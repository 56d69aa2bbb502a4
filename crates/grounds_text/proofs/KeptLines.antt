-- How many steps are kept, and how long their lines and the text are.
use Prim.Native.Nat.{ℕ, suc, ◌≤◌, ◌<◌}
use native.Mathlib.Omega.{arith}
use mathlib.Core.Bool.{Bool, true, false, cond}
use mathlib.Core.List.{List, [], ◌∷◌}
use lib.ListN.{length, length-append}
use Rattle.theory.specs.Rule.{Step, Program, in_force}
use Rattle.theory.specs.Keeping.{StepSet, select, kept_steps, grounds_of}
use Rattle.items.specs.declared.refusal.Refusal.TheVariants.{NotDerived}
use Rattle.items.specs.Item.{narrow, max_facts}
use Rattle.items.specs.Question.{number}
use Rattle.tables.specs.Layout.{program_in, WellFormed}
use Rattle.tables.proofs.ProgramHeld.{facts_below, rules-below}
use Rattle.run.proofs.FewSteps.{run-paced}
use Rattle.questions.specs.Questions.{each}
use Rattle.panel_lines.specs.Text.{ascending, line, step_line}
use Rattle.panel_text.proofs.Lengths.{line-length, trace_length}
use Rattle.grounds_text.specs.Text.{ascending_run, kept_lines, lines_room}
use Rattle.grounds_text.specs.Tabled.{program_text}

-- What is selected is no more than the row.
selected : (K : StepSet) (row : List Step) → length (select K row) ≤ length row
selected K [] = omega arith
selected K (s ∷ row) = go (K 0) (selected (λ k. K (suc k)) row)
  where
    go : (b : Bool) → length (select (λ k. K (suc k)) row) ≤ length row → length (cond b (s ∷ select (λ k. K (suc k)) row) (select (λ k. K (suc k)) row)) ≤ suc (length row)
    go true r = omega arith
    go false r = omega arith

selected_bytes : (g : Step → List ℕ) (K : StepSet) (row : List Step) → length (each g (select K row)) ≤ length (each g row)
selected_bytes g K [] = omega arith
selected_bytes g K (s ∷ row) = go (K 0) (selected_bytes g (λ k. K (suc k)) row)
  where
    rest : List Step
    rest = select (λ k. K (suc k)) row

    go : (b : Bool) → length (each g rest) ≤ length (each g row) → length (each g (cond b (s ∷ rest) rest)) ≤ length (each g (s ∷ row))
    go true r = simp length-append (omega arith)
    go false r = simp length-append (omega arith)

module _ {T : List ℕ} (w : WellFormed T) (fact : ℕ) where
  abbrev P : Program
  P = program_in T

  pub few_kept : length (grounds_of P fact (ascending_run P).trace) < max_facts narrow
  unfolding grounds_of
  few_kept =
      omega (arith, facts_below w, selected (kept_steps P fact (ascending_run P).trace) (ascending_run P).trace, (run-paced P w.in_bounds (in_force P) (ascending P)).room)

  lines_fit : length (kept_lines P fact) ≤ lines_room narrow
  unfolding grounds_of
  lines_fit =
      omega (arith, facts_below w, selected_bytes step_line (kept_steps P fact (ascending_run P).trace) (ascending_run P).trace, trace_length P w.in_bounds (facts_below w) (rules-below w) (ascending P))

  pub text_fits : length (program_text P fact) ≤ lines_room narrow
  unfolding program_text
  text_fits = go ((ascending_run P).derived fact)
    where
      go : (d : Bool) → length (cond d (kept_lines P fact) (line 0x45 (number NotDerived))) ≤ lines_room narrow
      go true = lines_fit
      go false = omega (arith, line-length 0x45 (number NotDerived) (omega arith))
