-- What the grounds that are asked of a run in ascending order leave gives the text.
use Prim.Native.Nat.{ℕ, ◌*◌, ◌≤◌}
use native.Mathlib.Omega.{arith}
use mathlib.Core.Path.{◌≡◌, refl, ap, ◌∙◌}
use mathlib.Core.Bool.{Bool, true, false, cond}
use mathlib.Core.List.{List}
use lib.ListN.{length, take, replicate, length-replicate}
use Rattle.std.specs.Prelude.{Result, Ok, Err}
use Rattle.theory.specs.Rule.{Program}
use Rattle.theory.specs.Run.{Stand}
use Rattle.theory.specs.Keeping.{grounds_of}
use Rattle.items.specs.declared.refusal.Refusal.{Refusal}
use Rattle.items.specs.declared.refusal.Refusal.TheVariants.{NotDerived}
use Rattle.items.specs.Item.{narrow, step_width, max_facts, max_rules}
use Rattle.items.specs.Question.{number}
use Rattle.items.specs.Write.{over}
use Rattle.tables.specs.Layout.{program_in, WellFormed}
use Rattle.closure.specs.Steps.{step_bytes}
use Rattle.items.proofs.PlacedBytes.{over-length}
use Rattle.results.proofs.StepsWritten.{step-bytes_length}
use Rattle.questions.specs.Questions.{each, row_of, naming}
use Rattle.run.specs.Stands.{run_in}
use Rattle.keeping.specs.Outcome.{GroundsOutcome, grounds_written, grounds_refused}
use Rattle.keeping.specs.Told.{grounds_told}
use Rattle.panel_lines.specs.Text.{ascending, line, step_line}
use Rattle.panel_text.proofs.RunLines.{front-steps, in_order}
use Rattle.grounds_text.specs.Text.{ascending_run}
use Rattle.grounds_text.specs.Tabled.{program_text}
use Rattle.grounds_text.proofs.KeptLines.{few_kept}

-- The grounds for a fact by a run in ascending order: the fact was not derived, or the steps kept for it stand in front of their buffer.
record Told (P : Program) (fact : ℕ) (answer : Result ℕ Refusal) (steps : List ℕ) : Type 0 where
  refused : (r : Refusal) → answer ≡ Err r → ((ascending_run P).derived fact ≡ false) × (r ≡ NotDerived)
  given : (n : ℕ) → answer ≡ Ok n → ((ascending_run P).derived fact ≡ true) × (n ≡ length (grounds_of P fact (ascending_run P).trace))
  written : (n : ℕ) → answer ≡ Ok n → steps ≡ over (step_bytes narrow (grounds_of P fact (ascending_run P).trace)) (replicate (max_facts narrow * step_width narrow) 0)

told-by : (P : Program) (fact : ℕ) (answer : Result ℕ Refusal) (facts rules steps : List ℕ) → ◌≡◌ {A = GroundsOutcome} (record { answer = answer; fact_marks = facts; rule_marks = rules; steps = steps }) (grounds_told P (ascending_run P) fact (replicate (max_facts narrow) 0) (replicate max_rules 0) (replicate (max_facts narrow * step_width narrow) 0)) → Told P fact answer steps
unfolding grounds_told grounds_written
told-by P fact answer facts rules steps e = go ((ascending_run P).derived fact) refl e
  where
    go : (b : Bool) → (ascending_run P).derived fact ≡ b → ◌≡◌ {A = GroundsOutcome} (record { answer = answer; fact_marks = facts; rule_marks = rules; steps = steps }) (cond b (grounds_written P (ascending_run P) fact (replicate (max_facts narrow) 0) (replicate max_rules 0) (replicate (max_facts narrow * step_width narrow) 0)) (grounds_refused NotDerived (replicate (max_facts narrow) 0) (replicate max_rules 0) (replicate (max_facts narrow * step_width narrow) 0))) → Told P fact answer steps
    go true d q =
        let a : answer ≡ Ok (length (grounds_of P fact (ascending_run P).trace)) = ap (λ (x : GroundsOutcome). x.answer) q in
        record {
          refused = λ r h. absurd (let z : ◌≡◌ {A = ℕ} 0 1 = cc (a, h) in omega arith);
          given = λ n h. (d, let same : n ≡ length (grounds_of P fact (ascending_run P).trace) = cc (a, h) in same);
          written = λ n h. ap (λ (x : GroundsOutcome). x.steps) q;
        }
    go false d q =
        let a : answer ≡ Err NotDerived = ap (λ (x : GroundsOutcome). x.answer) q in
        record {
          refused = λ r h. (d, let same : r ≡ NotDerived = cc (a, h) in same);
          given = λ n h. absurd (let z : ◌≡◌ {A = ℕ} 0 1 = cc (a, h) in omega arith);
          written = λ n h. absurd (let z : ◌≡◌ {A = ℕ} 0 1 = cc (a, h) in omega arith);
        }

module _ {T : List ℕ} (w : WellFormed T) (order : List ℕ) (o : order ≡ naming (ascending (program_in T))) where
  abbrev P : Program
  P = program_in T

  module _ (fact : ℕ) (answer : Result ℕ Refusal) (facts rules steps : List ℕ) (e : ◌≡◌ {A = GroundsOutcome} (record { answer = answer; fact_marks = facts; rule_marks = rules; steps = steps }) (grounds_told P (run_in T order) fact (replicate (max_facts narrow) 0) (replicate max_rules 0) (replicate (max_facts narrow * step_width narrow) 0))) where
    told : Told P fact answer steps
    told =
        told-by P fact answer facts rules steps (e ∙ ap (λ (s : Stand). grounds_told P s fact (replicate (max_facts narrow) 0) (replicate max_rules 0) (replicate (max_facts narrow * step_width narrow) 0)) (in_order w order o))

    pub refused-line : (r : Refusal) → answer ≡ Err r → program_text P fact ≡ line 0x45 (number r)
    unfolding program_text
    refused-line r h = rw ((told.refused r h).0, (told.refused r h).1)

    module _ (n : ℕ) (h : answer ≡ Ok n) where
      pub kept-inside : n * step_width narrow ≤ length steps
      kept-inside =
          let kept = grounds_of P fact (ascending_run P).trace in
          let few = few_kept w fact in
          let room : List ℕ = replicate (max_facts narrow * step_width narrow) 0 in
          omega (arith, (told.given n h).1, ap length (told.written n h), over-length (step_bytes narrow kept) room (omega (arith, step-bytes_length kept, few, length-replicate {A = ℕ} (max_facts narrow * step_width narrow) 0)), length-replicate {A = ℕ} (max_facts narrow * step_width narrow) 0, few)

      pub kept-lines : each step_line (row_of (take (n * step_width narrow) steps)) ≡ program_text P fact
      unfolding program_text
      kept-lines =
          rw ((told.given n h).0, (told.given n h).1, told.written n h, front-steps (grounds_of P fact (ascending_run P).trace) (replicate (max_facts narrow * step_width narrow) 0))
