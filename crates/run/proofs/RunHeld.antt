-- The run in working memory: its counts, and what is written of it.
use Prim.Native.Nat.{ℕ, ◌<◌, ◌≤◌}
use mathlib.Core.Path.{◌≡◌}
use mathlib.Core.List.{List}
use native.Mathlib.Omega.{arith}
use lib.ListN.{length, get_or}
use Rattle.theory.specs.Rule.{Program, in_force, count}
use Rattle.theory.specs.Run.{Stand, run, stage_count}
use Rattle.items.specs.Item.{narrow, max_facts}
use Rattle.tables.specs.Layout.{program_in, WellFormed}
use Rattle.tables.proofs.ProgramHeld.{facts_below}
use Rattle.results.specs.Writable.{Writable}
use Rattle.stage.specs.Memory.{Holds}
use Rattle.run.specs.Stands.{Held, RunCounted, MayRun}
use Rattle.run.proofs.FewSteps.{Paced, run-paced}
use Rattle.run.proofs.StandsKept.{steps_counted}

pub run-counted : {T : List ℕ} → WellFormed T → (order : List ℕ) {marks fired applied : List ℕ} {stages n : ℕ} → Held (program_in T) (run (program_in T) (in_force (program_in T)) order) marks fired applied n → stages ≡ stage_count (run (program_in T) (in_force (program_in T)) order) → RunCounted (run (program_in T) (in_force (program_in T)) order) stages n
run-counted {T} wf order {stages = stages} {n = n} h e =
    let few : (program_in T).facts < max_facts narrow = facts_below wf in
    let steps : n ≡ length (run (program_in T) (in_force (program_in T)) order).trace = steps_counted few h.holds in
    let p : Paced (program_in T) (run (program_in T) (in_force (program_in T)) order) = run-paced (program_in T) wf.in_bounds (in_force (program_in T)) order in
    record { stages_counted = e; steps_counted = steps; few_stages = omega (arith, p.staged, p.room); few_steps = omega (arith, h.holds.fits) }

-- The rules of a row, no more than the run has steps, may be written as steps beside its marks.
pub may_write : {P : Program} {s : Stand} {marks fired order : List ℕ} {n facts rules steps : ℕ} → P.facts < max_facts narrow → Holds P s marks fired n → MayRun P order facts rules steps → (row : List ℕ) → length row ≤ n → ((k : ℕ) → k < length row → get_or row k 0 < count P) → Writable P marks row facts rules steps
may_write few h may row less known =
    record {
      marks_places = omega (arith, h.marks_places);
      known = known;
      facts_fit = may.facts_fit;
      rules_fit = may.rules_fit;
      steps_fit = omega (arith, h.fits, may.steps_fit);
    }
