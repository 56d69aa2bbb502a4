-- A run has no more steps than facts and no more stages than steps: each step derives a fact that was missing, each stage takes a step.
use Prim.Native.Nat.{ℕ, suc, ◌+◌, ◌≤◌, ◌<◌}
use mathlib.Core.Path.{◌≡◌, ap, ◌∙◌}
use mathlib.Core.Bool.{not}
use mathlib.Core.List.{List, [], ◌∷◌, ◌++◌}
use native.Mathlib.Omega.{arith}
use lib.ListN.{length, length-append, length-map}
use Rattle.theory.specs.Rule.{up_to, Program, Mask, FactSet, nothing, plain_rules}
use Rattle.theory.specs.Conditions.{Bounded}
use Rattle.theory.specs.Derive.{conclude, fired, steps, step_by}
use Rattle.theory.specs.Run.{Stand, stage, start, run, stage_count, step_count}
use Rattle.theory.proofs.Lists.{how_many-le, length-range}
use Rattle.theory.proofs.Derive.{missing, missing-less, fired-missing}
use Rattle.theory.proofs.Run.{Eligible, picked, exception-known, run-keeps}

-- Each step so far is of a fact of its own, and so is each stage.
pub record Paced (P : Program) (s : Stand) : Type 0 where
  pub room : step_count s + missing P.facts s.derived ≤ P.facts
  pub staged : stage_count s ≤ step_count s

pub missing-most : (n : ℕ) (S : FactSet) → missing n S ≤ n
missing-most n S = rw (length-range 0 n) at (how_many-le (λ f. not (S f)) (up_to n))

steps-length : (P : Program) (on : Mask) (S : FactSet) → length (steps P on S) ≡ length (fired P on S)
unfolding steps
steps-length P on S = length-map (fired P on S) (step_by P)

module _ (P : Program) (b : Bounded P) where
  module _ (on : Mask) (s : Stand) (i : ℕ) (t : Eligible P on s i) where
    stage-length : length (stage P on s i).trace ≡ length s.trace + suc (length (fired P (plain_rules P on) (conclude P s.derived i)))
    stage-length =
        length-append s.trace (step_by P i ∷ steps P (plain_rules P on) (conclude P s.derived i))
        ∙ ap (λ (n : ℕ). length s.trace + suc n) (steps-length P (plain_rules P on) (conclude P s.derived i))

    pub stage-paced : Paced P s → Paced P (stage P on s i)
    stage-paced v =
        let less : missing P.facts (conclude P s.derived i) < missing P.facts s.derived = missing-less P P.facts s.derived i (b.conclusion_below i (exception-known P on i t.excepted)) t.conclusion_out in
        let more : length (fired P (plain_rules P on) (conclude P s.derived i)) + missing P.facts (stage P on s i).derived ≤ missing P.facts (conclude P s.derived i) = fired-missing P (plain_rules P on) (conclude P s.derived i) b.conclusion_below in
        let one : length (s.applied ++ (i ∷ [])) ≡ length s.applied + 1 = length-append s.applied (i ∷ []) in
        record { room = omega (arith, stage-length, v.room); staged = omega (arith, stage-length, v.staged) }

  pub start-paced : (on : Mask) → Paced P (start P on)
  start-paced on =
      let more : length (fired P (plain_rules P on) nothing) + missing P.facts (start P on).derived ≤ missing P.facts nothing = fired-missing P (plain_rules P on) nothing b.conclusion_below in
      let same : length (start P on).trace ≡ length (fired P (plain_rules P on) nothing) = steps-length P (plain_rules P on) nothing in
      record { room = omega (arith, missing-most P.facts nothing); staged = omega arith }

  -- so at its end too
  pub run-paced : (on : Mask) (order : List ℕ) → Paced P (run P on order)
  run-paced on order =
      run-keeps P on order (Paced P) (start-paced on) (λ s i v e. stage-paced on s i (picked P on order s i e) v)
