-- Tables without facts and rules hold a program.
use Prim.Native.Nat.{ℕ, ◌<◌}
use mathlib.Core.Path.{◌≡◌}
use mathlib.Core.List.{List}
use native.Mathlib.Omega.{arith}
use Rattle.theory.specs.Rule.{count}
use Rattle.tables.specs.Layout.{facts_in, rules_in, program_in, WellFormed}
use Rattle.tables.proofs.ProgramHeld.{rules-held}

pub empty_well_formed : (T : List ℕ) → facts_in T ≡ 0 → rules_in T ≡ 0 → WellFormed T
empty_well_formed T f r =
    record {
      facts_few = rw f (omega arith);
      rules_few = rw r (omega arith);
      premise_spans = record { low = λ i h. absurd (omega (arith, r)); high = λ i h. absurd (omega (arith, r)) };
      constraint_spans = record { low = λ i h. absurd (omega (arith, r)); high = λ i h. absurd (omega (arith, r)) };
      in_bounds = record { conclusion_below = λ i h. absurd (none i h); premises_below = λ i h. absurd (none i h); constraints_below = λ i h. absurd (none i h) };
      marks_withheld = λ i h. absurd (omega (arith, r));
    }
  where
    none : (i : ℕ) → i < count (program_in T) → ⊥
    none i h = omega (arith, h, rules-held T, r)
