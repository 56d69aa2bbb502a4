-- Internal: what is answered and left once the run has been made.
use Rattle.std.specs.Prelude.{ℕ, cond, List}
use Rattle.theory.specs.Rule.{Program}
use Rattle.theory.specs.Run.{Stand}
use Rattle.items.specs.declared.refusal.Refusal.TheVariants.{NotDerived}
use Rattle.keeping.specs.Outcome.{GroundsOutcome, grounds_written, grounds_refused}

-- The grounds, where the run derived the fact.
unfoldable pub grounds_told : Program → Stand → ℕ → List ℕ → List ℕ → List ℕ → GroundsOutcome
grounds_told P s fact facts rules steps =
    cond (s.derived fact) (grounds_written P s fact facts rules steps) (grounds_refused NotDerived facts rules steps)
