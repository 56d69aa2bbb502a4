-- What waits is taken from the stack, one literal after another: a literal told for each that is put there, so what is left to tell and the
-- stack get fewer.
use Prim.Native.Nat.{ℕ, ◌+◌, ◌-◌}
use mathlib.Core.Path.{◌≡◌}
use Rattle.tables.specs.Held.{held}
use Rattle.index.specs.Literal.{outside, literals}
use Rattle.index.specs.Cells.{on_in}
use Rattle.propagation.specs.State.{Between, told, told_count}
use Rattle.propagation.proofs.spread.spread.Given as goal

abbrev pub invariant-loop-top : goal.invariant-loop-top
invariant-loop-top l = Between (held l.tables) (on_in l.index) l.marks l.missing l.stack l.top × ((k : ℕ) → told l.marks (outside k) ≡ told l.initial.marks (outside k))

abbrev pub decreases-loop-top : goal.decreases-loop-top
decreases-loop-top l = (literals + l.top) - told_count l.marks
