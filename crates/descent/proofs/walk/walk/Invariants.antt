-- `walk`: between two walks no fact is open, and all facts passed were met.
use Prim.Native.Nat.{ℕ, ◌<◌}
use mathlib.Core.Path.{◌≡◌}
use Rattle.tables.specs.Held.{held}
use Rattle.components.specs.Open.{unmet, seen_of}
use Rattle.descent.specs.Standing.{WalkRests}
use Rattle.descent.proofs.walk.walk.Given as goal

abbrev pub invariant-loop-f : goal.invariant-loop-f
invariant-loop-f l = WalkRests (held l.tables) l.next l.walker × ((g : ℕ) → g < l.f → seen_of l.walker.seen g ≡ unmet → ⊥)
