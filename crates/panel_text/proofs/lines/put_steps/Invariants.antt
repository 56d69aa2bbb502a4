-- `put_steps`: the lines of the steps before the cursor are written.
use Prim.Native.Nat.{◌-◌}
use mathlib.Core.Path.{◌≡◌}
use lib.ListN.{length}
use Rattle.cursors.specs.declared.cursor.Row.TheVariants.{Steps}
use Rattle.panel_text.proofs.StepLines.{Stepping}
use Rattle.panel_text.proofs.lines.put_steps.Given as goal

abbrev pub invariant-loop-item : goal.invariant-loop-item
invariant-loop-item l = (l.cursor.row ≡ Steps) × Stepping l.row l.from l.initial.out l.cursor l.at l.out

abbrev pub decreases-loop-item : goal.decreases-loop-item
decreases-loop-item l = length l.row - l.cursor.at
