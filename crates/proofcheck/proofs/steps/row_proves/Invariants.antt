-- `row_proves`: what is to come decides.
use Prim.Native.Nat.{◌-◌}
use mathlib.Core.Path.{◌≡◌}
use lib.ListN.{length}
use Rattle.cursors.specs.declared.cursor.Row.TheVariants.{Steps}
use Rattle.items.specs.Item.{has}
use Rattle.reader.specs.Questions.{program_of}
use Rattle.questions.specs.Questions.{row_of}
use Rattle.questions.proofs.Rows.{steps_from}
use Rattle.proofcheck.proofs.RowWalked.{Walking}
use Rattle.proofcheck.proofs.steps.row_proves.Given as goal

abbrev pub invariant-loop-item : goal.invariant-loop-item
invariant-loop-item l = (l.cursor.row ≡ Steps) × Walking (program_of l.file) (has l.set) l.fact.0 (row_of l.proof) l.marks l.ends (steps_from l.proof l.cursor)

abbrev pub decreases-loop-item : goal.decreases-loop-item
decreases-loop-item l = length l.proof - l.cursor.at
