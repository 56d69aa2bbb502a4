-- `scan_rules`: verdict, tables and counts along the items.
use Prim.Native.Nat.{◌-◌}
use mathlib.Core.Path.{◌≡◌}
use lib.ListN.{length}
use Rattle.items.specs.declared.item.Item.{Item}
use Rattle.cursors.specs.declared.cursor.Cursor.{Cursor}
use Rattle.cursors.specs.declared.cursor.Read.TheVariants.{Found}
use Rattle.cursors.specs.Cursor.{next_at}
use Rattle.reader.specs.Scanning.{Scanning, unopened, Late}
use Rattle.reader.proofs.scan.scan_rules.Given as goal

abbrev pub invariant-loop-r : goal.invariant-loop-r
invariant-loop-r l = ((c₀ : Cursor) → Scanning l.facts l.file c₀ l.initial.cells l.initial.marks l.initial.cursor unopened → Scanning l.facts l.file c₀ l.cells l.marks l.cursor l.progress)
    × ((i : Item) (d : Cursor) → next_at l.file l.cursor ≡ Found i d → Late l.facts i l.progress)

abbrev pub decreases-loop-r : goal.decreases-loop-r
decreases-loop-r l = length l.file - l.cursor.at
