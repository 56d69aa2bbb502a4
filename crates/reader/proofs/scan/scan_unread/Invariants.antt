-- `scan_unread`: what was read up to the cursor are unread facts, and they are taken.
use Prim.Native.Nat.{◌-◌}
use lib.ListN.{length}
use Rattle.reader.specs.Scanning.{Scanning, unopened}
use Rattle.reader.proofs.scan.scan_unread.Given as goal

abbrev pub invariant-loop-f : goal.invariant-loop-f
invariant-loop-f l = Scanning l.facts l.file l.initial.cursor l.cells l.marks l.cursor unopened

abbrev pub decreases-loop-f : goal.decreases-loop-f
decreases-loop-f l = length l.file - l.cursor.at
