-- `write_rule_marks`: the marks of the rules passed are written.
use mathlib.Core.Path.{◌≡◌}
use lib.ListN.{length}
use Rattle.tables.specs.Held.{held}
use Rattle.theory.specs.Rule.{mem, count, in_force}
use Rattle.theory.specs.Run.{Stand, rule_mark}
use Rattle.items.specs.Item.{has}
use Rattle.results.proofs.MarksWritten.{Marking}
use Rattle.results.proofs.marks.write_rule_marks.Given as goal

abbrev pub invariant-loop-i : goal.invariant-loop-i
invariant-loop-i l = (length l.out ≡ length l.initial.out) × ((s : Stand) → has l.applied ≡ (λ j. mem j s.applied) → has l.derived ≡ s.derived → Marking (rule_mark (held l.tables) (in_force (held l.tables)) s) (count (held l.tables)) l.initial.out l.out l.i)
