-- `count_set_aside`: those counted and those to come are all that have the mark.
use Prim.Native.Nat.{◌≤◌}
use mathlib.Core.Path.{◌≡◌}
use lib.Dec.{eqb}
use Rattle.tables.specs.Held.{held}
use Rattle.theory.specs.Rule.{mem, count, in_force}
use Rattle.theory.specs.Run.{Stand, rule_mark}
use Rattle.theory.proofs.ListWalks.{Counting}
use Rattle.items.specs.Item.{has}
use Rattle.results.proofs.marks.count_set_aside.Given as goal

abbrev pub invariant-loop-i : goal.invariant-loop-i
invariant-loop-i l = (l.n ≤ l.i) × ((s : Stand) → has l.applied ≡ (λ j. mem j s.applied) → has l.derived ≡ s.derived → Counting (λ j. eqb (rule_mark (held l.tables) (in_force (held l.tables)) s j) 2) (count (held l.tables)) l.n l.i)
