-- `mark_plain`: the plain rules passed are marked.
use Prim.Native.Nat.{◌≤◌}
use Rattle.tables.specs.Held.{held}
use Rattle.theory.specs.Rule.{in_force, plain_rules}
use Rattle.marking.proofs.RulesMarked.{Painting}
use Rattle.marking.proofs.marks.mark_plain.Given as goal

abbrev pub invariant-loop-i : goal.invariant-loop-i
invariant-loop-i l = (l.i ≤ l.i-end) × Painting (plain_rules (held l.tables) (in_force (held l.tables))) l.initial.marks l.marks l.i
