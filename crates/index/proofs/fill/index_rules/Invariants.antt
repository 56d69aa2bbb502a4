-- `index_rules`: the rules before a place are in the rows of their literals.
use Prim.Native.Nat.{◌≤◌}
use mathlib.Core.Path.{◌≡◌}
use Rattle.tables.specs.Held.{held}
use Rattle.theory.specs.Rule.{count}
use Rattle.items.specs.Item.{max_rules}
use Rattle.index.specs.Index.{in_force_but}
use Rattle.index.proofs.RulesIndexed.{Indexing}
use Rattle.index.proofs.fill.index_rules.Given as goal

abbrev pub invariant-loop-i : goal.invariant-loop-i
invariant-loop-i l = record {
  end_is : l.i-end ≡ count (held l.tables);
  few : l.i-end ≤ max_rules;
  passed : Indexing (held l.tables) (in_force_but (held l.tables) l.off) l.index l.missing l.i;
}
