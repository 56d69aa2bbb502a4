-- `write_rule_marks`: the marks of the rules passed are written.
use Prim.Native.Nat.{ℕ, ◌<◌}
use mathlib.Core.Path.{refl, ap, ◌∙◌}
use mathlib.Core.Bool.{Bool}
use native.Mathlib.Omega.{arith}
use lib.ListN.{length-set}
use Rattle.tables.specs.Held.{held}
use Rattle.theory.specs.Rule.{count}
use Rattle.items.specs.Item.{has}
use Rattle.tables.proofs.ProgramHeld.{in_table}
use Rattle.results.proofs.MarksWritten.{none_written, one_written, all-written}
use Rattle.results.proofs.marks.write_rule_marks.Goals as goal
use Rattle.results.proofs.marks.write_rule_marks.Goals.{In-loop-i}

-- the rule looked at is one of the program
inside : (c : In-loop-i) → c.loop-i.i < count (held c.args.tables.now)
inside c = omega (arith, c.loop-i-test.true, c.rules-rules.ensures)

pub loop-i-init : goal.loop-i-init
loop-i-init c = (refl, λ s a d. none_written _ _ _)

pub overflow_cast-i : goal.overflow_cast-i
overflow_cast-i c = omega (arith, in_table c.args.tables.now.well_formed (inside c))

pub bounds-applied-i : goal.bounds-applied-i
bounds-applied-i c = in_table c.args.tables.now.well_formed (inside (goal.at.bounds-applied-i c).In-loop-i)

pub rule_mark-requires : goal.rule_mark-requires
rule_mark-requires c = record {
  rule_known = inside (goal.at.rule_mark-requires c).In-loop-i;
  tables_in_bounds = c.requires.tables_in_bounds;
}

pub bounds-out-i : goal.bounds-out-i
bounds-out-i c = omega (arith, inside (goal.at.bounds-out-i c).In-loop-i, c.loop-i.invariant.0, c.requires.tables_in_bounds_2)

pub loop-i-preserved : goal.loop-i-preserved
unfolding has
loop-i-preserved c = (
  length-set c.loop-i.out _ _ ∙ c.loop-i.invariant.0,
  λ s a d. one_written _ _ _ _ _ (c.loop-i.invariant.1 s a d) c.requires.tables_in_bounds_2 (inside (goal.at.loop-i-preserved c).In-loop-i) _ (c.number.ensures ∙ c.rule_mark.ensures s (ap (λ (A : ℕ → Bool). A c.loop-i.i) a) d),
)

pub shape_of-out : goal.shape_of-out
shape_of-out c = c.loop-i.invariant.0

pub returns : goal.returns
returns c = λ s a d. all-written _ _ _ _ _ (c.loop-i.invariant.1 s a d) (omega (arith, c.loop-i-test.false, c.rules-rules.ensures))
