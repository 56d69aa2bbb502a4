-- `mark_constraint_facts`: the rules to come from here give what all give from the start.
use Prim.Native.Nat.{◌<◌}
use mathlib.Core.Path.{◌≡◌, sym, ◌∙◌}
use mathlib.Core.Bool.{Bool}
use native.Mathlib.Omega.{arith}
use Rattle.tables.specs.Held.{held}
use Rattle.tables.proofs.ProgramHeld.{rules-below}
use Rattle.theory.specs.Rule.{count, withheld}
use Rattle.theory.proofs.Withheld.{withheld-off, read_on}
use Rattle.marking.proofs.RulesMarked.{no-rule_marked, rules_marked, rule-marked, rule-passed}
use Rattle.marking.proofs.marks.mark_constraint_facts.Goals as goal
use Rattle.marking.proofs.marks.mark_constraint_facts.Goals.{After-is_withheld, In-loop-i, then-not-is_withheld, else-not-is_withheld}

pub loop-i-init : goal.loop-i-init
loop-i-init c = (c.rules-i-end.ensures, no-rule_marked _ _)

pub overflow_cast-rule : goal.overflow_cast-rule
overflow_cast-rule c = omega (arith, c.loop-i.invariant.0, rules-below c.args.tables.now.well_formed)

-- whether the rule is in force
kind : (c : After-is_withheld) (b : Bool) → c.is_withheld.result ≡ b → withheld (held c.args.tables.now) c.loop-i.i ≡ b
kind c b q = sym c.is_withheld.ensures ∙ q

known : (c : In-loop-i) → c.loop-i.i < count (held c.args.tables.now)
known c = omega (arith, c.loop-i.invariant.0, c.loop-i-test.true)

pub loop-i-preserved : goal.loop-i-preserved
loop-i-preserved c = let w = c.loop-i.invariant.1 in (
  c.loop-i.invariant.0,
  elim c.if-not-is_withheld.branch [
    | then-not-is_withheld t ↦ rw t.marks-is (rule-marked w (known (goal.at.loop-i-preserved c).In-loop-i) (read_on _ _ (kind (goal.at.loop-i-preserved c).After-is_withheld _ t.if-not-is_withheld.true)) _ t.mark_own.ensures)
    | else-not-is_withheld t ↦ rw t.marks-is (rule-passed w (known (goal.at.loop-i-preserved c).In-loop-i) (withheld-off _ _ (kind (goal.at.loop-i-preserved c).After-is_withheld _ t.if-not-is_withheld.false)))
  ],
)

pub returns : goal.returns
returns c = rules_marked c.loop-i.invariant.1 (omega (arith, c.loop-i.invariant.0, c.loop-i-test.false))
