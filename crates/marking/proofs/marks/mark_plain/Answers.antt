-- `mark_plain`: the plain rules passed are marked.
use mathlib.Core.Path.{◌≡◌, sym, ap, ◌∙◌}
use mathlib.Core.Bool.{Bool, not}
use native.Mathlib.Omega.{arith}
use Rattle.tables.specs.Held.{held}
use Rattle.theory.specs.Rule.{in_force, plain_rules}
use Rattle.tables.proofs.ProgramHeld.{rules-below}
use Rattle.marking.proofs.RulesMarked.{none_painted, one_painted, not-painted, all-painted, plain_at, plain_known}
use Rattle.marking.proofs.marks.mark_plain.Goals as goal
use Rattle.marking.proofs.marks.mark_plain.Goals.{After-is_exception, then-not-is_exception, else-not-is_exception}

-- whether the rule is plain
kind : (c : After-is_exception) (b : Bool) → c.is_exception.result ≡ b → plain_rules (held c.args.tables.now) (in_force (held c.args.tables.now)) c.loop-i.i ≡ not b
kind c b q = plain_at _ _ (omega (arith, c.rules-i-end.ensures, c.loop-i-test.true)) ∙ ap not (sym c.is_exception.ensures ∙ q)

pub loop-i-init : goal.loop-i-init
loop-i-init c = (omega arith, none_painted _ _)

pub overflow_cast-i : goal.overflow_cast-i
overflow_cast-i c = omega (arith, c.rules-i-end.ensures, rules-below c.args.tables.now.well_formed)

pub bounds-marks-i : goal.bounds-marks-i
bounds-marks-i c = omega (arith, c.rules-i-end.ensures, rules-below c.args.tables.now.well_formed)

pub loop-i-preserved : goal.loop-i-preserved
loop-i-preserved c = let w = c.loop-i.invariant.1 in (
  omega arith,
  elim c.if-not-is_exception.branch [
    | then-not-is_exception t ↦ rw t.marks-is (one_painted _ _ _ _ w (kind (goal.at.loop-i-preserved c).After-is_exception _ t.if-not-is_exception.true))
    | else-not-is_exception t ↦ rw t.marks-is (not-painted _ _ _ _ w (kind (goal.at.loop-i-preserved c).After-is_exception _ t.if-not-is_exception.false))
  ],
)

pub returns : goal.returns
returns c = all-painted _ _ _ _ c.loop-i.invariant.1 (λ i t. omega (arith, plain_known _ i t, c.rules-i-end.ensures, c.loop-i-test.false))
