-- `all_named`: what is to come decides.
use mathlib.Core.Path.{sym, ◌∙◌}
use native.Mathlib.Omega.{arith}
use Rattle.tables.specs.Held.{held}
use Rattle.theory.specs.Rule.{exception}
use Rattle.theory.proofs.ListWalks.{one_fails, one_passes}
use Rattle.theory.proofs.Lists.{range_cons}
use Rattle.tables.proofs.ProgramHeld.{rules-below}
use Rattle.questions.proofs.NamesAsked.{known_unnamed, known_named, not_exception}
use Rattle.naming.proofs.names.all_named.Goals as goal
use Rattle.naming.proofs.names.all_named.Goals.{then-is_exception+else-missed, else-is_exception}

pub overflow_cast-i : goal.overflow_cast-i
overflow_cast-i c = omega (arith, c.rules-rules.ensures, rules-below c.args.tables.now.well_formed)

pub bounds-named-i : goal.bounds-named-i
bounds-named-i c = omega (arith, c.rules-rules.ensures, rules-below c.args.tables.now.well_formed, c.loop-i-test.true)

pub returns-then-missed : goal.returns-then-missed
returns-then-missed c = one_fails c.loop-i.invariant.1 _ _ (range_cons _ _ c.loop-i-test.true)
    (known_unnamed (exception (held c.args.tables.now)) c.args.named.now c.loop-i.i (sym c.is_exception.ensures ∙ c.if-is_exception.true) c.if-missed.true)

pub loop-i-preserved : goal.loop-i-preserved
loop-i-preserved c = (
  omega arith,
  one_passes c.loop-i.invariant.1 _ _ (range_cons _ _ c.loop-i-test.true)
      (elim c.if-is_exception.branch [
        | then-is_exception+else-missed w ↦ known_named (exception (held c.args.tables.now)) c.args.named.now c.loop-i.i w.if-missed.false
        | else-is_exception w ↦ not_exception (exception (held c.args.tables.now)) c.args.named.now c.loop-i.i (sym c.is_exception.ensures ∙ w.if-is_exception.false)
      ]),
)
