-- `mark_own`: the elements to come from here give what all give from the start.
use native.Mathlib.Omega.{arith}
use Rattle.theory.proofs.Lists.{element_below}
use Rattle.tables.proofs.ProgramHeld.{facts_below}
use Rattle.tables.proofs.PartsHeld.{mem-reversed}
use Rattle.marking.proofs.RulesMarked.{none_marked, all-marked, one_marked}
use Rattle.marking.proofs.marks.mark_own.Goals as goal

pub loop-fact-init : goal.loop-fact-init
loop-fact-init c = none_marked _ _ _

-- the element read is a fact of the program
pub bounds-marks-wide : goal.bounds-marks-wide
bounds-marks-wide c = omega
    (arith, c.wide.ensures, element_below _ _ _ c.constraints-fact-items.ensures.facts_below c.loop-fact-test.true, facts_below c.args.tables.now.well_formed)

pub loop-fact-preserved : goal.loop-fact-preserved
loop-fact-preserved c = rw c.wide.ensures (one_marked c.loop-fact.invariant c.loop-fact-test.true)

pub returns : goal.returns
returns c = all-marked c.loop-fact.invariant c.loop-fact-test.false _ (mem-reversed _ c.constraints-fact-items.ensures.elements)
