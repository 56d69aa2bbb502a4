-- `index_rule`: the premises before a place are marked, and the last of them is known.
use Prim.Native.Nat.{◌+◌, ◌*◌, ◌<◌, ◌≤◌}
use mathlib.Core.Path.{ap}
use mathlib.Core.List.{[]}
use Rattle.theory.specs.Rule.{mem}
use Rattle.theory.proofs.Lists.{element_below}
use native.Mathlib.Omega.{arith}
use Rattle.tables.specs.Held.{held}
use Rattle.tables.proofs.ProgramHeld.{facts_below}
use Rattle.bits.specs.Flags.{row_words}
use Rattle.bits.specs.Matrix.{matrix_words}
use Rattle.premises.proofs.PremisesEntered.{none_entered, passed_in, one_repeated, one_new, one_again, all-entered, first-entered}
use Rattle.premises.proofs.fill.index_rule.Goals as goal
use Rattle.premises.proofs.fill.index_rule.Goals.{After-wide-fact, then-mark_in, else-mark_in}

-- the premise read is a fact of the program
small : (c : After-wide-fact) → c.wide-fact.result < (held c.args.tables.now).facts
small c = omega (arith, c.wide-fact.ensures, element_below _ _ _ c.premises-premise-items.ensures.facts_below c.loop-premise-test.true)

-- so its row lies in the matrix
front : (c : After-wide-fact) → c.wide-fact.result * row_words + row_words ≤ matrix_words
front c = omega (arith, small c, facts_below c.args.tables.now.well_formed)

pub loop-premise-init : goal.loop-premise-init
loop-premise-init c = (none_entered _ _ _ _ _, λ h. absurd (omega (arith, facts_below c.args.tables.now.well_formed)))

pub loop-premise-preserved-then-fact-last : goal.loop-premise-preserved-then-fact-last
loop-premise-preserved-then-fact-last c = let w = c.loop-premise.invariant in let same = c.if-fact-last.true in let x-is = c.wide-fact.ensures in (one_repeated w.0 c.loop-premise-test.true _ x-is (rw same (w.1 (omega (arith, small (goal.at.loop-premise-preserved-then-fact-last c).After-wide-fact, c.if-fact-last.true)))), λ h. rw same at (passed_in w.0 c.loop-premise-test.true _ x-is))

pub mark_in-requires : goal.mark_in-requires
mark_in-requires c = (omega (arith, front (goal.at.mark_in-requires c).After-wide-fact, c.loop-premise.invariant.0.kept.places, c.requires.2), c.requires.1)

pub overflow_add-distinct : goal.overflow_add-distinct
overflow_add-distinct c = omega (arith, c.loop-premise.invariant.0.few, c.loop-premise-test.true, c.premises-premise-items.ensures.few)

pub loop-premise-preserved : goal.loop-premise-preserved
loop-premise-preserved c =
    let x-is = c.wide-fact.ensures in
    let low = small (goal.at.loop-premise-preserved c).After-wide-fact in
    let row = front (goal.at.loop-premise-preserved c).After-wide-fact in (
      elim c.if-mark_in.branch [
        | then-mark_in t ↦ rw t.distinct-is (one_new c.loop-premise.invariant.0 c.loop-premise-test.true _ x-is low row _ _ c.mark_in.ensures.by_index c.mark_in.ensures.same_from t.if-mark_in.true)
        | else-mark_in t ↦ rw t.distinct-is (one_again c.loop-premise.invariant.0 c.loop-premise-test.true _ x-is low row _ _ c.mark_in.ensures.by_index c.mark_in.ensures.same_from t.if-mark_in.false)
      ],
      λ h. passed_in c.loop-premise.invariant.0 c.loop-premise-test.true _ x-is,
    )

pub shape_of-asks : goal.shape_of-asks
shape_of-asks c = c.loop-premise.invariant.0.kept.places

pub returns : goal.returns
returns c = let w = c.loop-premise.invariant.0 in let own = c.premises-premise-items.ensures in
    record {
      upper_bound = omega (arith, w.few, c.loop-premise.auto.premise-index-end, own.few);
      by_index = λ keys bound q b k m out. first-entered m (all-entered w c.loop-premise-test.false _ (λ f. ap (mem f) own.elements) keys bound q [] 0 b k (λ j. out _));
      same_from = w.kept;
    }
