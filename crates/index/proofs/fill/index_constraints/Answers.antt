-- `index_constraints`: the constraints before a place are marked.
use Prim.Native.Nat.{◌+◌, ◌*◌, ◌<◌, ◌≤◌}
use mathlib.Core.Path.{◌≡◌, ap, ◌∙◌}
use mathlib.Core.List.{map}
use native.Mathlib.Omega.{arith}
use lib.ListN.{get_or}
use Rattle.std.proofs.lemmas.List.{length-map}
use Rattle.theory.proofs.Lists.{element_below}
use Rattle.bits.specs.Flags.{row_words}
use Rattle.tables.proofs.ProgramHeld.{facts_below, rules-below}
use Rattle.premises.proofs.PremisesEntered.{none_entered, one_new, one_again, all-entered}
use Rattle.index.specs.Literal.{outside, literals}
use Rattle.index.specs.Cells.{marks_from}
use Rattle.index.proofs.MappedElements.{mapped-below, mapped-element, mapped_reversed}
use Rattle.index.proofs.fill.index_constraints.Goals as goal
use Rattle.index.proofs.fill.index_constraints.Goals.{After-wide-literal, then-mark_in, else-mark_in}

-- the constraint read is a fact of the program, and its row stands before the marks
small : (c : After-wide-literal) → outside c.wide-literal.result < literals
small c = omega (arith, c.wide-literal.ensures, element_below _ _ _ c.constraints-constraint-items.ensures.facts_below c.loop-constraint-test.true, facts_below c.args.tables.now.well_formed)

front : (c : After-wide-literal) → outside c.wide-literal.result * row_words + row_words ≤ marks_from
front c = omega (arith, small c)

-- it is the literal at the place
literal : (c : After-wide-literal) → outside c.wide-literal.result ≡ get_or (map outside c.constraints-constraint-items.result.now) c.loop-constraint.constraint-index 0
literal c = ap outside c.wide-literal.ensures ∙ mapped-element _ _ c.loop-constraint-test.true

pub loop-constraint-init : goal.loop-constraint-init
loop-constraint-init c = none_entered _ _ _ _ _

pub mark_in-requires : goal.mark_in-requires
mark_in-requires c = (omega (arith, front (goal.at.mark_in-requires c).After-wide-literal), omega (arith, c.requires, rules-below c.args.tables.now.well_formed))

pub overflow_add-distinct : goal.overflow_add-distinct
overflow_add-distinct c = omega (arith, c.loop-constraint.invariant.few, c.loop-constraint-test.true, c.constraints-constraint-items.ensures.few)

pub loop-constraint-preserved : goal.loop-constraint-preserved
loop-constraint-preserved c =
    let x = (goal.at.loop-constraint-preserved c).After-wide-literal in
    let inside = mapped-below _ _ c.loop-constraint-test.true in
    elim c.if-mark_in.branch [
      | then-mark_in w ↦ rw w.distinct-is (one_new c.loop-constraint.invariant inside _ (literal x) (small x) (front x) _ _ c.mark_in.ensures.by_index c.mark_in.ensures.same_from w.if-mark_in.true)
      | else-mark_in w ↦ rw w.distinct-is (one_again c.loop-constraint.invariant inside _ (literal x) (small x) (front x) _ _ c.mark_in.ensures.by_index c.mark_in.ensures.same_from w.if-mark_in.false)
    ]

pub returns : goal.returns
returns c = let w = c.loop-constraint.invariant in
    let own = c.constraints-constraint-items.ensures in
    record {
      upper_bound = omega (arith, w.few, c.loop-constraint.auto.constraint-index-end, own.few);
      by_index = λ q xs before out e. all-entered w (omega (arith, c.loop-constraint-test.false, length-map c.constraints-constraint-items.result.now outside)) _ (mapped_reversed _ _ own.elements) literals literals q xs before (omega arith) (omega arith) (λ j. out _) e;
      same_from = w.kept;
    }
