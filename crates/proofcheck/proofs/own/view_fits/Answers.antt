-- `view_fits`: an item decides the rule, or what is left of the view does.
use mathlib.Core.Path.{sym, ◌∙◌}
use Rattle.proofcheck.proofs.ItemAsked.{all_fit, may_ask, decided, goes_on}
use Rattle.proofcheck.proofs.own.view_fits.Goals as goal

pub ask_item-requires : goal.ask_item-requires
ask_item-requires c = may_ask c.loop-taken.invariant _ (sym c.in-Some.is ∙ c.next_item.ensures)

pub returns-then-not-ask_item : goal.returns-then-not-ask_item
returns-then-not-ask_item c = decided c.loop-taken.invariant _ (sym c.in-Some.is ∙ c.next_item.ensures) c.ask_item.ensures c.if-not-ask_item.true

pub loop-taken-smaller : goal.loop-taken-smaller
loop-taken-smaller c = (goes_on c.loop-taken.invariant _ (sym c.in-Some.is ∙ c.next_item.ensures) c.ask_item.ensures c.if-not-ask_item.false).1

pub loop-taken-preserved : goal.loop-taken-preserved
loop-taken-preserved c = (goes_on c.loop-taken.invariant _ (sym c.in-Some.is ∙ c.next_item.ensures) c.ask_item.ensures c.if-not-ask_item.false).0

pub returns : goal.returns
returns c = all_fit c.loop-taken.invariant (sym c.in_default.is ∙ c.next_item.ensures)
