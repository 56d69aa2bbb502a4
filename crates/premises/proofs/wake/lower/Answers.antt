-- `lower`: the bits to come from here give what all give from the start.
use native.Mathlib.Omega.{arith}
use Rattle.premises.proofs.CountsLowered.{word-whole, place_lowered, one_wakes, one_sleeps, word-lowered}
use Rattle.premises.proofs.wake.lower.Goals as goal

pub loop-left-init : goal.loop-left-init
loop-left-init c = word-whole _ _ _ _

pub loop-left-preserved-then-ripe : goal.loop-left-preserved-then-ripe
loop-left-preserved-then-ripe c = place_lowered c.loop-left.invariant (omega (arith, c.loop-left-test.true)) _ _ (omega (arith, c.lowest_bit.ensures.0)) c.without_lowest-left.ensures (λ w f l. one_wakes _ f l _ _ (omega (arith, c.lowest_bit.ensures.1, c.requires)) c.one_less-lacked.ensures c.mark.ensures c.if-ripe.true)

pub loop-left-preserved : goal.loop-left-preserved
loop-left-preserved c = place_lowered c.loop-left.invariant (omega (arith, c.loop-left-test.true)) _ _ (omega (arith, c.lowest_bit.ensures.0)) c.without_lowest-left.ensures (λ w f l. one_sleeps _ f l _ _ (omega (arith, c.lowest_bit.ensures.1, c.requires)) c.one_less-lacked.ensures c.if-ripe.false)

pub returns : goal.returns
returns c = word-lowered c.loop-left.invariant c.loop-left-test.false
