-- `enter`: the words to come from here give what the row gives from the start.
use Prim.Native.Nat.{◌+◌, ◌*◌}
use mathlib.Core.Path.{◌∙◌}
use native.Mathlib.Omega.{arith}
use Rattle.std.proofs.lemmas.List.Edits.{length-between, get_or-between}
use Rattle.bits.specs.Flags.{row_words}
use Rattle.premises.proofs.CountsLowered.{next_word, row-lowered}
use Rattle.premises.proofs.wake.enter.Goals as goal

pub loop-at-preserved : goal.loop-at-preserved
loop-at-preserved c =
    next_word c.loop-at.invariant (omega (arith, length-between c.args.asks.now (c.args.fact * row_words) (c.args.fact * row_words + row_words) c.requires))
    (λ p w e. c.lower.ensures p w (get_or-between c.args.asks.now (c.args.fact * row_words) (c.args.fact * row_words + row_words) c.loop-at.at 0 (omega (arith, length-between c.args.asks.now (c.args.fact * row_words) (c.args.fact * row_words + row_words) c.requires)) ∙ e))

pub returns : goal.returns
returns c = row-lowered c.loop-at.invariant (omega (arith, length-between c.args.asks.now (c.args.fact * row_words) (c.args.fact * row_words + row_words) c.requires))
