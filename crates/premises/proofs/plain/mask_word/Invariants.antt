-- `mask_word`: the bits before one are those of the mask.
use Prim.Native.Nat.{◌*◌}
use Rattle.bits.specs.Flags.{word_bits}
use Rattle.premises.proofs.MaskPut.{WordPut}
use Rattle.premises.proofs.plain.mask_word.Given as goal

abbrev pub invariant-loop-bit : goal.invariant-loop-bit
invariant-loop-bit l = WordPut l.mask (l.at * word_bits) l.bit l.word
