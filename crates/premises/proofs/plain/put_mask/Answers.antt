-- `put_mask`: the words before one are put.
use Prim.Native.Nat.{◌<◌}
use native.Mathlib.Omega.{arith}
use Rattle.tables.proofs.ProgramHeld.{rules-below}
use Rattle.std.proofs.lemmas.Grind.{div_ceil_times}
use Rattle.bits.specs.Flags.{word_bits, row_words}
use Rattle.premises.proofs.MaskPut.{none_put, one_put, all-put}
use Rattle.premises.proofs.plain.put_mask.Goals as goal
use Rattle.premises.proofs.plain.put_mask.Goals.{In-loop-at}

-- a word that is to be put is one of the row
inside : (c : In-loop-at) → c.loop-at.at < row_words
inside c = omega (arith, c.rules.ensures, rules-below c.args.tables.now.well_formed, c.div_ceil-words.ensures, div_ceil_times c.rules.result word_bits (omega arith))

pub loop-at-init : goal.loop-at-init
loop-at-init c = rw c.requires.1.zeros (none_put _)

pub mask_word-requires : goal.mask_word-requires
mask_word-requires c = inside c

pub bounds-index-at : goal.bounds-index-at
bounds-index-at c = omega (arith, inside (goal.at.bounds-index-at c).In-loop-at)

pub loop-at-preserved : goal.loop-at-preserved
loop-at-preserved c = one_put c.loop-at.invariant (inside (goal.at.loop-at-preserved c).In-loop-at) _ c.mask_word.ensures

pub returns : goal.returns
returns c = all-put c.loop-at.invariant _ c.requires.0 (rules-below c.args.tables.now.well_formed) (omega (arith, c.loop-at-test.false, c.rules.ensures, c.div_ceil-words.ensures, div_ceil_times c.rules.result word_bits (omega arith)))
