-- `mask_word`: the bits before one are those of the mask.
use Prim.Native.Nat.{ℕ, ◌+◌, ◌*◌, ◌<◌}
use native.Mathlib.Omega.{arith}
use mathlib.Core.List.{List}
use mathlib.Core.Path.{◌≡◌, sym, ◌∙◌}
use borrow.Author.Tests.{eq-eqb, ne_eqb}
use lib.ListN.{length, get_or}
use Rattle.std.proofs.lemmas.List.Edits.{length-between, get_or-between}
use Rattle.std.specs.List.{between}
use Rattle.items.specs.Item.{max_rules, has}
use Rattle.bits.specs.Flags.{word_bits, row_words}
use Rattle.premises.proofs.MaskPut.{no-bit, one_bit, bit-off, word-put}
use Rattle.premises.proofs.plain.mask_word.Goals as goal
use Rattle.premises.proofs.plain.mask_word.Goals.{then-mark-eq1, else-mark-eq1}

-- the bits of a word of the mask
module _ (mask : List ℕ) (at : ℕ) (places : length mask ≡ max_rules) (inside : at < row_words) where
  bits_there : length (between (at * word_bits) (at * word_bits + word_bits) mask) ≡ word_bits
  bits_there = omega (arith, length-between mask (at * word_bits) (at * word_bits + word_bits) (omega arith))

  mark_is : (bit : ℕ) → bit < word_bits → get_or (between (at * word_bits) (at * word_bits + word_bits) mask) bit 0 ≡ get_or mask (at * word_bits + bit) 0
  mark_is bit h = get_or-between mask (at * word_bits) (at * word_bits + word_bits) bit 0 (omega arith)

pub loop-bit-init : goal.loop-bit-init
loop-bit-init c = no-bit _ _

pub loop-bit-preserved : goal.loop-bit-preserved
unfolding has
loop-bit-preserved c =
    let inside : c.loop-bit.bit < word_bits = omega (arith, bits_there c.args.mask.now c.args.at c.told-mask c.requires) in
    let same = mark_is c.args.mask.now c.args.at c.told-mask c.requires c.loop-bit.bit inside in
    elim c.if-mark-eq1.branch [
      | then-mark-eq1 w ↦ rw w.word-is (one_bit c.loop-bit.invariant inside (eq-eqb _ _ (sym same ∙ w.if-mark-eq1.true)) _ w.with_bit-word.ensures)
      | else-mark-eq1 w ↦ rw w.word-is (bit-off c.loop-bit.invariant (ne_eqb _ _ (λ e. w.if-mark-eq1.false (same ∙ e))))
    ]

pub returns : goal.returns
returns c = word-put c.loop-bit.invariant (omega (arith, bits_there c.args.mask.now c.args.at c.told-mask c.requires))
