-- `find_between`: no guess before the block fits, and beside the row every lane holds out what is held out at the base.
use native.Mathlib.Omega.{arith}
use mathlib.Core.Path.{refl}
use Rattle.tables.proofs.ProgramHeld.{facts_below}
use Rattle.bits.specs.Matrix.{matrix_words}
use Rattle.premises.proofs.NextIndexed.{zeros_blank}
use Rattle.guessing.proofs.GuessDerived.{row-facts}
use Rattle.blocks.proofs.BlockGuesses.{block_beside, block_passed, block_found}
use Rattle.blocks.proofs.find.find_between.Goals as goal

pub index_row-requires : goal.index_row-requires
index_row-requires c = (c.order_rules-names.ensures.in_order.listed, zeros_blank matrix_words (omega arith) _ refl)

pub hold_block-requires : goal.hold_block-requires
hold_block-requires c = let r = c.requires.row_base in (r.few, row-facts c.args.tables.now.well_formed r, r.to_guess.once, omega (arith, c.requires.end_le_blocks.0))

pub try_block-requires-clause-row_value : goal.try_block-requires-clause-row_value
try_block-requires-clause-row_value c = row-facts c.args.tables.now.well_formed c.requires.row_base

pub returns-in-Some : goal.returns-in-Some
returns-in-Some c = let w = c.args.tables.now.well_formed in
    block_found w.in_bounds (omega (arith, facts_below w)) c.requires.row_base c.loop-block.invariant.0 c.hold_block.ensures c.loop-block.invariant.1 _ c.in-Some.ensures

pub loop-block-preserved : goal.loop-block-preserved
loop-block-preserved c = let w = c.args.tables.now.well_formed in
    (block_beside c.loop-block.invariant.0 c.hold_block.ensures, block_passed w.in_bounds (omega (arith, facts_below w)) c.requires.row_base c.loop-block.invariant.0 c.hold_block.ensures c.loop-block.invariant.1 c.in_default.ensures)
