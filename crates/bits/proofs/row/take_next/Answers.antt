-- `take_next`: a bit of the word at the place, of a word after it, or of any word is cleared.
use Rattle.bits.proofs.RowTaken.{behind-falls}
use Rattle.bits.proofs.RowPicked.{upper_taken, first_taken, behind-some, behind-none}
use Rattle.bits.proofs.row.take_next.Goals as goal

pub returns-then-upper-ne0 : goal.returns-then-upper-ne0
returns-then-upper-ne0 c = let t = upper_taken _ c.if-at-lt-ROW_WORDS.true _ _ _ _ c.bits_from-upper.ensures c.lowest_bit-bit.ensures.0 c.lowest_bit-bit.ensures.1 c.without_bit.ensures in record { falls = t.0; by_index = t.1 }

pub returns-in-None-clause-by_index : goal.returns-in-None-clause-by_index
returns-in-None-clause-by_index c = behind-none _ _ _ _ c.take_behind.ensures c.in-None.is (first_taken c.take.ensures.falls c.take.ensures.by_index).1

pub returns-in_default-clause-falls : goal.returns-in_default-clause-falls
returns-in_default-clause-falls c = behind-falls _ _ _ _ c.take_behind.ensures

pub returns-in_default-clause-by_index : goal.returns-in_default-clause-by_index
returns-in_default-clause-by_index c = behind-some _ _ _ _ c.take_behind.ensures c.in_default.not-None
