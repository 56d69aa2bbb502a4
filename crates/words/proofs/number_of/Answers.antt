-- `number_of`: the bytes before the place are digits of the value so far.
use Rattle.std.proofs.Common.{sym}
use borrow.Author.Tests.{eqb-true}
use Rattle.words.proofs.DigitsRead.{empty-word, long_word, low_byte, high_byte, too_high, all_read}
use Rattle.words.proofs.number_of.Goals as goal
use Rattle.words.proofs.number_of.Goals.{then-is_empty-via-then-is_empty, then-is_empty-via-else-is_empty+then-word-gt-LONGEST_NUMBER, then-byte-lt48-via-then-byte-lt48, then-byte-lt48-via-else-byte-lt48+then-above}

pub returns-then-is_empty : goal.returns-then-is_empty
returns-then-is_empty c = elim c.then-is_empty.branch [
  | then-is_empty-via-then-is_empty w ↦ empty-word _ (eqb-true _ 0 (sym w.if-is_empty.ensures))
  | then-is_empty-via-else-is_empty+then-word-gt-LONGEST_NUMBER w ↦ long_word _ w.if-word-gt-LONGEST_NUMBER.true
]

pub returns-then-byte-lt48 : goal.returns-then-byte-lt48
returns-then-byte-lt48 c = elim c.then-byte-lt48.branch [
  | then-byte-lt48-via-then-byte-lt48 w ↦ low_byte _ _ _ c.loop-byte.invariant c.loop-byte-test.true w.if-byte-lt48.true
  | then-byte-lt48-via-else-byte-lt48+then-above w ↦ high_byte _ _ _ c.loop-byte.invariant c.loop-byte-test.true w.if-above.true
]

pub returns-then-value-gt-MOST_VALUE : goal.returns-then-value-gt-MOST_VALUE
returns-then-value-gt-MOST_VALUE c = too_high _ _ _ c.loop-byte.invariant c.loop-byte-test.false c.if-value-gt-MOST_VALUE.true

pub returns : goal.returns
returns c = all_read _ _ _ c.loop-byte.invariant c.loop-byte-test.false c.if-value-gt-MOST_VALUE.false
