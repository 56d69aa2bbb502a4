-- `number_of`: the bytes before the place are digits of the value so far.
use Rattle.words.proofs.DigitsRead.{Reading}
use Rattle.words.proofs.number_of.Given as goal

abbrev pub invariant-loop-byte : goal.invariant-loop-byte
invariant-loop-byte l = Reading l.word l.byte-index l.value
