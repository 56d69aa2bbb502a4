-- `Kind::of_byte`: a byte of none of the kinds has no body.
use Rattle.std.proofs.Common.{arith}
use Rattle.items.proofs.Bodies.{unknown}
use Rattle.items.proofs.item.Kind.of_byte.Goals as goal

pub returns-in_default-clause-other : goal.returns-in_default-clause-other
returns-in_default-clause-other c = λ _. grind (arith, unknown)

pub returns-in_default-byte-clause-other : goal.returns-in_default-byte-clause-other
returns-in_default-byte-clause-other c = λ _. grind (arith, unknown)
