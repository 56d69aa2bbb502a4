-- `replay::read::number` is safe: a byte has room to spare.
use Prim.Native.Nat.{◌+◌}
use native.Mathlib.Omega.{arith}
use Rattle.replay.proofs.read.number.Goals as goal

pub overflow_cast-result : goal.overflow_cast-result
overflow_cast-result c = omega (arith, c.type_inv.bytes c.args.at)

pub overflow_cast-result-then-bytes-at-gt1 : goal.overflow_cast-result-then-bytes-at-gt1
overflow_cast-result-then-bytes-at-gt1 c = omega (arith, c.type_inv.bytes (c.args.at + 1))
