-- `modulus_of`: the factor is at most 2^32 + 1.
use Rattle.std.proofs.Common.{div-le_self, arith}
use Rattle.generator.proofs.draw.modulus_of.Goals as goal

pub overflow_add-result : goal.overflow_add-result
overflow_add-result c = omega (arith, div-le_self 4294967296 c.args.facts)
