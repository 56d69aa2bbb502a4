-- `fact_of`: the product has the quotient above 2^32, and what is left is the remainder.
use Rattle.std.proofs.Common.{arith}
use Rattle.generator.proofs.Quotients.{product_fits, quotient_small, back_below, takes, takes_below}
use Rattle.generator.proofs.draw.fact_of.Goals as goal

pub overflow_mul-quotient : goal.overflow_mul-quotient
overflow_mul-quotient c = omega (arith, product_fits c.args.state c.args.by (omega arith) c.requires)

pub overflow_cast-quotient-2 : goal.overflow_cast-quotient-2
overflow_cast-quotient-2 c = omega (arith, quotient_small c.args.state c.args.by (omega arith) c.requires)

pub overflow_mul-result : goal.overflow_mul-result
overflow_mul-result c = omega (arith, back_below c.args.state c.args.by (omega arith) c.requires)

pub overflow_sub-result : goal.overflow_sub-result
overflow_sub-result c = back_below c.args.state c.args.by (omega arith) c.requires

pub returns : goal.returns
returns c = (takes c.args.state c.args.by (omega arith) c.requires, takes_below c.args.state c.args.by (omega arith) c.requires)
