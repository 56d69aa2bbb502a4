-- `put_number`: one digit, or the digits of the tenth and then the last.
use native.Mathlib.Omega.{arith}
use Rattle.questions.proofs.BytesPut.{begun, next_fits, one_put}
use Rattle.panel_lines.proofs.Decimal.{one_digit, more-digits}
use Rattle.panel_lines.proofs.put.+put_number.Goals as goal

pub put-requires : goal.put-requires
put-requires t c = rw (one_digit c.args.n c.if-n-lt10.true) at c.requires

pub put_number-last-requires : goal.put_number-last-requires
put_number-last-requires t c = (omega arith, next_fits (begun _ _ _ c.requires) _ _ (more-digits _ c.if-n-lt10.false))

pub put-requires-else-n-lt10 : goal.put-requires-else-n-lt10
put-requires-else-n-lt10 t c = (one_put (begun _ _ _ c.requires) _ _ (more-digits _ c.if-n-lt10.false) _ _ c.put_number-last.ensures).fits

pub returns-then-n-lt10 : goal.returns-then-n-lt10
returns-then-n-lt10 t c = rw (one_digit _ c.if-n-lt10.true) c.put.ensures

pub returns-else-n-lt10 : goal.returns-else-n-lt10
returns-else-n-lt10 t c = (one_put (begun _ _ _ c.requires) _ _ (more-digits _ c.if-n-lt10.false) _ _ c.put_number-last.ensures).finish _ _ c.put-else-n-lt10.ensures
