-- `choose_tabled`: by the two counts; behind a first order that sets nothing aside by one.
use native.Mathlib.Omega.{arith}
use Rattle.better.proofs.Chosen.{first-preferred, second-preferred}
use Rattle.better.proofs.aside.choose_tabled.Goals as goal

pub returns-then-aside-eq0 : goal.returns-then-aside-eq0
returns-then-aside-eq0 c = first-preferred _ _ (omega (arith, c.if-aside-eq0.true, c.aside_under-aside.ensures))

pub returns-then-aside_under-aside : goal.returns-then-aside_under-aside
returns-then-aside_under-aside c = second-preferred _ _ (omega (arith, c.if-aside_under-aside.true, c.aside_under.ensures, c.aside_under-aside.ensures))

pub returns-else-aside_under-aside : goal.returns-else-aside_under-aside
returns-else-aside_under-aside c = first-preferred _ _ (omega (arith, c.if-aside_under-aside.false, c.aside_under.ensures, c.aside_under-aside.ensures))
