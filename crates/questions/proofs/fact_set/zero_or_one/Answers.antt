-- `zero_or_one`: each byte is tested.
use Prim.Native.Nat.{◌≤◌, ◌<◌}
use borrow.Author.Rules.{rules}
use borrow.Author.Tests.{tests}
use Rattle.std.proofs.lemmas.Iterator.{cases_from_all, YieldsList-from_slice}
use Rattle.questions.proofs.Sets.{bytes_tested}
use Rattle.questions.proofs.fact_set.zero_or_one.Goals as goal

pub returns : goal.returns
returns c =
    bytes_tested _ _
    (cases_from_all _ _ _ (λ x. x ≤ 1) (λ x. 1 < x) c.all.ensures.ran (YieldsList-from_slice c.args.set.now (cc)) (λ x q k. search (rules, tests)) (λ x q k. search (rules, tests)))
