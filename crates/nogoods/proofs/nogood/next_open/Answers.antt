-- `next_open`: the nogood that is found is one of those stored, so a refuted guess takes its whole block along.
use Rattle.std.proofs.Common.{rules, ◌≡◌, Some, arith}
use Rattle.std.specs.Prelude.{⊤}
use Rattle.std.specs.Int.Bits.{bit_and}
use Rattle.std.proofs.lemmas.Iterator.{YieldsList-from_slice, first_from_find}
use Rattle.std.proofs.lemmas.List.Elements.{All-contains}
use borrow.Author.Tests.{tests}
use Rattle.nogoods.specs.declared.nogood.Nogood.{Nogood}
use Rattle.nogoods.specs.Nogoods.{Refutes}
use Rattle.nogoods.proofs.PassedOver.{more-passed}
use Rattle.nogoods.proofs.nogood.next_open.Goals as goal

pub loop-guess-preserved : goal.loop-guess-preserved
loop-guess-preserved c =
    let nogood : Nogood = c.in-Some.nogood.now in
    let found = first_from_find {v = λ y. y.now} c.find.new.self _ (Some c.in-Some.nogood) (λ (n : Nogood). bit_and c.loop-guess.guess n.mask ≡ n.value) (λ n. ⊤) c.in-Some.ensures.ran
    (YieldsList-from_slice c.args.nogoods.now cc) (λ x q k. search (rules, tests)) (λ x q k. search (rules, tests)) in
    let next = c.after-guess.ensures in (
      omega arith,
      next.lower_bound.1,
      λ pass stored.
          more-passed c.loop-guess.guess c.after-guess.result nogood.mask nogood.value next.lower_bound.1 found.0 next.by_index
          (All-contains (λ (n : Nogood). Refutes pass n.mask n.value) c.args.nogoods.now nogood stored (found.1, found.2, found.3 nogood))
          (c.loop-guess.invariant.2 pass stored),
    )
