-- `write_step_item`: one store for each byte.
use native.Mathlib.Omega.{arith}
use native.Mathlib.Numerals.{add-one, add-two, add-three}
use lib.ListN.{length-set}
use Rattle.items.specs.Write.{step_item}
use Rattle.items.proofs.PlacedBytes.{stored}
use Rattle.items.specs.Item.{narrow}
use Rattle.items.proofs.write.write_step_item.Goals as goal

pub bounds-out-at-2 : goal.bounds-out-at-2
bounds-out-at-2 c = simp length-set (omega arith)

pub bounds-out-at-3 : goal.bounds-out-at-3
bounds-out-at-3 c = simp length-set (omega arith)

pub bounds-out-at-4 : goal.bounds-out-at-4
bounds-out-at-4 c = simp length-set (omega arith)

pub returns : goal.returns
returns c = let a = c.args in
    rw (add-one, add-two, add-three, c.byte.ensures) (stored (step_item narrow a.fact.0 a.rule.0) a.out.now a.at c.requires.1)
