-- `write_rule_body`: one store for each byte.
use native.Mathlib.Omega.{arith}
use native.Mathlib.Numerals.{add-one, add-two}
use lib.ListN.{length-set}
use mathlib.Core.List.{◌∷◌}
use Rattle.items.specs.Write.{rule_field}
use Rattle.items.proofs.PlacedBytes.{stored}
use Rattle.items.proofs.write.write_rule_body.Goals as goal

pub bounds-out-at-2 : goal.bounds-out-at-2
bounds-out-at-2 c = simp length-set (omega arith)

pub bounds-out-at-3 : goal.bounds-out-at-3
bounds-out-at-3 c = simp length-set (omega arith)

pub returns : goal.returns
returns c = let a = c.args in
    rw (add-one, add-two) (stored (a.kind ∷ rule_field a.number) a.out.now a.at c.requires)
