-- `write_fact_body`: one store for each byte.
use native.Mathlib.Omega.{arith}
use native.Mathlib.Numerals.{add-one}
use mathlib.Core.List.{◌∷◌}
use lib.ListN.{length-set}
use Rattle.items.specs.Item.{narrow}
use Rattle.items.specs.Write.{fact_field}
use Rattle.items.proofs.PlacedBytes.{stored}
use Rattle.items.proofs.write.write_fact_body.Goals as goal

pub bounds-out-at-2 : goal.bounds-out-at-2
bounds-out-at-2 c = simp length-set (omega arith)

pub returns : goal.returns
returns c = let a = c.args in
    rw add-one (stored (a.kind ∷ fact_field narrow a.number) a.out.now a.at c.requires.1)
