-- `constraints_clear`: what is to come decides what the whole does.
use mathlib.Core.Bool.{not}
use mathlib.Core.List.{reverse}
use Rattle.items.specs.Item.{has}
use Rattle.tables.proofs.PartsHeld.{Tested}
use Rattle.tables.proofs.layout.Tables.constraints_clear.Given as goal

abbrev pub invariant-loop-place : goal.invariant-loop-place
invariant-loop-place l = Tested (λ f. not (has l.set f)) (reverse l.own) l.place
