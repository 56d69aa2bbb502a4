-- `conclusion_in`: the byte of the conclusion.
use mathlib.Core.Path.{ap}
use Rattle.items.specs.declared.item.FactId.{FactId}
use Rattle.items.specs.Item.{has}
use Rattle.tables.proofs.layout.Tables.conclusion_in.Goals as goal

pub returns : goal.returns
unfolding has
returns c = ap (λ (g : FactId). has c.args.set.now g.0) c.conclusion-fact.ensures
