-- `body_length`: the table is right at each of the 256 kinds.
use Rattle.std.proofs.Common.{rules, ◌∙◌}
use Rattle.items.specs.Item.{body_length}
use Rattle.items.proofs.LengthTable.{entry_of}
use Rattle.items.proofs.lengths.body_length.Goals as goal

pub returns : goal.returns
unfolding body_length
returns c = c.from-2.ensures ∙ rw c.from.ensures (entry_of c.args.kind (search rules))
