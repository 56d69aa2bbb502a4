-- `read_kind`: the body is whole or it is not, as the laws of `OneRow` say.
use Rattle.std.proofs.Common.{ap, ◌∙◌, arith}
use Rattle.items.specs.Item.{narrow, body_length}
use Rattle.cursors.proofs.OneRow.{short, whole}
use Rattle.cursors.proofs.cursor.read_kind.Goals as goal

pub returns-then-bytes-body : goal.returns-then-bytes-body
returns-then-bytes-body c = let p = c.requires in
    c.stay.ensures ∙ short _ _ _ p.0 p.1 _ _ p.2 p.3 (c.body_length-length.ensures ∙ ap (body_length narrow) c.byte.ensures) c.if-bytes-body.true

pub item_of-item-requires : goal.item_of-item-requires
item_of-item-requires c = omega (arith, c.body_length-length.ensures ∙ ap (body_length narrow) c.byte.ensures, c.requires.1)

pub returns : goal.returns
returns c = let p = c.requires in
    whole _ _ _ p.0 p.1 _ _ p.2 p.3 (c.body_length-length.ensures ∙ ap (body_length narrow) c.byte.ensures) c.if-bytes-body.false _ c.item_of-item.ensures _ c.row_after.ensures
