-- `read_only`: there is no kind or another one, as the laws of `OneRow` say, or it is `read_kind`'s.
use Rattle.std.proofs.Common.{refl, ◌∙◌}
use borrow.Author.Tests.{eq-eqb, ne_eqb}
use Rattle.items.specs.Item.{kind_number}
use Rattle.cursors.proofs.OneRow.{nothing-there, unlike}
use Rattle.cursors.proofs.cursor.read_only.Goals as goal

pub returns-then-bytes-at : goal.returns-then-bytes-at
returns-then-bytes-at c = c.stay.ensures ∙ nothing-there _ _ _ c.requires.0 c.if-bytes-at.true

pub returns-then-bytes-at-2 : goal.returns-then-bytes-at-2
returns-then-bytes-at-2 c = let p = c.requires in
    c.stay-then-bytes-at-2.ensures ∙ unlike _ _ _ p.0 c.if-bytes-at.false (p.1 _ ∙ ne_eqb _ _ (rw c.byte.ensures at c.if-bytes-at-2.true))

pub read_kind-requires : goal.read_kind-requires
read_kind-requires c = let p = c.requires in
    (p.0, c.if-bytes-at.false, c.if-bytes-at-2.false ∙ c.byte.ensures, p.1 _ ∙ eq-eqb (kind_number c.args.kind) _ refl)
