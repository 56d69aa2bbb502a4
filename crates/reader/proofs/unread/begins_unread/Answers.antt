-- `begins_unread`: what the read finds.
use mathlib.Core.Path.{refl, sym, ◌∙◌}
use borrow.Author.Rules.{rules}
use borrow.Enum.Refused.{opened}
use Rattle.items.specs.Item.{body_length}
use Rattle.cursors.proofs.Items.{found}
use Rattle.cursors.proofs.NoItemRead.{nothing_read}
use Rattle.reader.specs.Begins.{first_unread}
use Rattle.reader.proofs.BodyRead.{read_as}
use Rattle.reader.proofs.UnreadFacts.{unread_there, no-unread_at_other}
use Rattle.reader.proofs.unread.begins_unread.Goals as goal

pub returns-in-Found-Unread-default : goal.returns-in-Found-Unread-default
unfolding body_length
returns-in-Found-Unread-default c = sym (unread_there _ _ _ (read_as (sym c.next_in_body.ensures ∙ c.in-Found-Unread-default.is) c.in-Found-Unread-default.field-0-is))

pub returns-in_default : goal.returns-in_default
unfolding body_length
returns-in_default c = sym (no-unread_at_other _ _ _ (found _ _ _ _ (sym c.next_in_body.ensures ∙ c.in_default.is)) (search (rules, opened)))

pub returns-in_default-2 : goal.returns-in_default-2
unfolding body_length
returns-in_default-2 c = sym (nothing_read first_unread (λ fault. refl) _ _ _ (sym c.next_in_body.ensures) (search (rules, opened)))
