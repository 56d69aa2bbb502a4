-- `order_row`: the names read so far stand at the front of the row, in their order.
use Prim.Native.Nat.{◌<◌}
use mathlib.Core.Path.{◌≡◌, refl, sym, ap, ◌∙◌}
use mathlib.Core.List.{◌∷◌}
use borrow.Author.Rules.{rules}
use borrow.Enum.Refused.{opened}
use Rattle.cursors.specs.declared.cursor.Row.TheVariants.{Order}
use Rattle.items.specs.Item.{max_rules}
use Rattle.cursors.specs.Cursor.{items_at}
use Rattle.cursors.proofs.Items.{found, closer}
use Rattle.cursors.proofs.NoItemRead.{nothing_read}
use Rattle.questions.specs.Questions.{names_of}
use Rattle.questions.proofs.ItemWalks.{headed, past-names, same_row}
use Rattle.naming.proofs.RowFilled.{all_read, no_name, room-left, one_read}
use Rattle.naming.proofs.row.order_row.Goals as goal
use Rattle.naming.proofs.row.order_row.Goals.{In-Names}

-- once it names a rule
one-named : (c : In-Names) → names_of (items_at c.args.order.now c.loop-item.cursor) ≡ c.in-Names.rule.0 ∷ names_of (items_at c.args.order.now c.in-Found.next)
one-named c = ap names_of (headed _ _ _ _ _ (sym c.next_name.ensures ∙ c.in-Found.is) c.in-Names.is)

room : (c : In-Names) → c.loop-item.n < max_rules
room c = room-left c.loop-item.invariant.1 c.requires.order_len_bound _ _ (one-named c)

pub returns : goal.returns
returns c =
    let p = all_read c.loop-item.invariant.1 (nothing_read names_of (λ fault. refl) _ _ _ (sym c.next_name.ensures) (search (rules, opened))) in
    record { row_after = p.0; value = p.1.0; row_len_2 = p.1.1 }

pub bounds-row-n : goal.bounds-row-n
bounds-row-n c = room (goal.at.bounds-row-n c).In-Names

pub loop-item-smaller-in-Names : goal.loop-item-smaller-in-Names
loop-item-smaller-in-Names c = closer (found _ _ _ _ (sym c.next_name.ensures ∙ c.in-Found.is))

pub loop-item-preserved-in-Names : goal.loop-item-preserved-in-Names
loop-item-preserved-in-Names c = (same_row _ _ _ _ Order (sym c.next_name.ensures ∙ c.in-Found.is) tt c.loop-item.invariant.0, one_read c.loop-item.invariant.1 c.requires.order_len_bound _ _ (one-named (goal.at.loop-item-preserved-in-Names c).In-Names))

pub loop-item-smaller : goal.loop-item-smaller
loop-item-smaller c = closer (found _ _ _ _ (sym c.next_name.ensures ∙ c.in-Found.is))

pub loop-item-preserved : goal.loop-item-preserved
loop-item-preserved c = (same_row _ _ _ _ Order (sym c.next_name.ensures ∙ c.in-Found.is) tt c.loop-item.invariant.0, no_name c.loop-item.invariant.1 _ (past-names _ _ _ _ (sym c.next_name.ensures ∙ c.in-Found.is) (search (rules, opened))))
