-- `ask_names`: what is to come gives what the whole gives.
use mathlib.Core.Path.{refl, sym, ap, ◌∙◌}
use borrow.Author.Rules.{rules}
use borrow.Enum.Refused.{opened}
use Rattle.cursors.specs.declared.cursor.Row.TheVariants.{Order}
use Rattle.questions.specs.Questions.{names_of}
use Rattle.cursors.proofs.Items.{found, closer}
use Rattle.cursors.proofs.NoItemRead.{nothing_read}
use Rattle.items.proofs.Passed.{passed}
use Rattle.questions.proofs.ItemWalks.{headed, same_row, past-names}
use Rattle.questions.proofs.NamesAsked.{said_yes, said_no, all_asked, not-asked, a_no, a_yes}
use Rattle.naming.proofs.names.ask_names.Goals as goal

pub returns-in_err-ask_name : goal.returns-in_err-ask_name
returns-in_err-ask_name c =
    let e = passed c.from_residual.ensures in
    record {
      value = e ∙ a_no _ _ _ _ _ _ c.loop-item.invariant.2 _ _ (ap names_of (headed _ _ _ _ _ (sym c.next_name.ensures ∙ c.in-Found.is) c.in-Names.is)) _ (said_no _ _ (sym c.in_err-ask_name.was ∙ c.ask_name.ensures.value));
      all_named = rw e tt;
    }

pub loop-item-smaller-in_ok-ask_name : goal.loop-item-smaller-in_ok-ask_name
loop-item-smaller-in_ok-ask_name c = closer (found _ _ _ _ (sym c.next_name.ensures ∙ c.in-Found.is))

pub loop-item-preserved-in_ok-ask_name : goal.loop-item-preserved-in_ok-ask_name
loop-item-preserved-in_ok-ask_name c = (
  c.ask_name.ensures.named_len,
  same_row _ _ _ _ Order (sym c.next_name.ensures ∙ c.in-Found.is) tt c.loop-item.invariant.1,
  a_yes _ _ _ _ _ _ c.loop-item.invariant.2 _ _ (ap names_of (headed _ _ _ _ _ (sym c.next_name.ensures ∙ c.in-Found.is) c.in-Names.is)) _ (said_yes _ (sym c.in_ok-ask_name.was ∙ c.ask_name.ensures.value)) (rw c.in_ok-ask_name.was at c.ask_name.ensures.named),
)

pub loop-item-smaller : goal.loop-item-smaller
loop-item-smaller c = closer (found _ _ _ _ (sym c.next_name.ensures ∙ c.in-Found.is))

pub loop-item-preserved : goal.loop-item-preserved
loop-item-preserved c = (c.loop-item.invariant.0, same_row _ _ _ _ Order (sym c.next_name.ensures ∙ c.in-Found.is) tt c.loop-item.invariant.1, not-asked _ _ _ _ _ _ c.loop-item.invariant.2 _ (past-names _ _ _ _ (sym c.next_name.ensures ∙ c.in-Found.is) (search (rules, opened))))

pub returns : goal.returns
returns c =
    let p = all_asked _ _ _ _ _ _ c.loop-item.invariant.2 (nothing_read names_of (λ fault. refl) _ _ _ (sym c.next_name.ensures) (search (rules, opened))) in
    record { value = p.0; all_named = p.1 }
