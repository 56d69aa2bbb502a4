-- `row_proves`: what is to come decides.
use mathlib.Core.Path.{◌≡◌, refl, sym, ◌∙◌}
use mathlib.Core.List.{◌∷◌}
use borrow.Author.Rules.{rules}
use borrow.Enum.Refused.{opened}
use Rattle.cursors.specs.declared.cursor.Read.TheVariants.{Found}
use Rattle.cursors.specs.declared.cursor.Row.TheVariants.{Steps}
use Rattle.cursors.specs.Cursor.{next_at}
use Rattle.cursors.proofs.Items.{found, closer}
use Rattle.cursors.proofs.NoItemRead.{nothing_read}
use Rattle.questions.specs.Questions.{steps_of, step_of}
use Rattle.questions.proofs.ItemWalks.{same_row}
use Rattle.questions.proofs.Rows.{steps_from, other_item, step-read}
use Rattle.proofcheck.proofs.RowWalked.{none_walked, all-walked, walking_along, one_fails, one_fits}
use Rattle.proofcheck.proofs.steps.row_proves.Goals as goal
use Rattle.proofcheck.proofs.steps.row_proves.Goals.{In-Found, In-Step}

-- once an item is read
item-read : (c : In-Found) → next_at c.args.proof.now c.loop-item.cursor ≡ Found c.in-Found.item c.in-Found.next
item-read c = sym c.next_step.ensures ∙ c.in-Found.is

-- once it is a step
a_step : (c : In-Step) → steps_from c.args.proof.now c.loop-item.cursor ≡ step_of c.in-Step.f c.in-Step.rule ∷ steps_from c.args.proof.now c.in-Found.next
a_step c = step-read _ _ _ _ (sym c.next_step.ensures ∙ c.in-Found.is) _ _ c.in-Step.is

pub loop-item-init : goal.loop-item-init
loop-item-init c = rw c.start-cursor.ensures (refl, none_walked _ _ _ _ _ c.requires.unmarked)

pub next_step-requires : goal.next_step-requires
next_step-requires c = c.loop-item.invariant.0

pub step_fits-requires : goal.step_fits-requires
step_fits-requires c = record {
  tabled = c.requires.tabled;
  marks_len = c.loop-item.invariant.1.size;
}

pub returns-then-not-step_fits : goal.returns-then-not-step_fits
returns-then-not-step_fits c = one_fails c.loop-item.invariant.1 _ _ (a_step (goal.at.returns-then-not-step_fits c).In-Step) (sym c.step_fits.ensures.value ∙ c.if-not-step_fits.true)

pub loop-item-smaller-else-not-step_fits : goal.loop-item-smaller-else-not-step_fits
loop-item-smaller-else-not-step_fits c = closer (found _ _ _ _ (item-read (goal.at.loop-item-smaller-else-not-step_fits c).In-Found))

pub loop-item-preserved-else-not-step_fits : goal.loop-item-preserved-else-not-step_fits
loop-item-preserved-else-not-step_fits c = (
  same_row _ _ _ _ Steps (item-read (goal.at.loop-item-preserved-else-not-step_fits c).In-Found) tt c.loop-item.invariant.0,
  rw c.eq-asked.ensures (one_fits c.loop-item.invariant.1 _ _ (a_step (goal.at.loop-item-preserved-else-not-step_fits c).In-Step) _ (sym c.step_fits.ensures.value ∙ c.if-not-step_fits.false) (c.step_fits.ensures.step_marked c.if-not-step_fits.false)),
)

pub loop-item-smaller : goal.loop-item-smaller
loop-item-smaller c = closer (found _ _ _ _ (item-read (goal.at.loop-item-smaller c).In-Found))

pub loop-item-preserved : goal.loop-item-preserved
loop-item-preserved c = (
  same_row _ _ _ _ Steps (item-read (goal.at.loop-item-preserved c).In-Found) tt c.loop-item.invariant.0,
  walking_along c.loop-item.invariant.1 _ (other_item _ _ _ _ (item-read (goal.at.loop-item-preserved c).In-Found) (search (rules, opened))),
)

pub returns : goal.returns
returns c = all-walked c.loop-item.invariant.1 (nothing_read steps_of (λ fault. refl) _ _ _ (sym c.next_step.ensures) (search (rules, opened)))
