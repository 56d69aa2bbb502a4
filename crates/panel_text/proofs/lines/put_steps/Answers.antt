-- `put_steps`: the lines of the steps before the cursor are written.
use mathlib.Core.Path.{◌≡◌, refl, sym, ◌∙◌}
use borrow.Author.Rules.{rules}
use borrow.Enum.Refused.{opened}
use Rattle.cursors.specs.declared.cursor.Row.TheVariants.{Steps}
use Rattle.cursors.specs.declared.cursor.Read.TheVariants.{Found}
use Rattle.cursors.specs.Cursor.{next_at}
use Rattle.cursors.proofs.Items.{found, closer}
use Rattle.questions.proofs.BytesPut.{begun}
use Rattle.questions.proofs.ItemWalks.{same_row}
use Rattle.panel_text.proofs.StepLines.{all-put, other_passed, step_fits, step-put}
use Rattle.panel_text.proofs.lines.put_steps.Goals as goal
use Rattle.panel_text.proofs.lines.put_steps.Goals.{In-Found}

-- once an item is read
item-read : (c : In-Found) → next_at c.args.row.now c.loop-item.cursor ≡ Found c.in-Found.item c.in-Found.next
item-read c = sym c.next_step.ensures ∙ c.in-Found.is

pub loop-item-init : goal.loop-item-init
loop-item-init c = rw c.start-cursor.ensures (refl, begun _ _ _ c.requires)

pub next_step-requires : goal.next_step-requires
next_step-requires c = c.loop-item.invariant.0

pub put_step-at-requires : goal.put_step-at-requires
put_step-at-requires c = step_fits _ _ _ _ _ _ c.loop-item.invariant.1 _ _ (item-read (goal.at.put_step-at-requires c).In-Found) _ _ c.in-Step.is

pub loop-item-smaller-in-Step : goal.loop-item-smaller-in-Step
loop-item-smaller-in-Step c = closer (found _ _ _ _ (item-read (goal.at.loop-item-smaller-in-Step c).In-Found))

pub loop-item-preserved-in-Step : goal.loop-item-preserved-in-Step
loop-item-preserved-in-Step c = let read = item-read (goal.at.loop-item-preserved-in-Step c).In-Found in
    (same_row _ _ _ _ Steps read tt c.loop-item.invariant.0, step-put _ _ _ _ _ _ c.loop-item.invariant.1 _ _ read _ _ c.in-Step.is _ _ c.put_step-at.ensures)

pub loop-item-smaller : goal.loop-item-smaller
loop-item-smaller c = closer (found _ _ _ _ (item-read (goal.at.loop-item-smaller c).In-Found))

pub loop-item-preserved : goal.loop-item-preserved
loop-item-preserved c = let read = item-read (goal.at.loop-item-preserved c).In-Found in
    (same_row _ _ _ _ Steps read tt c.loop-item.invariant.0, other_passed _ _ _ _ _ _ c.loop-item.invariant.1 _ _ read (search (rules, opened)))

pub returns : goal.returns
returns c = all-put _ _ _ _ _ _ c.loop-item.invariant.1 _ (sym c.next_step.ensures) (search (rules, opened))
