-- `take_constraint`: question 6, then 7 and 51 at once, then the constraint, and its mark or that it withholds the rule.
use mathlib.Core.Path.{sym, ap, ◌∙◌}
use mathlib.Core.Option.{some}
use Rattle.items.specs.declared.refusal.Refusal.{Refusal}
use Rattle.cursors.proofs.Items.{found}
use Rattle.reader.proofs.BodyAsked.{own-constraint, own-too_high}
use Rattle.reader.proofs.BodyRead.{goes_on, refuses, none_allowed_lem, some_opened, constraint_scanned}
use Rattle.reader.proofs.step.take_constraint.Goals as goal

pub returns-then-facts-f : goal.returns-then-facts-f
returns-then-facts-f c = λ s c₀ here short small w e. refuses w (own-too_high w.verdict (own-constraint _) (found _ _ _ _ e) c.if-facts-f.true)

pub returns-then-before-eq0 : goal.returns-then-before-eq0
returns-then-before-eq0 c = λ s c₀ here short small w e. refuses w (none_allowed_lem w (own-constraint _) (found _ _ _ _ e) c.if-facts-f.false c.if-before-eq0.true ∙ ap (λ (r : Refusal). some r) (sym c.none_allowed.ensures))

pub returns : goal.returns
returns c = λ s c₀ here short small w e. goes_on (some_opened w c.if-before-eq0.false) (constraint_scanned w c.if-before-eq0.false small (found _ _ _ _ e) c.if-facts-f.false _ _ c.mark_constraint.ensures.cells_after c.mark_constraint.ensures.marks_after)
