-- `take_premise`: question 6, then 7 and 51 at once, then the premise.
use mathlib.Core.Path.{sym, ap, ◌∙◌}
use mathlib.Core.Option.{some}
use Rattle.items.specs.declared.refusal.Refusal.{Refusal}
use Rattle.cursors.proofs.Items.{found}
use Rattle.reader.proofs.BodyAsked.{own-premise, own-too_high}
use Rattle.reader.proofs.BodyRead.{goes_on, refuses, none_allowed_lem, some_opened, premise_scanned}
use Rattle.reader.proofs.step.take_premise.Goals as goal

pub returns-then-facts-f : goal.returns-then-facts-f
returns-then-facts-f c = λ s marks c₀ here short small w e. refuses w (own-too_high w.verdict (own-premise _) (found _ _ _ _ e) c.if-facts-f.true)

pub returns-then-before-eq0 : goal.returns-then-before-eq0
returns-then-before-eq0 c = λ s marks c₀ here short small w e. refuses w (none_allowed_lem w (own-premise _) (found _ _ _ _ e) c.if-facts-f.false c.if-before-eq0.true ∙ ap (λ (r : Refusal). some r) (sym c.none_allowed.ensures))

pub returns : goal.returns
returns c = λ s marks c₀ here short small w e. goes_on (some_opened w c.if-before-eq0.false) (premise_scanned w c.if-before-eq0.false small (found _ _ _ _ e) c.if-facts-f.false)
