-- `ask_limits`: by the counts of the file.
use mathlib.Core.Path.{sym, ap, ◌∙◌}
use Rattle.reader.specs.declared.answer.FileCounts.{FileCounts}
use Rattle.search.proofs.SearchAsked.{order-short, too_many, within_limits}
use Rattle.search.proofs.asked.ask_limits.Goals as goal

pub returns-then-order-from : goal.returns-then-order-from
returns-then-order-from c = order-short _ _ _ c.requires (rw c.from.ensures at c.if-order-from.true)

pub too_many_guesses-requires : goal.too_many_guesses-requires
too_many_guesses-requires c = ap (λ (x : FileCounts). x.constrained) c.requires

pub returns-then-too_many_guesses : goal.returns-then-too_many_guesses
returns-then-too_many_guesses c = too_many _ _ _ c.requires (rw c.from.ensures at c.if-order-from.false) (sym c.too_many_guesses.ensures ∙ c.if-too_many_guesses.true)

pub returns : goal.returns
returns c = within_limits _ _ _ c.requires (rw c.from.ensures at c.if-order-from.false) (sym c.too_many_guesses.ensures ∙ c.if-too_many_guesses.false)
