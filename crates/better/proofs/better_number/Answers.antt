-- `better_number`: the number of the first no.
use mathlib.Core.Path.{sym, ◌∙◌}
use Rattle.questions.specs.Questions.{better_questions}
use Rattle.questions.proofs.OperationAsked.{answer_numbered}
use Rattle.better.proofs.better_number.Goals as goal

pub returns-in-Err : goal.returns-in-Err
returns-in-Err c = c.from.ensures ∙ c.number.ensures ∙ (answer_numbered (better_questions c.args.file.now c.args.first.now c.args.second.now) _ (sym c.in-Err.is ∙ c.ask_both.ensures.value)).1.numbered

pub returns-in-Ok : goal.returns-in-Ok
returns-in-Ok c = (answer_numbered (better_questions c.args.file.now c.args.first.now c.args.second.now) _ (sym c.in-Ok.is ∙ c.ask_both.ensures.value)).1.numbered
