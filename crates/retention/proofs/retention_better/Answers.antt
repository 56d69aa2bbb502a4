-- `retention_better`: what `choose` answers, as a reply.
use mathlib.Core.Path.{ap, ◌∙◌}
use Rattle.replies.specs.Reply.{reply_of_choice}
use Rattle.retention.proofs.retention_better.Goals as goal

pub returns : goal.returns
returns c = c.from.ensures ∙ ap reply_of_choice c.choose.ensures.value
