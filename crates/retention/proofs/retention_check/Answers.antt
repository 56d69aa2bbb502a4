-- `retention_check`: what `check` answers, as a reply.
use mathlib.Core.Path.{ap, ◌∙◌}
use Rattle.replies.specs.Reply.{verdict_of}
use Rattle.retention.proofs.retention_check.Goals as goal

pub returns : goal.returns
returns c = c.from.ensures ∙ ap verdict_of c.check.ensures.value
