-- `retention_accept`: what `accept` answers, as a reply.
use mathlib.Core.Path.{ap, ◌∙◌}
use Rattle.replies.specs.Reply.{file_of}
use Rattle.retention.proofs.retention_accept.Goals as goal

pub returns : goal.returns
returns c = c.from.ensures ∙ ap file_of c.accept.ensures.value
