-- `retention_load`: the answer as a reply, and the buffer.
use Rattle.replies.proofs.Replied.{load-replied}
use Rattle.retention.proofs.retention_load.Goals as goal

pub returns : goal.returns
returns c = load-replied _ _ _ _ c.from.ensures c.load.ensures.fact
