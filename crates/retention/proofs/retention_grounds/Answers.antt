-- `retention_grounds`: the answer as a reply, and the buffers.
use Rattle.replies.proofs.Replied.{grounds-replied}
use Rattle.retention.proofs.retention_grounds.Goals as goal

pub returns : goal.returns
returns c = grounds-replied _ _ _ _ _ _ c.from.ensures c.grounds.ensures.fact
