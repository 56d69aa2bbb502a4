-- `retention_layered`: the answer as a reply, and the buffer.
use Rattle.replies.proofs.Replied.{layered-replied}
use Rattle.retention.proofs.retention_layered.Goals as goal

pub returns : goal.returns
returns c = layered-replied _ _ _ _ c.from.ensures c.layered.ensures.fact
