-- `retention_run`: the run's answer as a reply, and its buffers.
use Rattle.replies.proofs.Replied.{run-replied}
use Rattle.retention.proofs.retention_run.Goals as goal

pub returns : goal.returns
returns c = run-replied _ _ _ _ _ _ c.from.ensures c.run.ensures.fact
