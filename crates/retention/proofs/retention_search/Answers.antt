-- `retention_search`: the search's answer as a reply, and its buffers.
use Rattle.replies.proofs.Replied.{search-replied}
use Rattle.retention.proofs.retention_search.Goals as goal

pub returns : goal.returns
returns c = search-replied _ _ _ _ _ _ _ c.from.ensures c.search.ensures.fact
