-- `put`: one store.
use Rattle.questions.proofs.BytesPut.{one_stored}
use Rattle.panel_lines.proofs.put.put.Goals as goal

pub returns : goal.returns
returns c = one_stored _ _ _ c.requires
