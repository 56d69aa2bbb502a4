-- `retention_panel`: the panel's text. Its length fits a `u32`: no text is longer than the room that `render` has for it.
use Rattle.retention.proofs.retention_panel.Goals as goal

pub returns : goal.returns
returns c = c.render.ensures.value
