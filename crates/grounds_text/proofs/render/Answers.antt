-- `render`: the text is written into a room of its own, and then shown.
use mathlib.Core.Path.{◌≡◌, sym}
use native.Mathlib.Omega.{arith}
use lib.ListN.{take}
use lib.Seq.{length-take-le}
use Rattle.panel_text.proofs.TextShown.{front-text}
use Rattle.grounds_text.specs.Text.{grounds_text}
use Rattle.grounds_text.proofs.render.Goals as goal
use Rattle.grounds_text.proofs.render.Goals.{After-put_text-n}

-- the text stands at the front of the room
text : (c : After-put_text-n) → take c.put_text-n.result c.put_text-n.new.out ≡ grounds_text c.args.file.now c.args.fact
text c = front-text _ _ _ _ c.put_text-n.ensures.put

pub slice_bounds-show-end : goal.slice_bounds-show-end
slice_bounds-show-end c = sym (length-take-le _ _ (omega arith))

pub returns : goal.returns
returns c = let shows = c.show.ensures in
    let there = text (goal.at.returns c).After-put_text-n in
    record {
      value = (rw there at shows.0, rw there at shows.1);
      upper_bound = omega (arith, rw there at shows.0, c.put_text-n.ensures.put.behind, c.put_text-n.ensures.upper_bound);
    }
