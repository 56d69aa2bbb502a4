-- `render`: the text is written into a room of its own, and then shown.
use Prim.Native.Nat.{ℕ, ◌≤◌}
use mathlib.Core.Path.{◌≡◌, sym}
use native.Mathlib.Omega.{arith}
use lib.ListN.{length, take, length-replicate}
use lib.Seq.{length-take-le}
use Rattle.panel_lines.specs.Text.{panel_text, text_room}
use Rattle.panel_text.proofs.TextShown.{front-text}
use Rattle.items.specs.Item.{narrow}
use Rattle.panel_text.proofs.render.Goals as goal
use Rattle.panel_text.proofs.render.Goals.{After-put_text-n}

-- the text lies inside the room, at its front
inside : (c : After-put_text-n) → c.put_text-n.result ≤ length c.put_text-n.new.out
inside c = omega (arith, c.put_text-n.ensures.upper_bound, length-replicate {A = ℕ} (text_room narrow) 0)

text : (c : After-put_text-n) → take c.put_text-n.result c.put_text-n.new.out ≡ panel_text c.args.file.now
text c = front-text _ _ _ _ c.put_text-n.ensures.put

pub slice_bounds-room-end : goal.slice_bounds-room-end
slice_bounds-room-end c = inside (goal.at.slice_bounds-room-end c).After-put_text-n

pub slice_bounds-show-end : goal.slice_bounds-show-end
slice_bounds-show-end c = sym (length-take-le _ _ (inside (goal.at.slice_bounds-show-end c).After-put_text-n))

pub returns : goal.returns
returns c = let shows = c.show.ensures in
    let there = text (goal.at.returns c).After-put_text-n in
    record {
      value = (rw there at shows.0, rw there at shows.1);
      upper_bound = omega (arith, rw there at shows.0, c.put_text-n.ensures.put.behind, c.put_text-n.ensures.upper_bound);
    }
