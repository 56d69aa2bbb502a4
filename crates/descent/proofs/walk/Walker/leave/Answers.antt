-- `leave`: the fact that opened this one is looked at again, where it is the last root once its component is closed.
use Rattle.descent.proofs.WalkTurned.{closed-last}
use Rattle.descent.proofs.walk.Walker.leave.Goals as goal

pub returns-then-at-root_place : goal.returns-then-at-root_place
returns-then-at-root_place c P next w done =
    rw c.opener_at-self.ensures (closed-last w c.requires.0 (rw (← c.root_place.ensures) c.if-at-root_place.true) _ _ c.close_from.ensures done)
