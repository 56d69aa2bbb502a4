-- `derive`: what is to come from here gives what the whole gives; each turn leaves fewer facts missing.
use Prim.Native.Nat.{◌+◌}
use Rattle.tables.specs.Held.{held}
use Rattle.premises.specs.Plain.{mask_in}
use Rattle.closure.specs.Deriving.{Advanced}
use Rattle.closure.proofs.least.derive.Goals as goal
use Rattle.closure.proofs.least.derive.Goals.{In-Fired}

-- once a rule has fired
went : (c : In-Fired) → Advanced (held c.args.tables.now) (mask_in c.args.index.now) c.args.marks.now c.args.fired.now c.args.at c.loop-to.marks c.fire.new.marks c.fire.new.missing c.fire.new.ready c.fire.new.fired (c.loop-to.to + 1)
went c = rw c.in-Fired.is at (c.fire.ensures _ _ _ c.loop-to.invariant.0)

pub loop-to-preserved : goal.loop-to-preserved
loop-to-preserved c = ((went c).further, (went c).poised)
