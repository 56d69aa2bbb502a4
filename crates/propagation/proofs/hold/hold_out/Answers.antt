-- The facts of the row from place n on are still to be held out.
use Prim.Native.Nat.{ℕ}
use lib.ListN.{replicate, length-replicate}
use Rattle.index.specs.Literal.{literals}
use Rattle.propagation.proofs.FactsHeldOut.{none_held, next-fact, one_held}
use Rattle.propagation.proofs.hold.hold_out.Goals as goal

pub loop-n-init : goal.loop-n-init
loop-n-init c = none_held _ (replicate literals 0) (length-replicate {A = ℕ} literals 0) c.requires.settled

pub loop-n-preserved : goal.loop-n-preserved
loop-n-preserved c = one_held c.loop-n.invariant _ _ (next-fact c.args.facts.now c.args.to c.requires.to_in_bounds.0 c.requires.to_in_bounds.1 c.loop-n.n c.loop-n-test.true) c.wait-top.ensures
