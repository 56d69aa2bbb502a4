-- `view_fits`: what is left of the view is to come of the rule.
use Prim.Native.Nat.{◌-◌}
use Rattle.items.specs.Item.{has}
use Rattle.proofcheck.specs.Viewed.{rule_ahead}
use Rattle.proofcheck.proofs.ReadByView.{Viewing}
use Rattle.proofcheck.proofs.own.view_fits.Given as goal

abbrev pub invariant-loop-taken : goal.invariant-loop-taken
invariant-loop-taken l = Viewing (has l.set) (rule_ahead l.file l.at) l.initial.marks l.marks l.view.file.now l.view.end l.view.at

abbrev pub decreases-loop-taken : goal.decreases-loop-taken
decreases-loop-taken l = l.view.end - l.view.at
