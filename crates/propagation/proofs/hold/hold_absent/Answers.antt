-- `hold_absent`: the facts from f on that are not in the set are still to be held out.
use Prim.Native.Nat.{ℕ, ◌<◌}
use mathlib.Core.Path.{◌≡◌, sym, ◌∙◌}
use native.Mathlib.Omega.{arith}
use lib.ListN.{length-take, take, get_or, replicate, length-replicate}
use lib.Seq.{get_or-take}
use Rattle.tables.specs.Held.{held}
use Rattle.tables.proofs.ProgramHeld.{facts_below}
use Rattle.index.specs.Literal.{literals}
use Rattle.propagation.proofs.FactsHeldOut.{none_held, as_left, one_held, present, absent, all-absent}
use Rattle.propagation.proofs.hold.hold_absent.Goals as goal
use Rattle.propagation.proofs.hold.hold_absent.Goals.{In-loop-f, then-mark-ne-IN, else-mark-ne-IN}

-- the fact is one of the program
inside : (c : In-loop-f) → c.loop-f.f < (held c.args.tables.now).facts
inside c = omega (arith, c.loop-f-test.true, c.facts-facts.ensures, length-take {A = ℕ})

-- its mark
mark : (c : In-loop-f) → get_or (take c.facts-facts.result c.args.set.now) c.loop-f.f 0 ≡ get_or c.args.set.now c.loop-f.f 0
mark c = get_or-take c.facts-facts.result c.args.set.now c.loop-f.f 0 (omega (arith, inside c, c.facts-facts.ensures))

pub loop-f-init : goal.loop-f-init
loop-f-init c = as_left (none_held _ (replicate literals 0) (length-replicate {A = ℕ} literals 0) c.requires.settled) _ (sym (all-absent c.args.set.now (held c.args.tables.now).facts))

pub loop-f-preserved : goal.loop-f-preserved
loop-f-preserved c = elim c.if-mark-ne-IN.branch [
  | then-mark-ne-IN v ↦ rw (v.marks-is, v.stack-is, v.top-is) (one_held c.loop-f.invariant _ _ (absent _ _ _ (inside (goal.at.loop-f-preserved c).In-loop-f) (λ e. v.if-mark-ne-IN.true (mark (goal.at.loop-f-preserved c).In-loop-f ∙ e))) v.wait-top.ensures)
  | else-mark-ne-IN v ↦ rw (v.marks-is, v.stack-is, v.top-is) (as_left c.loop-f.invariant _ (present _ _ _ (inside (goal.at.loop-f-preserved c).In-loop-f) (sym (mark (goal.at.loop-f-preserved c).In-loop-f) ∙ v.if-mark-ne-IN.false)))
]

pub wait-top-requires : goal.wait-top-requires
wait-top-requires c = (omega (arith, inside (goal.at.wait-top-requires c).In-loop-f, facts_below c.args.tables.now.well_formed), c.loop-f.invariant.between.on_stack)
