-- `narrow_bounds`: every guess that fits lies between, and the one bound derives the other.
use mathlib.Core.Path.{refl}
use Rattle.guessing.proofs.BoundsNarrowed.{first-between, low_raised, high_lowered, ends_apart}
use Rattle.guessing.proofs.guesses.Guessing.narrow_bounds.Goals as goal

pub loop-round-init : goal.loop-round-init
loop-round-init c = (first-between c.args.self.now.at_base.row_base _ c.requires, c.requires)

pub returns-then-least-low-clause-ends_refuted : goal.returns-then-least-low-clause-ends_refuted
returns-then-least-low-clause-ends_refuted c t = let w = c.loop-round.invariant in
    ends_apart c.args.self.now.at_base.row_base w.0 _ _ w.1 c.respond-least.ensures c.if-least-low.true refl t

pub returns-then-next-high-clause-between : goal.returns-then-next-high-clause-between
returns-then-next-high-clause-between c = low_raised c.args.self.now.at_base.row_base c.loop-round.invariant.0 _ c.respond-least.ensures

pub returns-then-next-high-clause-ends_refuted : goal.returns-then-next-high-clause-ends_refuted
returns-then-next-high-clause-ends_refuted c t = let r = c.args.self.now.at_base.row_base in
    ends_apart r (low_raised r c.loop-round.invariant.0 _ c.respond-least.ensures) _ _ c.respond-next.ensures c.respond-least.ensures refl c.if-next-high.true t

pub loop-round-preserved : goal.loop-round-preserved
loop-round-preserved c = let r = c.args.self.now.at_base.row_base in
    (high_lowered r (low_raised r c.loop-round.invariant.0 _ c.respond-least.ensures) _ c.respond-next.ensures, c.respond-next.ensures)
