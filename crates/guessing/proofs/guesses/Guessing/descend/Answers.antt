-- `descend`: the places before the one at hand are decided, and the others stand as in.
use Prim.Native.Nat.{ℕ, ◌+◌, ◌*◌, ◌-◌, ◌%◌, ◌^◌, ◌<◌, ◌≤◌}
use native.Mathlib.Omega.{arith}
use mathlib.Core.Path.{◌≡◌, sym, subst}
use borrow.Author.Tests.{eq-eqb}
use lib.ListN.{length, get_or}
use Rattle.items.specs.Item.{narrow, max_facts, has}
use Rattle.tables.specs.Held.{held}
use Rattle.guessing.proofs.GuessDerived.{row-facts, row-fact}
use Rattle.guessing.proofs.PathDescended.{guesses-shifted, Descending, none_decided, all-decided, next-enough, derived_in, due_in, held_out}
use Rattle.guessing.proofs.guesses.Guessing.descend.Goals as goal
use Rattle.guessing.proofs.guesses.Guessing.descend.Goals.{In-loop-n, then-marks-from-eq1-via-then-marks-from-eq1, then-marks-from-eq1-via-else-marks-from-eq1+then-lower-from}

-- the fact of the next place has a mark
small : (c : In-loop-n) → get_or c.args.self.now.row.now c.loop-n.n 0 < max_facts narrow
small c = let p = c.args.self.now in row-fact p.tables.now.well_formed p.at_base.row_base c.loop-n.n c.loop-n-test.true

-- the bit of the next place, as the code shifts it
shifted : (c : In-loop-n) → 1 * 2 ^ (length c.args.self.now.row.now - (c.loop-n.n + 1)) % 4294967296 ≡ 2 ^ (length c.args.self.now.row.now - (c.loop-n.n + 1))
shifted c = guesses-shifted (length c.args.self.now.row.now - (c.loop-n.n + 1)) (omega (arith, c.args.self.now.at_base.row_base.few))

pub loop-n-init : goal.loop-n-init
loop-n-init c = let p = c.args.self.now in
    subst (λ (g : ℕ). Descending (held p.tables.now) p.index.now p.row.now p.base.now c.args.from 0 (g - 1) p.base.now p.missing.now)
    (sym (guesses-shifted _ p.at_base.row_base.few))
    (none_decided p.tables.now.well_formed.in_bounds p.at_base c.requires)

pub overflow_sub-lower-in-loop-n : goal.overflow_sub-lower-in-loop-n
overflow_sub-lower-in-loop-n c = let p = c.args.self.now in
    omega (arith, shifted (goal.at.overflow_sub-lower-in-loop-n c).In-loop-n, next-enough p.tables.now.well_formed.in_bounds p.at_base c.loop-n.invariant c.loop-n-test.true)

pub bounds-marks-from : goal.bounds-marks-from
bounds-marks-from c = omega (arith, c.from.ensures, small (goal.at.bounds-marks-from c).In-loop-n)

pub loop-n-preserved-then-marks-from-eq1 : goal.loop-n-preserved-then-marks-from-eq1
unfolding has
loop-n-preserved-then-marks-from-eq1 c =
    let p = c.args.self.now in
    let here = (goal.at.loop-n-preserved-then-marks-from-eq1 c).In-loop-n in
    elim c.then-marks-from-eq1.branch [
      | then-marks-from-eq1-via-then-marks-from-eq1 w ↦
          derived_in p.tables.now.well_formed.in_bounds p.at_base c.loop-n.invariant c.loop-n-test.true (eq-eqb _ _ (rw c.from.ensures at w.if-marks-from-eq1.true)) (small here)
      | then-marks-from-eq1-via-else-marks-from-eq1+then-lower-from w ↦
          due_in p.tables.now.well_formed.in_bounds p.at_base c.loop-n.invariant c.loop-n-test.true (subst (λ (b : ℕ). c.loop-n.guess - b < c.args.from) (shifted here) w.if-lower-from.true)
    ]

pub hold_out-requires-clause-to_in_bounds : goal.hold_out-requires-clause-to_in_bounds
hold_out-requires-clause-to_in_bounds c = let p = c.args.self.now in (omega arith, row-facts p.tables.now.well_formed p.at_base.row_base)

pub loop-n-preserved : goal.loop-n-preserved
loop-n-preserved c =
    let p = c.args.self.now in
    let bit = shifted (goal.at.loop-n-preserved c).In-loop-n in
    subst (λ (b : ℕ). Descending (held p.tables.now) p.index.now p.row.now p.base.now c.args.from (c.loop-n.n + 1) (c.loop-n.guess - b) c.hold_out.new.marks c.hold_out.new.missing) (sym bit)
    (held_out p.tables.now.well_formed.in_bounds p.at_base c.loop-n.invariant c.loop-n-test.true (subst (λ (b : ℕ). c.args.from ≤ c.loop-n.guess - b) bit c.if-lower-from.false) _ _ c.hold_out.ensures.settled_2 c.hold_out.ensures.held_too)

pub returns : goal.returns
returns c = let p = c.args.self.now in all-decided p.tables.now.well_formed.in_bounds p.at_base c.loop-n.invariant c.loop-n-test.false
