-- `search_between`: the guesses before the one at hand do not fit, and what is stored refutes.
use Prim.Native.Nat.{ℕ}
use native.Mathlib.Omega.{arith}
use mathlib.Core.Path.{sym, subst}
use lib.ListN.{length}
use Rattle.tables.specs.Held.{held}
use Rattle.guessing.specs.Guessing.{fits_at, Derived, Conflict}
use Rattle.guessing.specs.Descended.{Descended}
use Rattle.guessing.proofs.GuessDerived.{row-facts}
use Rattle.guessing.proofs.GuessesTried.{Trying, already_marked, go_on, one_more, end_of, end_below, tells, ends, fits-first, leaves, conflict, fits_not}
use Rattle.guessing.proofs.guesses.Guessing.search_between.Goals as goal
use Rattle.guessing.proofs.guesses.Guessing.search_between.Goals.{Joined-guess-from, then-guess-from, else-guess-from, Else-kept-eq-MOST_KEPT}

-- the first from there that nothing on the way refutes, with what it derives
come-to : (c : Joined-guess-from) → Descended (held c.args.self.now.tables.now) c.args.self.now.row.now c.args.self.now.base.now c.next_open-guess.result c.if-guess-from.guess c.if-guess-from.marks
come-to c = let p = c.args.self.now in
    elim c.if-guess-from.branch [
      | then-guess-from w ↦ rw (w.guess-is, w.marks-is) w.descend-guess.ensures
      | else-guess-from w ↦ rw (w.guess-is, w.marks-is)
          (already_marked (omega (arith, end_of (length p.row.now) p.at_base.row_base.few))
          (subst (λ (g : ℕ). Derived (held p.tables.now) p.row.now p.base.now g c.loop-guess.marks) (sym w.if-guess-from.false)
          (c.loop-guess.invariant.2 (omega (arith, w.if-guess-from.false, c.next_open-guess.ensures.lower_bound.0)))))
    ]

-- no guess before it fits
reached : (c : Joined-guess-from) → Trying (fits_at (held c.args.self.now.tables.now) c.args.self.now.row.now c.args.self.now.base.now) c.loop-guess.nogoods c.loop-guess.kept c.if-guess-from.guess
reached c =
    let w = c.loop-guess.invariant.0 in
    let next = c.next_open-guess.ensures in
    go_on (go_on w _ next.lower_bound.1 (next.by_index _ w.stored)) _ (omega (arith, (come-to c).inside, end_below (length c.args.self.now.row.now) c.args.self.now.at_base.row_base.few)) (come-to c).passed

-- the conflict at it, where it does not fit
clash : (c : Else-kept-eq-MOST_KEPT) → Conflict (held c.args.self.now.tables.now) c.args.self.now.row.now c.args.self.now.base.now c.if-guess-from.guess c.in-Some.conflict
clash c =
    let p = c.args.self.now in
    let d = come-to (goal.at.learn-lesson-requires-clause-conflict c).Joined-guess-from in
    conflict p.at_base (omega (arith, end_of (length p.row.now) p.at_base.row_base.few, d.inside)) _ (tells p.at_base (row-facts p.tables.now.well_formed p.at_base.row_base) _ _ d.derived _ c.compare.ensures) c.in-Some.is

pub returns-then-guess-end : goal.returns-then-guess-end
returns-then-guess-end c =
    let w = c.loop-guess.invariant.0 in
    let next = c.next_open-guess.ensures in
    ends c.args.self.now.at_base (go_on w _ next.lower_bound.1 (next.by_index _ w.stored)) _ c.if-guess-end.true

pub compare-requires : goal.compare-requires
compare-requires c = let p = c.args.self.now in (p.at_base.row_base.few, row-facts p.tables.now.well_formed p.at_base.row_base)

pub returns-in_default : goal.returns-in_default
returns-in_default c =
    let p = c.args.self.now in
    let j = (goal.at.returns-in_default c).Joined-guess-from in
    fits-first p.at_base (reached j).passed _ _ (tells p.at_base (row-facts p.tables.now.well_formed p.at_base.row_base) _ _ (come-to j).derived _ c.compare.ensures) c.in_default.is (come-to j).derived

pub returns-then-kept-eq-MOST_KEPT : goal.returns-then-kept-eq-MOST_KEPT
returns-then-kept-eq-MOST_KEPT c = leaves c.args.self.now.at_base (reached (goal.at.returns-then-kept-eq-MOST_KEPT c).Joined-guess-from) _

pub learn-lesson-requires-clause-conflict : goal.learn-lesson-requires-clause-conflict
learn-lesson-requires-clause-conflict c = clash c

pub loop-guess-preserved : goal.loop-guess-preserved
loop-guess-preserved c =
    let at = goal.at.loop-guess-preserved c in
    let begun = c.loop-guess.invariant.1 in
    let next = c.next_open-guess.ensures.lower_bound.0 in
    let onward = (come-to at.Joined-guess-from).onward in
    let here = clash at.Else-kept-eq-MOST_KEPT in
    (one_more (reached at.Joined-guess-from) (omega arith) here.small (fits_not c.args.self.now.at_base here) _ c.learn-lesson.ensures.refutes, omega arith, λ l. absurd (omega arith), c.learn-lesson.ensures.between_2)
