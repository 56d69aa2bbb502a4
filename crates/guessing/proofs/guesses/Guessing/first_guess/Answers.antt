-- `first_guess`: the first guess that nothing on the way refutes, then the guesses between the bounds.
use Rattle.std.proofs.Common.{rules}
use Rattle.guessing.proofs.BoundsNarrowed.{none_responds}
use Rattle.guessing.proofs.GuessDerived.{row-facts}
use Rattle.guessing.proofs.GuessesTried.{tells, fits-first}
use Rattle.guessing.proofs.guesses.Guessing.first_guess.Goals as goal
use Rattle.guessing.proofs.guesses.Guessing.first_guess.Goals.{then-first-gt0, else-first-gt0}

pub compare-requires : goal.compare-requires
compare-requires c = let p = c.args.self.now in (p.at_base.row_base.few, row-facts p.tables.now.well_formed p.at_base.row_base)

pub returns-then-is_none : goal.returns-then-is_none
returns-then-is_none c =
    let p = c.args.self.now in
    let d = c.descend-first.ensures in
    fits-first p.at_base d.passed _ _ (tells p.at_base (row-facts p.tables.now.well_formed p.at_base.row_base) _ _ d.derived _ c.compare.ensures) (search rules) d.derived

pub gather-most-requires : goal.gather-most-requires
gather-most-requires c = let p = c.args.self.now in (p.at_base.row_base.few, row-facts p.tables.now.well_formed p.at_base.row_base)

-- The marks of the first guess show what the guess of no fact derives, where it is that one.
pub narrow_bounds-bounds-requires : goal.narrow_bounds-bounds-requires
narrow_bounds-bounds-requires c =
    let p = c.args.self.now in
    elim c.if-first-gt0.branch [
      | then-first-gt0 w ↦ rw w.most-is w.respond-most.ensures
      | else-first-gt0 w ↦ rw w.most-is (none_responds (row-facts p.tables.now.well_formed p.at_base.row_base) w.if-first-gt0.false c.descend-first.ensures.derived w.gather-most.ensures)
    ]
