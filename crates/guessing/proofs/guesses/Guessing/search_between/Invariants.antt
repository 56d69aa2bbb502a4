-- `search_between`: the guesses before the one at hand do not fit, and what is stored refutes.
use Prim.Native.Nat.{◌-◌, ◌≤◌}
use Rattle.tables.specs.Held.{held}
use Rattle.nogoods.specs.Nogoods.{guesses}
use Rattle.guessing.specs.Guessing.{fits_at, Derived}
use Rattle.guessing.specs.Bounds.{Between}
use Rattle.guessing.proofs.GuessesTried.{Trying}
use Rattle.guessing.proofs.guesses.Guessing.search_between.Given as goal

abbrev pub invariant-loop-guess : goal.invariant-loop-guess
invariant-loop-guess l = let p = l.self in
    Trying (fits_at (held p.tables.now) p.row.now p.base.now) l.nogoods l.kept l.guess
    × (l.from ≤ l.guess)
    × (l.guess ≤ l.from → Derived (held p.tables.now) p.row.now p.base.now l.from l.marks)
    × Between (held p.tables.now) p.row.now p.base.now l.between.low l.between.high

abbrev pub decreases-loop-guess : goal.decreases-loop-guess
decreases-loop-guess l = guesses - l.guess
