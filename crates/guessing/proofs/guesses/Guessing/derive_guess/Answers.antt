-- `derive_guess`: the facts of the row that the guess leaves out are listed, and held out beside those of the base.
use native.Mathlib.Omega.{arith}
use mathlib.Core.Path.{sym}
use lib.Seq.{length-take-le}
use Rattle.guessing.proofs.GuessDerived.{left-facts, guess_derived}
use Rattle.guessing.proofs.guesses.Guessing.derive_guess.Goals as goal

-- the facts listed are as many as `list_out` answers
pub hold_out-requires-clause-to_in_bounds : goal.hold_out-requires-clause-to_in_bounds
hold_out-requires-clause-to_in_bounds c = let p = c.args.self.now in
    (omega (arith, length-take-le c.list_out-n.result c.list_out-n.new.outs (omega arith)), left-facts p.tables.now.well_formed p.at_base _ _ c.list_out-n.ensures.1)

pub returns : goal.returns
returns c = let p = c.args.self.now in
    guess_derived p.tables.now.well_formed p.at_base _ _ _ _ _ c.list_out-n.ensures.1 (sym (length-take-le _ _ (omega arith))) c.hold_out.ensures.settled_2 c.hold_out.ensures.held_too
