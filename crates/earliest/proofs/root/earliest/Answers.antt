-- `earliest`: a guess that fits, none, or what the blocks find.
use native.Mathlib.Omega.{arith}
use Rattle.tables.proofs.ProgramHeld.{facts_below}
use Rattle.earliest.proofs.RootFound.{nothing-shown, fits-shown, found_shown}
use Rattle.earliest.proofs.root.earliest.Goals as goal

pub returns-in-Fits : goal.returns-in-Fits
returns-in-Fits c = fits-shown c.args.tables.now.well_formed.in_bounds (omega (arith, facts_below c.args.tables.now.well_formed)) c.guess_first.ensures.at_root _ _ (c.guess_first.ensures.sought.found c.in-Fits.is) c.keep_facts.ensures

pub returns-in-Nothing : goal.returns-in-Nothing
returns-in-Nothing c = nothing-shown c.args.tables.now.well_formed.in_bounds (omega (arith, facts_below c.args.tables.now.well_formed)) c.guess_first.ensures.at_root (c.guess_first.ensures.sought.none_fits c.in-Nothing.is)

pub returns-in-Open : goal.returns-in-Open
returns-in-Open c = found_shown c.args.tables.now.well_formed.in_bounds (omega (arith, facts_below c.args.tables.now.well_formed)) c.guess_first.ensures.at_root _ c.find.ensures
