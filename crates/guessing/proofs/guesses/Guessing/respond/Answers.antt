-- `respond`: what the guess derives, gathered.
use Rattle.guessing.proofs.GuessDerived.{row-facts}
use Rattle.guessing.proofs.BoundsNarrowed.{gathered_responds}
use Rattle.guessing.proofs.guesses.Guessing.respond.Goals as goal

pub gather-requires : goal.gather-requires
gather-requires c = let p = c.args.self.now in (p.at_base.row_base.few, row-facts p.tables.now.well_formed p.at_base.row_base)

pub returns : goal.returns
returns c = let p = c.args.self.now in gathered_responds (row-facts p.tables.now.well_formed p.at_base.row_base) c.derive_guess.ensures c.gather.ensures
