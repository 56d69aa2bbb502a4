-- `place_steps`: the facts of the steps passed have their places.
use Rattle.kept_steps.proofs.StepsPlaced.{rule_known, fact-few, one_placed, all_placed}
use Rattle.kept_steps.proofs.keep.place_steps.Goals as goal

pub conclusion-fact-requires : goal.conclusion-fact-requires
conclusion-fact-requires c = rule_known _ c.args.row.now c.requires.traced _ c.loop-k-test.true

pub bounds-places-from : goal.bounds-places-from
bounds-places-from c = rw (c.from.ensures, c.conclusion-fact.ensures) (fact-few c.args.tables.now.well_formed c.args.row.now c.requires.traced _ c.loop-k-test.true)

pub loop-k-preserved : goal.loop-k-preserved
loop-k-preserved c = rw (c.from.ensures, c.conclusion-fact.ensures) (one_placed c.requires.traced c.loop-k.invariant c.loop-k-test.true (fact-few c.args.tables.now.well_formed c.args.row.now c.requires.traced _ c.loop-k-test.true))

pub returns : goal.returns
returns c = all_placed c.requires.traced c.loop-k.invariant c.loop-k-test.false
