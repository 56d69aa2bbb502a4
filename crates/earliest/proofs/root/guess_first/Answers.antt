-- `guess_first`: the index, what is derived with nothing held out, and the first guesses from there.
use Rattle.tables.specs.Held.{held}
use Rattle.earliest.specs.Root.{AtRoot}
use Rattle.earliest.proofs.RootFound.{root_base, none_out, all_in}
use Rattle.earliest.proofs.root.guess_first.Goals as goal
use Rattle.earliest.proofs.root.guess_first.Goals.{After-hold_none}

-- nothing is held out at the base
rooted : (c : After-hold_none) → AtRoot (held c.args.tables.now) c.args.row.now c.hold_none.new.marks
rooted c = let p = c.requires in root_base _ p.row_guessed.0 _ p.row_guessed.1 (none_out _ _ p.fact c.hold_none.ensures.held_too)

pub invariant_of-guessing : goal.invariant_of-guessing
invariant_of-guessing c = record {
  indexed = c.index_rules.ensures.indexed;
  at_base = record { in-force = all_in _ c.index_rules.new.index c.index_rules.ensures.left_out; settled = c.hold_none.ensures.settled; row_base = (rooted (goal.at.invariant_of-guessing c).After-hold_none).row_base };
}

pub returns-clause-at_root : goal.returns-clause-at_root
returns-clause-at_root c = rooted (goal.at.returns-clause-at_root c).After-hold_none
