-- `search_accepted`: where no set is found no byte is changed; where one is, the file is run to it.
use mathlib.Core.Path.{◌∙◌}
use Rattle.theory.specs.Rule.{in_force}
use Rattle.theory.specs.Search as theory
use Rattle.reader.specs.Questions.{program_of}
use Rattle.earliest.specs.Root.{Shown}
use Rattle.search.proofs.SearchAsked.{all_yes}
use Rattle.search.proofs.Outcomes.{searched_none, searched_found}
use Rattle.search.proofs.found.search_accepted.Goals as goal
use Rattle.search.proofs.found.search_accepted.Goals.{After-find_set}

-- what was found, of the file's program
shown : (c : After-find_set) → Shown (theory.search (program_of c.args.file.now) (in_force (program_of c.args.file.now))) c.find_set.result
shown c = rw c.requires.tabled.program at c.find_set.ensures

pub find_set-requires : goal.find_set-requires
find_set-requires c = let y = all_yes _ _ _ _ _ c.requires.order_value in
    rw c.requires.tabled.program y.few_guesses

pub returns-in_default : goal.returns-in_default
returns-in_default c = searched_none _ _ _ _ _ c.requires.order_value _ c.in_default.is (shown (goal.at.returns-in_default c).After-find_set)

pub run_to-requires : goal.run_to-requires
run_to-requires c = record {
  order_value = c.requires.order_value;
  tabled = c.requires.tabled;
}

pub returns : goal.returns
returns c = c.run_to.ensures ∙ searched_found _ _ _ _ _ c.requires.order_value _ _ c.in-Some.is (shown (goal.at.returns c).After-find_set)
