-- `find_set`: the constraint facts are marked and listed, and the set is looked for over them.
use Prim.Native.Nat.{◌≤◌}
use mathlib.Core.Path.{◌≡◌, refl, sym, ◌∙◌}
use native.Mathlib.Omega.{arith}
use lib.ListN.{take}
use lib.Seq.{length-take-le}
use Rattle.tables.specs.Held.{held}
use Rattle.theory.specs.Rule.{in_force}
use Rattle.theory.specs.Search.{guessed}
use Rattle.items.specs.Item.{narrow, max_facts}
use Rattle.tables.proofs.ProgramHeld.{facts_below}
use Rattle.search.proofs.Guesses.{guesses-counted, guesses-listed, taken-few}
use Rattle.search.proofs.found.find_set.Goals as goal
use Rattle.search.proofs.found.find_set.Goals.{After-list_down-n}

-- the row has the facts to guess
listed : (c : After-list_down-n) → take c.list_down-n.result c.list_down-n.new.row ≡ guessed (held c.args.tables.now) (in_force (held c.args.tables.now))
listed c = c.list_down-n.ensures.1 ∙ guesses-listed _ (omega (arith, facts_below c.args.tables.now.well_formed)) _ c.mark_constraint_facts.ensures _ c.facts.ensures

pub list_down-n-requires : goal.list_down-n-requires
list_down-n-requires c =
    let few : (held c.args.tables.now).facts ≤ max_facts narrow = omega (arith, facts_below c.args.tables.now.well_formed) in
    (omega arith, omega (arith, guesses-counted _ few _ c.mark_constraint_facts.ensures _ c.facts.ensures), refl)

pub slice_bounds-earliest-end : goal.slice_bounds-earliest-end
slice_bounds-earliest-end c = sym (length-take-le _ _ (omega arith))

pub earliest-requires : goal.earliest-requires
earliest-requires c = (listed (goal.at.earliest-requires c).After-list_down-n, taken-few _ _ _ c.list_down-n.ensures.0)
