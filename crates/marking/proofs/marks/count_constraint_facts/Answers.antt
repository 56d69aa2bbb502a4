-- `count_constraint_facts`: as many marks as constraint facts.
use mathlib.Core.Path.{◌∙◌}
use native.Mathlib.Omega.{arith}
use Rattle.items.specs.Item.{narrow, max_facts}
use Rattle.tables.proofs.ProgramHeld.{facts_below}
use Rattle.marking.proofs.RulesMarked.{painted_count}
use Rattle.marking.proofs.marks.count_constraint_facts.Goals as goal

pub count_marked-requires : goal.count_marked-requires
count_marked-requires c = omega (arith, c.facts-facts.ensures, facts_below c.args.tables.now.well_formed)

pub returns : goal.returns
returns c =
    c.count_marked.ensures
    ∙ painted_count (max_facts narrow) _ _ _ c.facts-facts.ensures (omega (arith, facts_below c.args.tables.now.well_formed)) _ c.mark_constraint_facts.ensures
