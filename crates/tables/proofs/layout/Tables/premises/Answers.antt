-- `premises`: the part of their row between the rule's start and the next rule's.
use mathlib.Core.Path.{ap, ◌∙◌}
use native.Mathlib.Omega.{arith}
use Rattle.std.proofs.Common.{rules}
use Rattle.theory.specs.Rule.{all}
use Rattle.tables.proofs.ProgramHeld.{in_table, known}
use Rattle.tables.proofs.PartsHeld.{premises-part, premises-few, premises-below}
use Rattle.tables.proofs.layout.Tables.premises.Goals as goal

pub bounds-self-number : goal.bounds-self-number
bounds-self-number c = omega (arith, in_table c.args.self.now.well_formed c.requires)

pub bounds-self-next : goal.bounds-self-next
bounds-self-next c = omega (arith, in_table c.args.self.now.well_formed c.requires)

pub slice_bounds-result-count : goal.slice_bounds-result-count
slice_bounds-result-count c = let w = c.args.self.now.well_formed in omega (arith, c.wide-from.ensures, c.wide-end.ensures, w.premise_spans.low _ (known w c.requires))

pub slice_bounds-result-start : goal.slice_bounds-result-start
slice_bounds-result-start c = let w = c.args.self.now.well_formed in omega (arith, c.wide-from.ensures, c.wide-end.ensures, w.premise_spans.low _ (known w c.requires))

pub slice_bounds-result-end : goal.slice_bounds-result-end
slice_bounds-result-end c = let w = c.args.self.now.well_formed in omega (arith, c.wide-from.ensures, c.wide-end.ensures, w.premise_spans.high _ (known w c.requires))

pub returns : goal.returns
returns c =
    let w = c.args.self.now.well_formed in
    let e = premises-part w c.requires (search rules) _ _ c.wide-from.ensures c.wide-end.ensures in
    record { elements = e; few = premises-few w c.requires (search rules) _ _ c.wide-from.ensures c.wide-end.ensures; facts_below = ap (all _) e ∙ premises-below w c.requires }
