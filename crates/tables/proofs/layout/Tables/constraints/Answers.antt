-- `constraints`: the part of their row between the rule's start and the next rule's, from the back.
use mathlib.Core.Path.{ap, ◌∙◌}
use native.Mathlib.Omega.{arith}
use Rattle.std.proofs.Common.{rules}
use Rattle.theory.specs.Rule.{all}
use Rattle.tables.proofs.ProgramHeld.{in_table, known}
use Rattle.tables.proofs.PartsHeld.{constraints-part, constraints-few, constraints-below}
use Rattle.tables.proofs.layout.Tables.constraints.Goals as goal

pub bounds-self-number : goal.bounds-self-number
bounds-self-number c = omega (arith, in_table c.args.self.now.well_formed c.requires)

pub bounds-self-next : goal.bounds-self-next
bounds-self-next c = omega (arith, in_table c.args.self.now.well_formed c.requires)

pub overflow_sub-result : goal.overflow_sub-result
overflow_sub-result c = let w = c.args.self.now.well_formed in omega (arith, c.wide-end.ensures, w.constraint_spans.high _ (known w c.requires))

pub overflow_sub-result-2 : goal.overflow_sub-result-2
overflow_sub-result-2 c = let w = c.args.self.now.well_formed in omega (arith, c.wide-from.ensures, w.constraint_spans.low _ (known w c.requires), w.constraint_spans.high _ (known w c.requires))

pub slice_bounds-result-count : goal.slice_bounds-result-count
slice_bounds-result-count c = let w = c.args.self.now.well_formed in omega (arith, c.wide-from.ensures, c.wide-end.ensures, w.constraint_spans.low _ (known w c.requires), w.constraint_spans.high _ (known w c.requires))

pub slice_bounds-result-start : goal.slice_bounds-result-start
slice_bounds-result-start c = let w = c.args.self.now.well_formed in omega (arith, c.wide-from.ensures, c.wide-end.ensures, w.constraint_spans.low _ (known w c.requires), w.constraint_spans.high _ (known w c.requires))

pub returns : goal.returns
returns c =
    let w = c.args.self.now.well_formed in
    let e = constraints-part w c.requires (search rules) _ _ c.wide-from.ensures c.wide-end.ensures in
    record { elements = e; few = constraints-few w c.requires (search rules) _ _ c.wide-from.ensures c.wide-end.ensures; facts_below = ap (all _) e ∙ constraints-below w c.requires }
