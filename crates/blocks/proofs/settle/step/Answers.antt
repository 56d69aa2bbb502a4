-- `step`: where something is new, those that ask it wait.
use Prim.Native.Nat.{◌<◌}
use mathlib.Core.Path.{◌≡◌, ap}
use mathlib.Core.Bool.{◌||◌}
use native.Mathlib.Omega.{arith}
use Rattle.tables.specs.Held.{held}
use Rattle.theory.specs.Rule.{rule}
use Rattle.items.specs.Item.{narrow, max_facts}
use Rattle.bits.specs.Flags.{Flags}
use Rattle.premises.specs.Premises.{asks_at}
use Rattle.blocks.proofs.RulesPlaced.{fact_below}
use Rattle.blocks.proofs.LanesFired.{stepped_new}
use Rattle.blocks.proofs.settle.step.Goals as goal

pub join_row-requires : goal.join_row-requires
join_row-requires c = omega (arith, fact_below c.args.tables.now.well_formed c.requires.0 c.conclusion-fact.ensures)

pub returns-then-fired : goal.returns-then-fired
returns-then-fired c R p a f =
    let fact : c.conclusion-fact.result.0 ≡ (rule (held c.args.tables.now) c.args.rule.0).conclusion = ap (λ x. x.0) c.conclusion-fact.ensures in
    let small : c.conclusion-fact.result.0 < max_facts narrow = fact_below c.args.tables.now.well_formed c.requires.0 c.conclusion-fact.ensures in
    let joined : Flags (λ k. p k || asks_at (held c.args.tables.now) R c.conclusion-fact.result.0 k) c.join_row.new.row = c.join_row.ensures (max_facts narrow) p (asks_at (held c.args.tables.now) R) small a.matrix f in
    stepped_new c.fire-fired.ensures c.if-fired.true (rw fact at joined)
