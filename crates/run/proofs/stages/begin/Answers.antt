-- `begin`: from the outset, where no fact is barred.
use Prim.Native.Nat.{ℕ}
use Rattle.tables.specs.Held.{held}
use Rattle.std.specs.Prelude.{Some, IsSome}
use mathlib.Core.Path.{◌≡◌, ap, ◌∙◌}
use Rattle.theory.specs.Rule.{in_force, plain_rules}
use Rattle.items.specs.Item.{has}
use Rattle.tables.proofs.ProgramHeld.{facts_below}
use Rattle.marking.proofs.RulesMarked.{plain-mask}
use Rattle.run.specs.Stands.{Began}
use Rattle.run.proofs.MemoryShown.{only_plain, mask_plain, outset-room, began}
use Rattle.run.proofs.stages.begin.Goals as goal
use Rattle.run.proofs.stages.begin.Goals.{After-mark_plain, After-start}

-- the mask has the plain rules in force
masked : (c : After-mark_plain) → has c.mark_plain.new.marks ≡ plain_rules (held c.args.tables.now) (in_force (held c.args.tables.now))
masked c = ap has c.mark_plain.ensures ∙ plain-mask c.args.tables.now.well_formed

pub start-requires : goal.start-requires
start-requires c = let p = c.requires in
    let w = c.args.tables.now.well_formed in
    record {
      only_plain = (only_plain (held c.args.tables.now) c.mark_plain.new.marks (masked (goal.at.start-requires c).After-mark_plain), p.zeroed.0);
      room = (outset-room w.in_bounds (facts_below w) p.holds, p.zeroed.1, p.holds.fired_places);
    }

-- no fact is barred: the derivation ends with all that can be derived
begun : (c : After-start) → IsSome c.start.result × ((n : ℕ) → c.start.result ≡ Some n → Began (held c.args.tables.now) c.start.new.index c.start.new.marks c.start.new.missing c.start.new.fired n)
begun c = let w = c.args.tables.now.well_formed in
    let e = c.start.ensures in
    began w.in_bounds (facts_below w) c.requires.holds _ e.plain_indexed (mask_plain (held c.args.tables.now) c.mark_plain.new.marks (masked (goal.at.unwrap-requires c).After-mark_plain) _ e.masks) e.derived

pub unwrap-requires : goal.unwrap-requires
unwrap-requires c = (begun c).0

pub returns : goal.returns
returns c = (begun (goal.at.returns c).After-start).1 _ c.unwrap.ensures
