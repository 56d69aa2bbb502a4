-- `start`: from the empty set the facts of the set enter; then the rules that lack nothing wait.
use mathlib.Core.Path.{refl}
use Rattle.tables.specs.Held.{held}
use Rattle.theory.specs.Rule.{nothing}
use Rattle.bits.proofs.EmptyRows.{empty-row}
use Rattle.premises.specs.Premises.{plain_ones}
use Rattle.closure.proofs.NextPoised.{ripe-poised}
use Rattle.closure.proofs.start.start.Goals as goal

pub index_plain-requires : goal.index_plain-requires
index_plain-requires c = let p = c.requires in
    record {
      only_plain = p.only_plain.0;
      zeroed = (p.only_plain.1, p.room.1, empty-row nothing (λ k. refl));
    }

pub derive-requires : goal.derive-requires
derive-requires c = let p = c.requires in let filled = c.index_plain.ensures in let entered = c.enter_set.ensures (plain_ones (held c.args.tables.now)) filled.plain_indexed.rows filled.counted filled.flags in
    record {
      plain_indexed = filled.plain_indexed;
      room = (p.room.0, p.room.2);
      poised = ripe-poised filled.plain_indexed entered.0 entered.1;
    }
