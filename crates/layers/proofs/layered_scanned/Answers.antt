-- `layered_scanned`: a no changes no byte; else the ranks are the least, and the order goes by them.
use Rattle.items.proofs.Passed.{passed}
use Rattle.layers.proofs.LayeredAnswers.{order-short, fits, not-layered, few_ranks, ordered}
use Rattle.layers.proofs.layered_scanned.Goals as goal

pub returns-then-order-from : goal.returns-then-order-from
returns-then-order-from c = order-short _ _ _ c.requires (rw c.from.ensures at c.if-order-from.true)

pub returns-in_err-ranks : goal.returns-in_err-ranks
returns-in_err-ranks c = rw (passed c.from_residual.ensures) (not-layered _ _ _ c.requires (rw c.from.ensures at c.if-order-from.false) c.in_err-ranks.ensures)

pub write_by_rank-requires : goal.write_by_rank-requires
write_by_rank-requires c = record {
  in_range = few_ranks _ c.args.order.now _ c.requires (rw c.from.ensures at c.if-order-from.false) c.args.tables.now.well_formed.in_bounds c.in_ok-ranks.ensures.0 _ c.in_ok-ranks.ensures.1;
  tables_in_bounds = fits _ c.args.order.now _ c.requires (rw c.from.ensures at c.if-order-from.false);
}

pub returns : goal.returns
returns c = ordered _ _ _ c.requires (rw c.from.ensures at c.if-order-from.false) c.args.tables.now.well_formed.in_bounds c.in_ok-ranks.ensures.0 _ c.in_ok-ranks.ensures.1 _ c.write_by_rank.ensures.order_after
