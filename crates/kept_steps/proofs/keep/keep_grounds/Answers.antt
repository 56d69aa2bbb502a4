-- `keep_grounds`: the steps that are kept are those kept for the fact, and their rules are written in order.
use Prim.Native.Nat.{◌<◌}
use mathlib.Core.Path.{refl}
use native.Mathlib.Omega.{arith}
use lib.ListN.{length}
use Rattle.items.specs.Item.{narrow, max_facts}
use Rattle.kept_steps.specs.Keep.{place_of}
use Rattle.kept_steps.proofs.StepsPlaced.{own-few, own-placed}
use Rattle.kept_steps.proofs.KeepLaws.{kept_for}
use Rattle.kept_steps.proofs.StepsRetained.{grounds_kept, rules-kept}
use Rattle.kept_steps.proofs.keep.keep_grounds.Goals as goal
use Rattle.kept_steps.proofs.keep.keep_grounds.Goals.{After-place_steps}

-- the fact's own step is one of the row
own-inside : (c : After-place_steps) → place_of c.place_steps.new.places c.args.fact.0 < length c.args.row.now
own-inside c = own-placed c.args.row.now _ _ c.requires.traced c.place_steps.ensures c.requires.fact_value

pub bounds-places-number : goal.bounds-places-number
bounds-places-number c = own-few c.args.tables.now.well_formed c.args.row.now c.requires.traced _ c.requires.fact_value

pub keep_step-requires : goal.keep_step-requires
keep_step-requires c = let pre = c.requires in
    record { may_keep = record { few = pre.row_len_bound.0; cells = refl; traced = pre.traced; placed = c.place_steps.ensures; inside = own-inside (goal.at.keep_step-requires c).After-place_steps } }

pub returns : goal.returns
returns c = let kept = kept_for (max_facts narrow) c.requires.traced c.place_steps.ensures c.requires.fact_value c.keep_step.ensures.keeps in
    record {
      out_after = grounds_kept c.args.row.now c.requires.traced kept c.retain.new.out c.retain.result c.retain.ensures.out_after;
      upper_bound = c.retain.ensures.upper_bound;
      by_index = rules-kept c.args.row.now c.requires.traced kept c.retain.new.out c.retain.result c.retain.ensures.out_after (omega (arith, c.retain.ensures.upper_bound.0, c.retain.ensures.upper_bound.1, c.requires.row_len_bound.0));
    }
