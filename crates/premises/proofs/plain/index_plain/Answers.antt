-- `index_plain`: the mask is put, then the rows are filled.
use mathlib.Core.Path.{◌∙◌}
use Rattle.tables.specs.Held.{held}
use Rattle.premises.proofs.MaskPut.{masks_stay, plain-indexed}
use Rattle.premises.proofs.plain.index_plain.Goals as goal

pub returns : goal.returns
returns c = let P = held c.args.tables.now in let mask = c.args.mask.now in let put = c.put_mask.ensures in let filled = c.fill_plain.ensures in let same = filled.same_from in
    record {
      rows_are = filled.rows_are;
      plain_indexed = plain-indexed P mask c.requires.only_plain (masks_stay mask put.masks same) (same.places ∙ put.words) filled.asked;
      masks = masks_stay mask put.masks same;
      counted = filled.counted;
      flags = filled.flags;
    }
