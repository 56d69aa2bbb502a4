-- `load_in_room`: any load fits in the room.
use Rattle.std.proofs.Common.{sym, ap, ◌∙◌, arith}
use Rattle.generator.specs.Outcome.{LoadOutcome, load_number}
use Rattle.generator.proofs.LoadAnswers.{never_short}
use Rattle.generator.proofs.load_in_room.Goals as goal

pub returns : goal.returns
returns c = let same = c.load.ensures.fact in
    record {
      fact = same;
      result_nonzero = λ e. never_short _ _ _ _ (omega arith) (sym (ap (λ (x : LoadOutcome). load_number x.answer) same) ∙ e);
    }
