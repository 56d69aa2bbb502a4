-- `layered`: a no changes no byte; of an accepted file, what comes after its own questions.
use mathlib.Core.Path.{sym, ap, ◌∙◌}
use Rattle.items.proofs.Passed.{passed}
use Rattle.reader.specs.Asked.{counts_of}
use Rattle.reader.proofs.FileAsked.{file_yes, told-counts}
use Rattle.questions.proofs.OperationAsked.{scan_passed}
use Rattle.layers.proofs.LayeredAnswers.{file-no, program-layered}
use Rattle.layers.proofs.LayersMeaning.{layered_means}
use Rattle.layers.proofs.layered.Goals as goal

pub layered_scanned-requires : goal.layered_scanned-requires
layered_scanned-requires c = let a = file_yes _ _ (sym c.scan.ensures.value ∙ c.in_ok-counts.was) in let t = c.scan.ensures.scanned a.accepted in told-counts a ∙ sym (ap counts_of t.program)

pub returns-in_err-counts : goal.returns-in_err-counts
returns-in_err-counts c = let e = file-no _ _ _ (sym c.scan.ensures.value ∙ c.in_err-counts.was) in let no = passed c.from_residual.ensures in
    record {
      fact = rw no e;
      layered_means = rw (no, e) (layered_means _ _);
    }

pub returns : goal.returns
returns c = let e = c.layered_scanned.ensures ∙ program-layered _ _ _ (scan_passed _ _ _ (sym c.scan.ensures.value ∙ c.in_ok-counts.was) c.scan.ensures.scanned) in
    record {
      fact = e;
      layered_means = rw e (layered_means _ _);
    }
