-- `search`: a no changes no byte; of an accepted file, what comes after its own questions.
use mathlib.Core.Path.{sym, ◌∙◌}
use Rattle.items.proofs.Passed.{passed}
use Rattle.reader.specs.Accepted.{Accepted}
use Rattle.reader.proofs.FileAsked.{file_yes}
use Rattle.search.proofs.SearchAsked.{search-file_no}
use Rattle.search.proofs.Outcomes.{searched_refused}
use Rattle.search.proofs.SearchMeaning.{searched_means}
use Rattle.search.proofs.search.Goals as goal

pub search_scanned-requires : goal.search_scanned-requires
search_scanned-requires c =
    let passed : Accepted c.args.file.now c.in_ok-counts.counts = file_yes _ _ (sym c.scan.ensures.value ∙ c.in_ok-counts.was) in
    (passed, c.scan.ensures.scanned passed.accepted)

pub returns-in_err-counts : goal.returns-in_err-counts
returns-in_err-counts c = let e = searched_refused _ _ _ _ _ _ (search-file_no _ _ _ _ _ _ (sym c.scan.ensures.value ∙ c.in_err-counts.was)) in let no = passed c.from_residual.ensures in
    record {
      fact = rw no e;
      search_means = rw (no, e) (searched_means _ _ _ _ _);
    }

pub returns : goal.returns
returns c = let e = c.search_scanned.ensures in
    record {
      fact = e;
      search_means = rw e (searched_means _ _ _ _ _);
    }
