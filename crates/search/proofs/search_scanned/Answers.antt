-- `search_scanned`: a no changes no byte; where all questions but the last got yes, the search of the accepted file.
use mathlib.Core.Path.{sym, ap, ◌∙◌}
use Rattle.items.proofs.Passed.{passed}
use Rattle.reader.specs.Asked.{counts_of}
use Rattle.reader.proofs.FileAsked.{told-counts}
use Rattle.search.proofs.SearchAsked.{search-refused, search-asked}
use Rattle.search.proofs.Outcomes.{searched_refused}
use Rattle.search.proofs.search_scanned.Goals as goal

pub ask_search-requires : goal.ask_search-requires
ask_search-requires c = told-counts c.requires.0 ∙ sym (ap counts_of c.requires.1.program)

pub returns-in_err-ask_search : goal.returns-in_err-ask_search
returns-in_err-ask_search c = rw (passed c.from_residual.ensures) (searched_refused _ _ _ _ _ _
    (search-refused _ _ _ _ _ c.requires.0.accepted _ c.requires.1.program _ (sym c.in_err-ask_search.was ∙ c.ask_search.ensures)))

pub search_accepted-requires : goal.search_accepted-requires
search_accepted-requires c = record {
  order_value = search-asked _ _ _ _ _ c.requires.0.accepted _ c.requires.1.program (sym c.in_ok-ask_search.was ∙ c.ask_search.ensures);
  tabled = c.requires.1;
}

pub returns : goal.returns
returns c = c.search_accepted.ensures
