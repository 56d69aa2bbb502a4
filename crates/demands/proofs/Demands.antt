-- The three demands.
use Rattle.theory.specs.Rule.{in_force}
use Rattle.theory.proofs.Stable.{stable_apart}
use Rattle.reader.specs.Questions.{program_of}
use Rattle.judge.proofs.Meaning.{judged-means}
use Rattle.proofcheck.proofs.Meaning.{checked-means}
use Rattle.search.proofs.SearchMeaning.{searched_means}
use Rattle.demands.specs.Demands.{Demand1, Demand2, Demand3}
use Rattle.demands.proofs.Calls.{every_call}
use Rattle.demands.proofs.RunIs.{run_is, steps-determined}
use Rattle.demands.proofs.RunJudged.{run_judged}
use Rattle.demands.proofs.SameReplies.{same_replies}
use Rattle.demands.proofs.LeadsTo.{leads-to}
use Rattle.demands.proofs.SearchIs.{search_is}
use Rattle.demands.proofs.Searches.{searches, forty_exactly}

pub demand_1 : Demand1
demand_1 = every_call

pub demand_2 : Demand2
demand_2 =
    record {
      run = run_is;
      one_row = steps-determined;
      run_judged = run_judged;
      judge = λ file list set. (judged-means file list set).stable_exactly;
      check = λ file set fact row. (checked-means file set fact row).yes_exactly;
      repeats = same_replies;
    }

pub demand_3 : Demand3
demand_3 =
    record {
      search = searches;
      found = search_is;
      said_none = λ file facts rules steps order e. (searched_means file facts rules steps order).none_stable e;
      forty = forty_exactly;
      stable_apart = λ file. stable_apart (program_of file) (in_force (program_of file));
      every_stable = leads-to;
    }
