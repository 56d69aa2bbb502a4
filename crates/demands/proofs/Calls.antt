-- Each public operation refuses exactly: the instances, by the one law.
use Prim.Native.Nat.{ℕ}
use mathlib.Core.Path.{ap}
use mathlib.Core.List.{List}
use lib.ListN.{length}
use Rattle.theory.specs.Rule.{count, exception}
use Rattle.items.specs.Question.{Question, no_number}
use Rattle.reader.specs.Questions.{program_of}
use Rattle.reader.specs.Accept.{accept_of}
use Rattle.questions.specs.Questions.{list_questions, order_questions, set_questions, row_questions, ask_list_questions, ask_order_questions, ask_set_questions, ask_row_questions}
use Rattle.run.specs.Outcome.{run_outcome, run_written}
use Rattle.keeping.specs.Outcome.{grounds_outcome, grounds_written}
use Rattle.judge.specs.Judged.{judged}
use Rattle.proofcheck.specs.Checked.{checked}
use Rattle.search.specs.Outcome.{search_outcome, search_written}
use Rattle.layers.specs.Outcome.{layered_outcome, ordered_by}
use Rattle.better.specs.Outcome.{choice_of}
use Rattle.better.proofs.Chosen.{none_handed}
use Rattle.generator.specs.Outcome.{load_outcome, load_written}
use Rattle.replies.specs.Reply.{file_of, counts_of, verdict_of, count_of, run_reply, search_reply, grounds_reply, layered_reply, load_reply, reply_of_choice}
use Rattle.demands.specs.Demands.{Demand1}
use Rattle.demands.specs.Calls.{RefusesExactly, list_numbers, order_numbers, set_numbers, row_numbers, accept_call, ask_call, ask_list_call, ask_order_call, ask_set_call, ask_row_call, run_call, grounds_call, judge_call, check_call, search_call, layered_call, choose_call, better_call, load_call}
use Rattle.demands.specs.RetentionCalls.{retention_accept_call, retention_run_call, retention_grounds_call, retention_judge_call, retention_check_call, retention_search_call, retention_layered_call, retention_better_call, retention_load_call}
use Rattle.demands.proofs.RefusesExactly.{Own, refuses_exactly}
use Rattle.demands.proofs.OwnNumbers.{file_own, after-file, list_own, order-own, set_own, row-own, run-own, grounds_own, judge_own, check_own, search-own, layered_own, better-own, load_own}
use Rattle.demands.proofs.CursorNext.{next-exactly, next_stays}
use Rattle.demands.proofs.PanelShows.{panel_shows, grounds_show, rendered}

pub accept_exactly : (file : List ℕ) → RefusesExactly (accept_call file)
unfolding accept_of
accept_exactly file =
    refuses_exactly 4 (accept_call file)
    (record { own_numbers = file_own file; all_yes = λ h. rw (h, accept_of); first-no = λ r h. rw (h, accept_of) })

-- the answer is that of the questions
ask-exactly : (qs : List Question) (ns : List ℕ) → Own ns qs → RefusesExactly (ask_call qs ns)
ask-exactly qs ns o =
    refuses_exactly 0 (ask_call qs ns) (record { own_numbers = o; all_yes = λ h. rw h; first-no = λ r h. rw h })

pub ask-list_exactly : (file list : List ℕ) → RefusesExactly (ask_list_call file list)
unfolding ask_list_questions
ask-list_exactly file list =
    let known = exception (program_of file) in
    ask-exactly _ _ (after-file list_numbers file (list_questions known list) (list_own known list))

pub ask-order_exactly : (file order : List ℕ) → RefusesExactly (ask_order_call file order)
unfolding ask_order_questions
ask-order_exactly file order =
    let known = exception (program_of file) in
    let n = count (program_of file) in
    ask-exactly _ _ (after-file order_numbers file (order_questions known n order) (order-own known n order))

pub ask-set_exactly : (file set : List ℕ) → RefusesExactly (ask_set_call file set)
unfolding ask_set_questions
ask-set_exactly file set =
    let n = (program_of file).facts in
    ask-exactly _ _ (after-file set_numbers file (set_questions n set) (set_own n set))

pub ask-row_exactly : (file : List ℕ) (fact : ℕ) (row : List ℕ) → RefusesExactly (ask_row_call file fact row)
unfolding ask_row_questions
ask-row_exactly file fact row =
    let n = (program_of file).facts in
    ask-exactly _ _ (after-file row_numbers file (row_questions n fact row) (row-own n fact row))

pub run-exactly : (file order facts rules steps : List ℕ) → RefusesExactly (run_call file order facts rules steps)
unfolding run_outcome run_written
run-exactly file order facts rules steps =
    refuses_exactly 2 (run_call file order facts rules steps)
    (record {
      own_numbers = run-own file order (length facts) (length rules) (length steps);
      all_yes = λ h. rw (h, run_outcome);
      first-no = λ r h. rw (h, run_outcome);
    })

pub grounds_exactly : (file order : List ℕ) (fact : ℕ) (facts rules steps : List ℕ) → RefusesExactly (grounds_call file order fact facts rules steps)
unfolding grounds_outcome grounds_written
grounds_exactly file order fact facts rules steps =
    refuses_exactly 1 (grounds_call file order fact facts rules steps)
    (record {
      own_numbers = grounds_own file order fact (length facts) (length rules) (length steps);
      all_yes = λ h. rw (h, grounds_outcome);
      first-no = λ r h. rw (h, grounds_outcome);
    })

pub judge_exactly : (file list set : List ℕ) → RefusesExactly (judge_call file list set)
unfolding judged
judge_exactly file list set =
    refuses_exactly 1 (judge_call file list set)
    (record {
      own_numbers = judge_own file list set;
      all_yes = λ h. rw (h, judged);
      first-no = λ r h. rw (h, judged);
    })

pub check_exactly : (file set : List ℕ) (fact : ℕ) (row : List ℕ) → RefusesExactly (check_call file set fact row)
unfolding checked
check_exactly file set fact row =
    refuses_exactly 1 (check_call file set fact row)
    (record {
      own_numbers = check_own file set fact row;
      all_yes = λ h. rw (h, checked);
      first-no = λ r h. rw (h, checked);
    })

pub search-exactly : (file facts rules steps order : List ℕ) → RefusesExactly (search_call file facts rules steps order)
unfolding search_outcome search_written
search-exactly file facts rules steps order =
    refuses_exactly 2 (search_call file facts rules steps order)
    (record {
      own_numbers = search-own file (length facts) (length rules) (length steps) (length order);
      all_yes = λ h. rw (h, search_outcome);
      first-no = λ r h. rw (h, search_outcome);
    })

pub layered_exactly : (file order : List ℕ) → RefusesExactly (layered_call file order)
unfolding layered_outcome ordered_by
layered_exactly file order =
    refuses_exactly 1 (layered_call file order)
    (record {
      own_numbers = layered_own file (length order);
      all_yes = λ h. rw (h, layered_outcome);
      first-no = λ r h. rw (h, layered_outcome);
    })

pub choose_exactly : (file first second : List ℕ) → RefusesExactly (choose_call file first second)
unfolding choice_of
choose_exactly file first second =
    refuses_exactly 1 (choose_call file first second)
    (record {
      own_numbers = better-own file first second;
      all_yes = λ h. rw (h, choice_of);
      first-no = λ r h. rw (h, choice_of);
    })

pub better-exactly : (file first second : List ℕ) → RefusesExactly (better_call file first second)
better-exactly file first second =
    refuses_exactly 1 (better_call file first second)
    (record {
      own_numbers = better-own file first second;
      all_yes = λ h. ap no_number h;
      first-no = λ r h. rw (h, none_handed file first second r h);
    })

pub load_exactly : (start facts rules : ℕ) (out : List ℕ) → RefusesExactly (load_call start facts rules out)
unfolding load_outcome load_written
load_exactly start facts rules out =
    refuses_exactly 1 (load_call start facts rules out)
    (record {
      own_numbers = load_own facts rules (length out);
      all_yes = λ h. rw (h, load_outcome);
      first-no = λ r h. rw (h, load_outcome);
    })

-- The operations for C. But for `retention_accept`, which has one count more, the plain numbers are those of the answer.
pub retention_accept_exactly : (file : List ℕ) → RefusesExactly (retention_accept_call file)
unfolding accept_of file_of
retention_accept_exactly file =
    refuses_exactly 5 (retention_accept_call file)
    (record { own_numbers = file_own file; all_yes = λ h. rw (h, accept_of); first-no = λ r h. rw (h, accept_of) })

pub retention_run_exactly : (file order facts rules steps : List ℕ) → RefusesExactly (retention_run_call file order facts rules steps)
unfolding run_reply counts_of
retention_run_exactly = run-exactly

pub retention_grounds_exactly : (file order : List ℕ) (fact : ℕ) (facts rules steps : List ℕ) → RefusesExactly (retention_grounds_call file order fact facts rules steps)
unfolding grounds_reply count_of
retention_grounds_exactly = grounds_exactly

pub retention_judge_exactly : (file list set : List ℕ) → RefusesExactly (retention_judge_call file list set)
unfolding verdict_of
retention_judge_exactly = judge_exactly

pub retention_check_exactly : (file set : List ℕ) (fact : ℕ) (row : List ℕ) → RefusesExactly (retention_check_call file set fact row)
unfolding verdict_of
retention_check_exactly = check_exactly

pub retention_search_exactly : (file facts rules steps order : List ℕ) → RefusesExactly (retention_search_call file facts rules steps order)
unfolding search_reply counts_of
retention_search_exactly = search-exactly

pub retention_layered_exactly : (file order : List ℕ) → RefusesExactly (retention_layered_call file order)
unfolding layered_reply count_of
retention_layered_exactly = layered_exactly

pub retention_better_exactly : (file first second : List ℕ) → RefusesExactly (retention_better_call file first second)
unfolding reply_of_choice
retention_better_exactly = choose_exactly

pub retention_load_exactly : (start facts rules : ℕ) (out : List ℕ) → RefusesExactly (retention_load_call start facts rules out)
unfolding load_reply count_of
retention_load_exactly = load_exactly

-- Demand 1.
pub every_call : Demand1
every_call =
    record {
      accept = accept_exactly;
      next = next-exactly;
      next_stays = next_stays;
      ask_list = ask-list_exactly;
      ask_order = ask-order_exactly;
      ask_set = ask-set_exactly;
      ask_row = ask-row_exactly;
      run = run-exactly;
      grounds = grounds_exactly;
      judge = judge_exactly;
      check = check_exactly;
      search = search-exactly;
      layered = layered_exactly;
      choose = choose_exactly;
      better = better-exactly;
      load = load_exactly;
      retention_accept = retention_accept_exactly;
      retention_run = retention_run_exactly;
      retention_grounds = retention_grounds_exactly;
      retention_judge = retention_judge_exactly;
      retention_check = retention_check_exactly;
      retention_search = retention_search_exactly;
      retention_layered = retention_layered_exactly;
      retention_better = retention_better_exactly;
      retention_load = retention_load_exactly;
      panel_shows = panel_shows;
      grounds_show = grounds_show;
      rendered = rendered;
    }
