-- A file that is refused with a number of its own questions is refused so by every operation that asks them.
use Rattle.std.specs.Prelude.{ℕ, ◌≡◌, true, List, eqb}
use Rattle.theory.specs.Rule.{all}
use Rattle.panel_lines.specs.Text.{panel_text, line}
use Rattle.grounds_text.specs.Text.{grounds_text}
use Rattle.demands.specs.Calls.{Call, accept_call, ask_list_call, ask_order_call, ask_set_call, ask_row_call, run_call, grounds_call, judge_call, check_call, search_call, layered_call, choose_call, better_call}
use Rattle.demands.specs.RetentionCalls.{retention_accept_call, retention_run_call, retention_grounds_call, retention_judge_call, retention_check_call, retention_search_call, retention_layered_call, retention_better_call}

-- A refusal with a number: every count is 0, and every lent buffer is as it was.
pub record RefusedWith (n : ℕ) (c : Call) : Type 0 where
  pub refused : c.reply.number ≡ n
  pub counts_zero : all (eqb 0) c.reply.counts ≡ true
  pub lent_kept : c.reply.left ≡ c.lent

-- Every operation that asks the file's questions, with whatever else it is handed.
pub record EachRefuses (n : ℕ) (file : List ℕ) : Type 0 where
  pub accept : RefusedWith n (accept_call file)
  pub ask_list : (list : List ℕ) → RefusedWith n (ask_list_call file list)
  pub ask_order : (order : List ℕ) → RefusedWith n (ask_order_call file order)
  pub ask_set : (set : List ℕ) → RefusedWith n (ask_set_call file set)
  pub ask_row : (fact : ℕ) (row : List ℕ) → RefusedWith n (ask_row_call file fact row)
  pub run : (order facts rules steps : List ℕ) → RefusedWith n (run_call file order facts rules steps)
  pub grounds : (order : List ℕ) (fact : ℕ) (facts rules steps : List ℕ) → RefusedWith n (grounds_call file order fact facts rules steps)
  pub judge : (list set : List ℕ) → RefusedWith n (judge_call file list set)
  pub check : (set : List ℕ) (fact : ℕ) (row : List ℕ) → RefusedWith n (check_call file set fact row)
  pub search : (facts rules steps order : List ℕ) → RefusedWith n (search_call file facts rules steps order)
  pub layered : (order : List ℕ) → RefusedWith n (layered_call file order)
  pub choose : (first second : List ℕ) → RefusedWith n (choose_call file first second)
  pub better : (first second : List ℕ) → RefusedWith n (better_call file first second)
  pub retention_accept : RefusedWith n (retention_accept_call file)
  pub retention_run : (order facts rules steps : List ℕ) → RefusedWith n (retention_run_call file order facts rules steps)
  pub retention_grounds : (order : List ℕ) (fact : ℕ) (facts rules steps : List ℕ) → RefusedWith n (retention_grounds_call file order fact facts rules steps)
  pub retention_judge : (list set : List ℕ) → RefusedWith n (retention_judge_call file list set)
  pub retention_check : (set : List ℕ) (fact : ℕ) (row : List ℕ) → RefusedWith n (retention_check_call file set fact row)
  pub retention_search : (facts rules steps order : List ℕ) → RefusedWith n (retention_search_call file facts rules steps order)
  pub retention_layered : (order : List ℕ) → RefusedWith n (retention_layered_call file order)
  pub retention_better : (first second : List ℕ) → RefusedWith n (retention_better_call file first second)
  -- the panel, and the text of the grounds, say E and the number
  pub panel-text : panel_text file ≡ line 0x45 n
  pub grounds-text : (fact : ℕ) → grounds_text file fact ≡ line 0x45 n
