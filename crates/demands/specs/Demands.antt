-- The three demands that were agreed with the customer. `demand_1`, `demand_2` and `demand_3` in proofs/Demands prove them. Every function's
-- proof shows that it ends, on any input.
use Rattle.std.specs.Prelude.{ℕ, ◌≡◌, not, ◌&&◌, true, List, ◌↔◌, ◌⊎◌}
use Rattle.std.proofs.Math.Option.{none}
use Rattle.theory.specs.Rule.{mem, FactSet, in_force, Alike, Same, constraint_fact}
use Rattle.theory.specs.Stable.{Stable, Proof, Admits, order_for}
use Rattle.cursors.specs.declared.cursor.Cursor.{Cursor}
use Rattle.reader.specs.Questions.{program_of, file_no}
use Rattle.items.specs.Item.{has}
use Rattle.questions.specs.Questions.{named_in, row_of, naming}
use Rattle.run.specs.Outcome.{run_outcome, run_number, RunOutcome}
use Rattle.judge.specs.Judged.{judged, judged_number, judged_verdict}
use Rattle.proofcheck.specs.Checked.{checked, checked_number, checked_verdict}
use Rattle.search.specs.Outcome.{search_outcome, search_number}
use Rattle.demands.specs.Calls.{RefusesExactly, Stays, accept_call, next_call, ask_list_call, ask_order_call, ask_set_call, ask_row_call, run_call, grounds_call, judge_call, check_call, search_call, layered_call, choose_call, better_call, load_call}
use Rattle.demands.specs.RetentionCalls.{retention_accept_call, retention_run_call, retention_grounds_call, retention_judge_call, retention_check_call, retention_search_call, retention_layered_call, retention_better_call, retention_load_call}
use Rattle.demands.specs.PanelShows.{PanelShows, GroundsShow, Rendered}
use Rattle.demands.specs.Results.{RunIs, JudgedStable, LeadsTo, SearchIs, LargeEnough, Searchable, Searches, FortyExactly, SameReplies, taken_steps}

-- 1. Any rule file with any order, fact set, proof or buffers gets its result or a refusal number, and a refusal returns its number with zero
-- counts and alters no byte lent: every public operation refuses exactly, whatever it is handed.
pub record Demand1 : Type 0 where
  pub accept : (file : List ℕ) → RefusesExactly (accept_call file)
  pub next : (bytes : List ℕ) (c : Cursor) → RefusesExactly (next_call bytes c)
  pub next_stays : (bytes : List ℕ) (c : Cursor) → Stays bytes c
  pub ask_list : (file list : List ℕ) → RefusesExactly (ask_list_call file list)
  pub ask_order : (file order : List ℕ) → RefusesExactly (ask_order_call file order)
  pub ask_set : (file set : List ℕ) → RefusesExactly (ask_set_call file set)
  pub ask_row : (file : List ℕ) (fact : ℕ) (row : List ℕ) → RefusesExactly (ask_row_call file fact row)
  pub run : (file order facts rules steps : List ℕ) → RefusesExactly (run_call file order facts rules steps)
  pub grounds : (file order : List ℕ) (fact : ℕ) (facts rules steps : List ℕ) → RefusesExactly (grounds_call file order fact facts rules steps)
  pub judge : (file list set : List ℕ) → RefusesExactly (judge_call file list set)
  pub check : (file set : List ℕ) (fact : ℕ) (row : List ℕ) → RefusesExactly (check_call file set fact row)
  pub search : (file facts rules steps order : List ℕ) → RefusesExactly (search_call file facts rules steps order)
  pub layered : (file order : List ℕ) → RefusesExactly (layered_call file order)
  pub choose : (file first second : List ℕ) → RefusesExactly (choose_call file first second)
  pub better : (file first second : List ℕ) → RefusesExactly (better_call file first second)
  pub load : (start facts rules : ℕ) (out : List ℕ) → RefusesExactly (load_call start facts rules out)
  pub retention_accept : (file : List ℕ) → RefusesExactly (retention_accept_call file)
  pub retention_run : (file order facts rules steps : List ℕ) → RefusesExactly (retention_run_call file order facts rules steps)
  pub retention_grounds : (file order : List ℕ) (fact : ℕ) (facts rules steps : List ℕ) → RefusesExactly (retention_grounds_call file order fact facts rules steps)
  pub retention_judge : (file list set : List ℕ) → RefusesExactly (retention_judge_call file list set)
  pub retention_check : (file set : List ℕ) (fact : ℕ) (row : List ℕ) → RefusesExactly (retention_check_call file set fact row)
  pub retention_search : (file facts rules steps order : List ℕ) → RefusesExactly (retention_search_call file facts rules steps order)
  pub retention_layered : (file order : List ℕ) → RefusesExactly (retention_layered_call file order)
  pub retention_better : (file first second : List ℕ) → RefusesExactly (retention_better_call file first second)
  pub retention_load : (start facts rules : ℕ) (out : List ℕ) → RefusesExactly (retention_load_call start facts rules out)
  -- The texts refuse nothing: the panel's, which `retention_panel` hands out too, shows the run or the file's refusal, and that of the grounds these
  -- or their refusal. A buffer is left with the text in front exactly where it fits; that the reply is its length, the contracts of both `render` and of `retention_panel` say.
  pub panel_shows : (file : List ℕ) → PanelShows file
  pub grounds_show : (file : List ℕ) (fact : ℕ) → GroundsShow file fact
  pub rendered : (text out : List ℕ) → Rendered text out

-- 2. The run equals the forward chaining for the order given, its facts are stable for the file less the rules set aside, the judge says stable
-- exactly when a set is, and the proof check says yes exactly when a list is a proof of the asked fact that the set admits.
pub record Demand2 : Type 0 where
  pub run : (file order facts rules steps : List ℕ) → run_number (run_outcome file order facts rules steps).answer ≡ 0 → RunIs file order facts rules steps (run_outcome file order facts rules steps)
  -- What is said of a run leaves no step open.
  pub one_row : (file order : List ℕ) {facts rules steps facts' rules' steps' : List ℕ} (o o' : RunOutcome) → RunIs file order facts rules steps o → RunIs file order facts' rules' steps' o' → taken_steps o ≡ taken_steps o'
  pub run_judged : (file order facts rules steps : List ℕ) → run_number (run_outcome file order facts rules steps).answer ≡ 0 → JudgedStable file (run_outcome file order facts rules steps)
  pub judge : (file list set : List ℕ) → judged_number (judged file list set) ≡ 0 → (judged_verdict (judged file list set) ≡ 1) ↔ Stable (program_of file) (λ i. in_force (program_of file) i && not (mem i (named_in list))) (has set)
  pub check : (file set : List ℕ) (fact : ℕ) (row : List ℕ) → checked_number (checked file set fact row) ≡ 0 → (checked_verdict (checked file set fact row) ≡ 1) ↔ (Proof (program_of file) (in_force (program_of file)) (row_of row) fact × Admits (program_of file) (has set) (row_of row))
  -- Repeats within a rule change nothing; and neither does what a withheld rule says (document 02, wish 6): every operation works on the rules in force.
  pub repeats : (s t : List ℕ) → file_no s ≡ none → file_no t ≡ none → Alike (program_of s) (program_of t) → SameReplies s t

-- 3. For every accepted file with at most 16 constraint facts and large enough buffers, the search answers 41 exactly when there is no stable
-- set, else the earliest one, with an order that leads the run there and a proof for each of its facts and for no other.
pub record Demand3 : Type 0 where
  pub search : (file facts rules steps order : List ℕ) → Searchable file facts rules steps order → Searches file facts rules steps order (search_outcome file facts rules steps order)
  -- Whatever it is handed: a result is one, and 41 says that no set is stable.
  pub found : (file facts rules steps order : List ℕ) → search_number (search_outcome file facts rules steps order).answer ≡ 0 → SearchIs file facts rules steps order (search_outcome file facts rules steps order)
  pub said_none : (file facts rules steps order : List ℕ) → search_number (search_outcome file facts rules steps order).answer ≡ 41 → (M : FactSet) → Stable (program_of file) (in_force (program_of file)) M → ⊥
  pub forty : (file facts rules steps order : List ℕ) → file_no file ≡ none → LargeEnough file facts rules steps order → FortyExactly file (search_outcome file facts rules steps order)
  -- Two different stable sets differ on a constraint fact.
  pub stable_apart : (file : List ℕ) (M N : FactSet) → Stable (program_of file) (in_force (program_of file)) M → Stable (program_of file) (in_force (program_of file)) N → Same M N ⊎ ((k : ℕ) × (constraint_fact (program_of file) (in_force (program_of file)) k ≡ true) × (M k ≡ N k → ⊥))
  -- Some order leads to every stable set, not only to the earliest.
  pub every_stable : (file : List ℕ) → file_no file ≡ none → (M : FactSet) → Stable (program_of file) (in_force (program_of file)) M → LeadsTo file (naming (order_for (program_of file) (in_force (program_of file)) M)) M
