-- A number of the file's questions is the reply of every operation that asks them.
use Prim.Native.Nat.{ℕ, ◌<◌}
use native.Mathlib.Omega.{arith}
use mathlib.Core.Path.{◌≡◌, refl, sym, ap, ◌∙◌}
use mathlib.Core.List.{List, ◌++◌}
use mathlib.Core.Option.{Option, none, some, map}
use Rattle.items.specs.declared.refusal.Refusal.{Refusal}
use Rattle.items.specs.Question.{number, Question, first_no, no_number}
use Rattle.items.proofs.FirstNo.{first-no}
use Rattle.reader.specs.Questions.{file_questions, file_no}
use Rattle.questions.specs.Questions.{ask_list_questions, ask_order_questions, ask_set_questions, ask_row_questions, run_questions, grounds_questions, judge_questions, check_questions, early_questions, search_questions, layered_questions, better_questions}
use Rattle.grounds_text.specs.Text.{text_questions}
use Rattle.demands.specs.Calls.{first_number, Call, RefusesExactly}
use Rattle.demands.specs.EachRefuses.{RefusedWith, EachRefuses}
use Rattle.demands.proofs.Demands.{demand_1}

-- A first no stops, whatever is asked behind it.
stops_first : (xs ys : List Question) {n : ℕ} → first_number xs ≡ some n → first_number (xs ++ ys) ≡ some n
stops_first xs ys {n} e = go (first_no xs) refl
  where
    go : (no : Option Refusal) → first_no xs ≡ no → first_number (xs ++ ys) ≡ some n
    go none f = absurd (let g : ◌≡◌ {A = Option ℕ} none (some n) = sym (ap (map number) f) ∙ e in let z : ◌≡◌ {A = ℕ} 0 1 = cc in omega arith)
    go (some r) f = ap (map number) (first-no xs ys r f) ∙ (sym (ap (map number) f) ∙ e)

-- Every operation asks the file's questions first.
module _ (file : List ℕ) (n : ℕ) (above : 0 < n) (stopped : no_number (file_no file) ≡ n) where
  file_stops : first_number (file_questions file) ≡ some n
  file_stops = go (file_no file) refl
    where
      go : (no : Option Refusal) → file_no file ≡ no → first_number (file_questions file) ≡ some n
      go none e = absurd (omega (arith, sym (ap no_number e) ∙ stopped))
      go (some r) e = ap (map number) e ∙ ap some (sym (ap no_number e) ∙ stopped)

  stops_there : (qs : List Question) → first_number (file_questions file ++ qs) ≡ some n
  stops_there qs = stops_first (file_questions file) qs file_stops

  run-stops : (order : List ℕ) (facts rules steps : ℕ) → first_number (run_questions file order facts rules steps) ≡ some n
  unfolding run_questions
  run-stops order facts rules steps = stops_there _

  grounds_stop : (order : List ℕ) (fact facts rules steps : ℕ) → first_number (grounds_questions file order fact facts rules steps) ≡ some n
  unfolding grounds_questions
  grounds_stop order fact facts rules steps = stops_first (run_questions file order facts rules steps) _ (run-stops order facts rules steps)

  layered_stops : (order : ℕ) → first_number (layered_questions file order) ≡ some n
  unfolding layered_questions
  layered_stops order = stops_there _

  better-stops : (first second : List ℕ) → first_number (better_questions file first second) ≡ some n
  unfolding better_questions
  better-stops first second = stops_there _

  search-stops : (facts rules steps order : ℕ) → first_number (search_questions file facts rules steps order) ≡ some n
  unfolding search_questions early_questions
  search-stops facts rules steps order = stops_first (early_questions file facts rules steps order) _ (stops_there _)

  says : {c : Call} → RefusesExactly c → first_number c.questions ≡ some n → RefusedWith n c
  says r e = record { refused = ((r.refuses n).0 e).0; counts_zero = r.counts_zero n e; lent_kept = r.lent_kept n e }

  pub each_refuses : EachRefuses n file
  unfolding ask_list_questions ask_order_questions ask_set_questions ask_row_questions judge_questions check_questions text_questions
  each_refuses =
      record {
        accept = says (demand_1.accept file) file_stops;
        ask_list = λ list. says (demand_1.ask_list file list) (stops_there _);
        ask_order = λ order. says (demand_1.ask_order file order) (stops_there _);
        ask_set = λ set. says (demand_1.ask_set file set) (stops_there _);
        ask_row = λ fact row. says (demand_1.ask_row file fact row) (stops_there _);
        run = λ order facts rules steps. says (demand_1.run file order facts rules steps) (run-stops _ _ _ _);
        grounds = λ order fact facts rules steps. says (demand_1.grounds file order fact facts rules steps) (grounds_stop _ _ _ _ _);
        judge = λ list set. says (demand_1.judge file list set) (stops_there _);
        check = λ set fact row. says (demand_1.check file set fact row) (stops_there _);
        search = λ facts rules steps order. says (demand_1.search file facts rules steps order) (search-stops _ _ _ _);
        layered = λ order. says (demand_1.layered file order) (layered_stops _);
        choose = λ first second. says (demand_1.choose file first second) (better-stops _ _);
        better = λ first second. says (demand_1.better file first second) (better-stops _ _);
        retention_accept = says (demand_1.retention_accept file) file_stops;
        retention_run = λ order facts rules steps. says (demand_1.retention_run file order facts rules steps) (run-stops _ _ _ _);
        retention_grounds = λ order fact facts rules steps. says (demand_1.retention_grounds file order fact facts rules steps) (grounds_stop _ _ _ _ _);
        retention_judge = λ list set. says (demand_1.retention_judge file list set) (stops_there _);
        retention_check = λ set fact row. says (demand_1.retention_check file set fact row) (stops_there _);
        retention_search = λ facts rules steps order. says (demand_1.retention_search file facts rules steps order) (search-stops _ _ _ _);
        retention_layered = λ order. says (demand_1.retention_layered file order) (layered_stops _);
        retention_better = λ first second. says (demand_1.retention_better file first second) (better-stops _ _);
        panel-text = ((demand_1.panel_shows file).refusal_shown n).1 file_stops;
        grounds-text = λ fact. ((demand_1.grounds_show file fact).refusal_shown n).1 (stops_there _);
      }
