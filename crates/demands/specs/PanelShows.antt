-- What the panel's text shows (document 01, "Examples"), and the text of the grounds for a fact (document 02, wish 1): lines for the bytes that
-- the run and the grounds leave.
use Rattle.std.specs.Prelude.{ℕ, ◌<◌, ◌≤◌, ◌≡◌, List, ◌++◌, ◌↔◌, length, take, drop}
use Rattle.std.proofs.Math.Option.{none, some}
use Rattle.theory.specs.Rule.{keep, up_to, null, count}
use Rattle.items.specs.Item.{narrow}
use Rattle.reader.specs.Questions.{program_of, file_questions, file_no}
use Rattle.questions.specs.Questions.{naming, each, buffers_no}
use Rattle.run.specs.Outcome.{RunOutcome, run_outcome, run_number, run_stages}
use Rattle.keeping.specs.Outcome.{GroundsOutcome, grounds_outcome, grounds_number}
use Rattle.panel_lines.specs.Text.{ascending, head_line, step_line, line, last_line, panel_text, shown}
use Rattle.grounds_text.specs.Text.{grounds_text, text_questions}
use Rattle.demands.specs.Calls.{first_number}
use Rattle.demands.specs.Results.{rejected_set, aside_set, taken_steps}
use Rattle.demands.specs.Wish01.{kept_row}

-- The order that both texts take: every exception rule, ascending.
abbrev pub ascending_order : List ℕ → List ℕ
ascending_order file = naming (ascending (program_of file))

-- Buffers suffice for the run of a file: questions 31 to 33 get yes.
abbrev pub Suffice : List ℕ → List ℕ → List ℕ → List ℕ → Type 0
Suffice file facts rules steps = buffers_no narrow (program_of file) (length facts) (length rules) (length steps) ≡ none

-- The facts with mark 2 and the rules with mark 2, ascending.
abbrev pub rejected_in : List ℕ → RunOutcome → List ℕ
rejected_in file o = keep (rejected_set file o) (up_to (program_of file).facts)

abbrev pub rules_aside : List ℕ → RunOutcome → List ℕ
rules_aside file o = keep (aside_set file o) (up_to (count (program_of file)))

-- The lines for what a run leaves: "F facts R rules S stages; D fact rule, a step; X fact in R, ascending; A rule set aside, ascending; Y if none
-- was set aside, else N".
abbrev pub lines_of : List ℕ → RunOutcome → List ℕ
lines_of file o =
    head_line (program_of file).facts (count (program_of file)) (run_stages o.answer)
    ++ (each step_line (taken_steps o)
    ++ (each (line 0x58) (rejected_in file o)
    ++ (each (line 0x41) (rules_aside file o)
    ++ last_line (null (rules_aside file o)))))

-- A run gives a result, and the panel shows it.
pub record RunShown (file : List ℕ) (o : RunOutcome) : Type 0 where
  pub result : run_number o.answer ≡ 0
  pub lines : panel_text file ≡ lines_of file o

-- The panel "reads a rule file .. and runs it in ascending order": ..
pub record PanelShows (file : List ℕ) : Type 0 where
  -- .. of an accepted file it shows what that run leaves, in any buffers that suffice for it; ..
  pub run_shown : file_no file ≡ none → (facts rules steps : List ℕ) → Suffice file facts rules steps → RunShown file (run_outcome file (ascending_order file) facts rules steps)
  -- .. it shows E n exactly where n is the number of the file's first no.
  pub refusal_shown : (n : ℕ) → (panel_text file ≡ line 0x45 n) ↔ (first_number (file_questions file) ≡ some n)

-- The grounds for a fact as their text shows them: a D line for each step that they leave, or E and the number of their refusal.
pub record GroundsShown (file : List ℕ) (fact : ℕ) (o : GroundsOutcome) : Type 0 where
  pub lines : grounds_number o.answer ≡ 0 → grounds_text file fact ≡ each step_line (kept_row o)
  pub refusal : 0 < grounds_number o.answer → grounds_text file fact ≡ line 0x45 (grounds_number o.answer)

-- Of any file the text shows the grounds under the ascending order, in any buffers that suffice for its run.
pub record GroundsShow (file : List ℕ) (fact : ℕ) : Type 0 where
  pub grounds_shown : (facts rules steps : List ℕ) → Suffice file facts rules steps → GroundsShown file fact (grounds_outcome file (ascending_order file) fact facts rules steps)
  -- E n exactly where n is the number of the first no: the file's questions, then 50.
  pub refusal_shown : (n : ℕ) → (grounds_text file fact ≡ line 0x45 n) ↔ (first_number (text_questions file fact) ≡ some n)

-- A text in a lent buffer: where it fits it stands in front, and past it the buffer keeps its contents; else no byte is written.
pub record Rendered (text out : List ℕ) : Type 0 where
  pub written : length text ≤ length out → take (length text) (shown text out) ≡ text
  pub past_kept : length text ≤ length out → drop (length text) (shown text out) ≡ drop (length text) out
  pub short_kept : length out < length text → shown text out ≡ out
