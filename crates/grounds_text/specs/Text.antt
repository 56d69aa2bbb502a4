-- The text of the grounds for a fact (document 02, wish 1): the steps that were kept, as the panel's D lines.
use Rattle.std.specs.Prelude.{ℕ, ◌*◌, List, [], ◌∷◌, ◌++◌}
use Rattle.std.proofs.Math.Option.{Option, none, some}
use Rattle.theory.specs.Rule.{Program, in_force}
use Rattle.theory.specs.Run.{Stand, run}
use Rattle.theory.specs.Keeping.{grounds_of}
use Rattle.items.specs.declared.refusal.Refusal.{Refusal}
use Rattle.items.specs.Item.{Width, max_facts}
use Rattle.items.specs.Question.{Question, first_no}
use Rattle.items.specs.Question as refusal
use Rattle.reader.specs.Questions.{program_of, file_questions}
use Rattle.questions.specs.Questions.{each, derived_question}
use Rattle.panel_lines.specs.Text.{ascending, line, step_line, most_step}

-- The run of a program in ascending order, as the panel shows it.
abbrev pub ascending_run : Program → Stand
ascending_run P = run P (in_force P) (ascending P)

-- The questions: those of the file, then whether the run derived the fact.
unfoldable pub text_questions : List ℕ → ℕ → List Question
text_questions file fact = file_questions file ++ (derived_question (ascending_run (program_of file)) fact ∷ [])

abbrev pub text_no : List ℕ → ℕ → Option Refusal
text_no file fact = first_no (text_questions file fact)

-- The lines of the steps kept for a fact.
abbrev pub kept_lines : Program → ℕ → List ℕ
kept_lines P fact = each step_line (grounds_of P fact (ascending_run P).trace)

-- The text: the kept steps, or only the line E and the number of the refusal.
unfoldable pub grounds_text : List ℕ → ℕ → List ℕ
grounds_text file fact =
    elim (text_no file fact) [
      | none ↦ kept_lines (program_of file) fact
      | some r ↦ line 0x45 (refusal.number r)
    ]

-- Every such text has room in so many bytes: a step for each fact.
abbrev pub lines_room : Width → ℕ
lines_room w = max_facts w * most_step w
