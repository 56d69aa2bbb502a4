-- Internal: the text by the bytes that a run leaves.
use Rattle.std.specs.Prelude.{ℕ, List, ◌++◌, length}
use Rattle.theory.specs.Rule.{null}
use Rattle.questions.specs.Questions.{row_of, each}
use Rattle.theory.specs.Places.{places_marked}
use Rattle.panel_lines.specs.Text.{head_line, step_line, line, last_line}

-- The lines by the count of the stages, the marks of the facts and of the rules, one for each, and the row of steps.
unfoldable pub left_text : ℕ → List ℕ → List ℕ → List ℕ → List ℕ
left_text stages fact_marks rule_marks row =
    head_line (length fact_marks) (length rule_marks) stages
    ++ (each step_line (row_of row)
    ++ (each (line 0x58) (places_marked 2 fact_marks (length fact_marks))
    ++ (each (line 0x41) (places_marked 2 rule_marks (length rule_marks))
    ++ last_line (null (places_marked 2 rule_marks (length rule_marks))))))
