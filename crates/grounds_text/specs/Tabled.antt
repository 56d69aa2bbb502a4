-- Internal: the text by the program of an accepted file.
use Rattle.std.specs.Prelude.{ℕ, cond, List}
use Rattle.theory.specs.Rule.{Program}
use Rattle.items.specs.declared.refusal.Refusal.TheVariants.{NotDerived}
use Rattle.items.specs.Question.{number}
use Rattle.panel_lines.specs.Text.{line}
use Rattle.grounds_text.specs.Text.{ascending_run, kept_lines}

unfoldable pub program_text : Program → ℕ → List ℕ
program_text P fact = cond ((ascending_run P).derived fact) (kept_lines P fact) (line 0x45 (number NotDerived))
