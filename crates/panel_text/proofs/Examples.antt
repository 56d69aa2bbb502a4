-- The panel's text for document 01's examples and one with a withheld rule, from the bytes of the files and the definitions alone.
use mathlib.Core.Path.{◌≡◌, refl}
use mathlib.Core.List.{[], ◌∷◌}
use Rattle.theory.specs.Rule.{plain, exception, plain_rules, withheld, in_force}
use Rattle.theory.specs.Derive.{fired, derive, steps}
use Rattle.theory.specs.Run.{run, eligible, rejected, spares, set_aside, fact_mark}
use Rattle.items.specs.Item.{body_length, item_of}
use Rattle.cursors.specs.Cursor.{front, items_at}
use Rattle.reader.specs.Questions.{file_questions}
use Rattle.panel_lines.specs.Text.{decimal, spaced, field, line, head_line, step_line, run_text, panel_text}

pub record Texts : Type 0 where
  -- empty input: `E 2`
  pub nothing : panel_text [] ≡ 0x45 ∷ 0x20 ∷ 0x32 ∷ 0x0A ∷ []
  -- E and one more byte: `E 10`
  pub one_byte_more : panel_text (0x10 ∷ 0x00 ∷ 0x1F ∷ 0x00 ∷ 0x00 ∷ 0x00 ∷ []) ≡ 0x45 ∷ 0x20 ∷ 0x31 ∷ 0x30 ∷ 0x0A ∷ []
  -- C: `F 3 R 2 S 1`, `D 0 0`, `X 1`, `A 1`, `N`
  pub two_exceptions : panel_text (0x10 ∷ 0x03 ∷ 0x01 ∷ 0x00 ∷ 0x03 ∷ 0x01 ∷ 0x01 ∷ 0x01 ∷ 0x03 ∷ 0x02 ∷ 0x1F ∷ 0x00 ∷ 0x02 ∷ []) ≡ 0x46 ∷ 0x20 ∷ 0x33 ∷ 0x20 ∷ 0x52 ∷ 0x20 ∷ 0x32 ∷ 0x20 ∷ 0x53 ∷ 0x20 ∷ 0x31 ∷ 0x0A ∷ 0x44 ∷ 0x20 ∷ 0x30 ∷ 0x20 ∷ 0x30 ∷ 0x0A ∷ 0x58 ∷ 0x20 ∷ 0x31 ∷ 0x0A ∷ 0x41 ∷ 0x20 ∷ 0x31 ∷ 0x0A ∷ 0x4E ∷ 0x0A ∷ []
  -- C with fact 2 unread (document 02, wish 6), so that rule 1 is withheld: `F 3 R 2 S 1`, `D 0 0`, `X 1`, `Y`
  pub one_withheld : panel_text (0x10 ∷ 0x03 ∷ 0x07 ∷ 0x02 ∷ 0x01 ∷ 0x00 ∷ 0x03 ∷ 0x01 ∷ 0x01 ∷ 0x01 ∷ 0x03 ∷ 0x02 ∷ 0x1F ∷ 0x00 ∷ 0x02 ∷ []) ≡ 0x46 ∷ 0x20 ∷ 0x33 ∷ 0x20 ∷ 0x52 ∷ 0x20 ∷ 0x32 ∷ 0x20 ∷ 0x53 ∷ 0x20 ∷ 0x31 ∷ 0x0A ∷ 0x44 ∷ 0x20 ∷ 0x30 ∷ 0x20 ∷ 0x30 ∷ 0x0A ∷ 0x58 ∷ 0x20 ∷ 0x31 ∷ 0x0A ∷ 0x59 ∷ 0x0A ∷ []

pub texts : Texts
unfolding panel_text run_text head_line step_line line field spaced decimal file_questions items_at front body_length item_of run eligible rejected spares set_aside fact_mark fired derive steps plain_rules plain exception in_force withheld
texts = record { nothing = refl; one_byte_more = refl; two_exceptions = refl; one_withheld = refl }
