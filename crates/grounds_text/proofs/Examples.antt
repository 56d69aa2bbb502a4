-- The text for example A of document 01, from the bytes of the file and the definitions alone.
use Prim.Native.Nat.{ℕ}
use mathlib.Core.Path.{◌≡◌, refl}
use mathlib.Core.List.{List, [], ◌∷◌}
use Rattle.theory.specs.Rule.{plain, exception, plain_rules, withheld, in_force}
use Rattle.theory.specs.Derive.{fired, derive, steps}
use Rattle.theory.specs.Run.{run, eligible, rejected, spares}
use Rattle.theory.specs.Keeping.{grounds_of}
use Rattle.items.specs.Item.{body_length, item_of}
use Rattle.cursors.specs.Cursor.{front, items_at}
use Rattle.reader.specs.Questions.{file_questions}
use Rattle.panel_lines.specs.Text.{decimal, spaced, field, line, step_line}
use Rattle.grounds_text.specs.Text.{text_questions, grounds_text}

-- 0<; 1<0,!2; 2<0,!1; 3<2
abbrev pub example_a : List ℕ
example_a =
    0x10 ∷ 0x04 ∷ 0x01 ∷ 0x00 ∷ 0x01 ∷ 0x01 ∷ 0x02 ∷ 0x00 ∷ 0x03 ∷ 0x02 ∷ 0x01 ∷ 0x02 ∷ 0x02 ∷ 0x00 ∷ 0x03 ∷ 0x01 ∷ 0x01 ∷ 0x03 ∷ 0x02 ∷ 0x02 ∷ 0x1F ∷ 0x00 ∷ 0x04 ∷ []

pub record Texts : Type 0 where
  -- fact 1 stands on both steps: `D 0 0`, `D 1 1`
  pub two_steps : grounds_text example_a 1 ≡ 0x44 ∷ 0x20 ∷ 0x30 ∷ 0x20 ∷ 0x30 ∷ 0x0A ∷ 0x44 ∷ 0x20 ∷ 0x31 ∷ 0x20 ∷ 0x31 ∷ 0x0A ∷ []
  -- fact 0 on its own alone: `D 0 0`
  pub one_step : grounds_text example_a 0 ≡ 0x44 ∷ 0x20 ∷ 0x30 ∷ 0x20 ∷ 0x30 ∷ 0x0A ∷ []
  -- facts 2 and 4 are not derived: `E 50`
  pub not_derived : grounds_text example_a 2 ≡ 0x45 ∷ 0x20 ∷ 0x35 ∷ 0x30 ∷ 0x0A ∷ []
  pub past_the_facts : grounds_text example_a 4 ≡ 0x45 ∷ 0x20 ∷ 0x35 ∷ 0x30 ∷ 0x0A ∷ []
  -- empty input: `E 2`
  pub nothing : grounds_text [] 0 ≡ 0x45 ∷ 0x20 ∷ 0x32 ∷ 0x0A ∷ []

pub texts : Texts
unfolding grounds_text text_questions grounds_of step_line line field spaced decimal file_questions items_at front body_length item_of run eligible rejected spares fired derive steps plain_rules plain exception in_force withheld
texts = record { two_steps = refl; one_step = refl; not_derived = refl; past_the_facts = refl; nothing = refl }
