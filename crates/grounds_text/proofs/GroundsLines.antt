-- The text of a file that is refused, and of one that is accepted.
use Prim.Native.Nat.{ℕ}
use mathlib.Core.Path.{◌≡◌, refl, sym, ap, ◌∙◌}
use mathlib.Core.Bool.{Bool, true, false, cond}
use mathlib.Core.List.{List, [], ◌∷◌}
use mathlib.Core.Option.{Option, none, some}
use Rattle.theory.specs.Rule.{Program}
use Rattle.items.specs.declared.refusal.Refusal.{Refusal}
use Rattle.items.specs.declared.refusal.Refusal.TheVariants.{NotDerived}
use Rattle.items.specs.Question.{number}
use Rattle.items.proofs.FirstNo.{first-no, first-yes}
use Rattle.reader.specs.Questions.{program_of, file_questions, file_no}
use Rattle.tables.specs.Layout.{program_in}
use Rattle.questions.specs.Questions.{derived_question}
use Rattle.questions.proofs.OperationAsked.{Passed}
use Rattle.panel_lines.specs.Text.{line}
use Rattle.grounds_text.specs.Text.{ascending_run, kept_lines, text_questions, grounds_text}
use Rattle.grounds_text.specs.Tabled.{program_text}

pub refused-text : (s : List ℕ) (fact : ℕ) (r : Refusal) → file_no s ≡ some r → grounds_text s fact ≡ line 0x45 (number r)
unfolding grounds_text text_questions
refused-text s fact r e = rw (first-no (file_questions s) (derived_question (ascending_run (program_of s)) fact ∷ []) r e, grounds_text)

accepted_text : (s : List ℕ) (fact : ℕ) → ◌≡◌ {A = Option Refusal} (file_no s) none → grounds_text s fact ≡ program_text (program_of s) fact
unfolding grounds_text text_questions program_text
accepted_text s fact e = rw (first-yes (file_questions s) (derived_question (ascending_run (program_of s)) fact ∷ []) e, grounds_text) (go ((ascending_run (program_of s)).derived fact))
  where
    go : (b : Bool) → ◌≡◌ {A = List ℕ} (elim (cond b none (some NotDerived)) [ none ↦ kept_lines (program_of s) fact | some r ↦ line 0x45 (number r) ]) (cond b (kept_lines (program_of s) fact) (line 0x45 (number NotDerived)))
    go true = refl
    go false = refl

-- The text by the tables of an accepted file.
pub tabled_text : {s T : List ℕ} → Passed s T → (fact : ℕ) → program_text (program_in T) fact ≡ grounds_text s fact
tabled_text {s} p fact =
    ap (λ (P : Program). program_text P fact) p.tabled.program ∙ sym (accepted_text s fact p.accepted)
