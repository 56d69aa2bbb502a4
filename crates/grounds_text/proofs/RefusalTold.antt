-- The text is `E n` exactly where n is the number of the first no.
use Prim.Native.Nat.{ℕ}
use native.Mathlib.Omega.{arith}
use mathlib.Core.Path.{◌≡◌, refl, sym, ap, ◌∙◌}
use mathlib.Core.List.{List, [], ◌∷◌}
use mathlib.Core.Logic.{◌↔◌}
use mathlib.Core.Option.{Option, none, some, map}
use lib.ListN.{get_or}
use Rattle.theory.specs.Rule.{Step}
use Rattle.theory.specs.Keeping.{grounds_of}
use Rattle.items.specs.declared.refusal.Refusal.{Refusal}
use Rattle.items.specs.Question as refusal
use Rattle.reader.specs.Questions.{program_of}
use Rattle.questions.specs.Questions.{each}
use Rattle.panel_lines.specs.Text.{field, line, step_line}
use Rattle.panel_text.proofs.RefusalText.{line-tells, line-begins}
use Rattle.grounds_text.specs.Text.{ascending_run, kept_lines, text_no, grounds_text}

-- A line of a letter is none of steps, which begin with D, and not empty.
not-a_refusal : (row : List Step) (n : ℕ) → each step_line row ≡ line 0x45 n → ⊥
unfolding step_line field
not-a_refusal [] n e =
    let same : ◌≡◌ {A = ℕ} 0 0x45 = ap (λ (l : List ℕ). get_or l 0 0) e ∙ line-begins 0x45 n in
    omega arith
not-a_refusal (s ∷ row) n e =
    let same : ◌≡◌ {A = ℕ} 0x44 0x45 = ap (λ (l : List ℕ). get_or l 0 0) e ∙ line-begins 0x45 n in
    omega arith

-- The text by the first no.
told_text : (file : List ℕ) (fact : ℕ) (r : Refusal) → text_no file fact ≡ some r → grounds_text file fact ≡ line 0x45 (refusal.number r)
unfolding grounds_text
told_text file fact r e = rw (e, grounds_text)

kept-text : (file : List ℕ) (fact : ℕ) → ◌≡◌ {A = Option Refusal} (text_no file fact) none → grounds_text file fact ≡ kept_lines (program_of file) fact
unfolding grounds_text
kept-text file fact e = rw (e, grounds_text)

pub grounds_refusal : (file : List ℕ) (fact n : ℕ) → (grounds_text file fact ≡ line 0x45 n) ↔ (map refusal.number (text_no file fact) ≡ some n)
grounds_refusal file fact n = go (text_no file fact) refl
  where
    go : (o : Option Refusal) → text_no file fact ≡ o → (grounds_text file fact ≡ line 0x45 n) ↔ (map refusal.number o ≡ some n)
    go none q = (
      λ e. absurd (not-a_refusal (grounds_of (program_of file) fact (ascending_run (program_of file)).trace) n (sym (kept-text file fact q) ∙ e)),
      λ e. absurd (let z : ◌≡◌ {A = ℕ} 0 1 = cc in omega arith),
    )
    go (some r) q = (
      λ e. ap (λ (m : ℕ). some m) (line-tells 0x45 (refusal.number r) n (sym (told_text file fact r q) ∙ e)),
      λ e. let same : refusal.number r ≡ n = cc in told_text file fact r q ∙ ap (line 0x45) same,
    )
