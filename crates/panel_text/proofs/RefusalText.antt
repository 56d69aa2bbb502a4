-- The text is `E n` exactly where n is the number of the file's first no.
use Prim.Native.Nat.{ℕ, zero, suc, ◌+◌, ◌-◌, ◌*◌, ◌/◌, ◌%◌, ◌≤◌}
use native.Mathlib.Omega.{arith}
use mathlib.Core.Path.{◌≡◌, refl, sym, ap, ◌∙◌}
use mathlib.Core.Bool.{Bool, true, false}
use mathlib.Core.List.{List, [], ◌∷◌, ◌++◌}
use mathlib.Core.Logic.{◌↔◌}
use mathlib.Core.Option.{Option, none, some, map}
use borrow.Author.Tests.{ltb-false}
use lib.ListN.{get_or, drop}
use lib.Dec.{ltb}
use Rattle.words.specs.Word.{digit_zero, value_behind}
use Rattle.theory.specs.Rule.{Program, in_force}
use Rattle.theory.specs.Run.{Stand, run}
use Rattle.items.specs.declared.refusal.Refusal.{Refusal}
use Rattle.items.specs.Question as refusal
use Rattle.reader.specs.Questions.{program_of, file_no}
use Rattle.panel_lines.specs.Text.{digit, digits, decimal, newline, spaced, field, line, head_line, run_text, ascending, panel_text}
use Rattle.panel_text.proofs.RunLines.{refused-text, accepted_text}

value-append : (n : ℕ) (xs ys : List ℕ) → value_behind n (xs ++ ys) ≡ value_behind (value_behind n xs) ys
value-append n [] ys = refl
value-append n (x ∷ xs) ys = value-append (n * 10 + (x - digit_zero)) xs ys

-- The digits of a number have its value.
pub digits_value : (k n : ℕ) → n ≤ k → value_behind 0 (digits k n) ≡ n
digits_value zero n h = omega arith
digits_value (suc k) n h = go (ltb n 10) refl (digits_value k (n / 10))
  where
    go : (b : Bool) → ltb n 10 ≡ b → (n / 10 ≤ k → value_behind 0 (digits k (n / 10)) ≡ n / 10) → value_behind 0 (digits (suc k) n) ≡ n
    go true e r = rw e (omega arith)
    go false e r =
        let many : 10 ≤ n = ltb-false n 10 e in
        rw (e, value-append 0 (digits k (n / 10)) (digit (n % 10)), r (omega arith)) (omega arith)

-- The end of a line is no digit: behind the digits of n it counts as 0.
line-value : (letter n : ℕ) → value_behind 0 (drop 2 (line letter n)) ≡ n * 10
unfolding line field spaced decimal
line-value letter n = value-append 0 (decimal n) newline ∙ rw (digits_value n n (omega arith)) (omega arith)

-- A line tells its number.
pub line-tells : (letter n m : ℕ) → line letter n ≡ line letter m → n ≡ m
line-tells letter n m e =
    let tens : n * 10 ≡ m * 10 = sym (line-value letter n) ∙ ap (λ (l : List ℕ). value_behind 0 (drop 2 l)) e ∙ line-value letter m in
    omega arith

-- The text of a run begins with F, a line of a letter with that letter.
run-begins : (P : Program) (s : Stand) → get_or (run_text P s) 0 0 ≡ 0x46
unfolding run_text head_line field
run-begins P s = refl

pub line-begins : (letter n : ℕ) → get_or (line letter n) 0 0 ≡ letter
unfolding line field
line-begins letter n = refl

not-a_refusal : (P : Program) (s : Stand) (n : ℕ) → run_text P s ≡ line 0x45 n → ⊥
not-a_refusal P s n e =
    let same : ◌≡◌ {A = ℕ} 0x46 0x45 = sym (run-begins P s) ∙ ap (λ (l : List ℕ). get_or l 0 0) e ∙ line-begins 0x45 n in
    omega arith

pub panel_refusal : (file : List ℕ) (n : ℕ) → (panel_text file ≡ line 0x45 n) ↔ (map refusal.number (file_no file) ≡ some n)
panel_refusal file n = go (file_no file) refl
  where
    go : (o : Option Refusal) → file_no file ≡ o → (panel_text file ≡ line 0x45 n) ↔ (map refusal.number o ≡ some n)
    go none q = (
      λ e. absurd (not-a_refusal (program_of file) (run (program_of file) (in_force (program_of file)) (ascending (program_of file))) n (sym (accepted_text file q) ∙ e)),
      λ e. absurd (let z : ◌≡◌ {A = ℕ} 0 1 = cc in omega arith),
    )
    go (some r) q = (
      λ e. ap (λ (m : ℕ). some m) (line-tells 0x45 (refusal.number r) n (sym (refused-text file r q) ∙ e)),
      λ e. let same : refusal.number r ≡ n = cc in refused-text file r q ∙ ap (line 0x45) same,
    )
