-- A part of a row, as the scan fills it: element by element at its end.
use Prim.Native.Nat.{ℕ, zero, suc, ◌+◌, ◌-◌, ◌<◌, ◌≤◌}
use mathlib.Core.Path.{◌≡◌, sym, ap, subst, ◌∙◌}
use mathlib.Core.Bool.{true}
use mathlib.Core.List.{[], ◌∷◌, ◌++◌}
use mathlib.Core.Logic.{⊎_elim}
use native.Mathlib.Omega.{arith}
use borrow.Author.Tests.{ltb-true, ltb-false}
use lib.Dec.{ltb}
use Rattle.theory.specs.Rule.{mem}
use Rattle.theory.proofs.Bools.{either}
use Rattle.theory.proofs.Lists.{mem-here, mem-there}
use Rattle.tables.specs.Layout.{listed, span}
use Rattle.tables.proofs.PartsHeld.{listed-more}

pub span_more : (row : ℕ → ℕ) (a b : ℕ) → a ≤ b → span row a (b + 1) ≡ span row a b ++ (row b ∷ [])
span_more row a b h =
    let more : b + 1 - a ≡ suc (b - a) = omega arith in
    let end : a + (b - a) ≡ b = omega arith in
    ap (listed row a) more ∙ listed-more row (b - a) a ∙ ap (λ (j : ℕ). span row a b ++ (row j ∷ [])) end

pub span-end : (row : ℕ → ℕ) (a b : ℕ) → b ≤ a → span row a b ≡ []
span-end row a b h =
    let none : b - a ≡ 0 = omega arith in
    rw none

-- an element of the row between the two places is one of the span
pub in_span : (row : ℕ → ℕ) (a b j : ℕ) → a ≤ j → j < b → mem (row j) (span row a b) ≡ true
in_span row a b j low high = go (b - a) a low (omega arith)
  where
    go : (n a : ℕ) → a ≤ j → j < a + n → mem (row j) (listed row a n) ≡ true
    go zero a l h = absurd (omega arith)
    go (suc n) a l h =
        ⊎_elim
        (λ e. let less : a < j = ltb-true a j e in mem-there (row j) (row a) (listed row (suc a) n) (go n (suc a) (omega arith) (omega arith)))
        (λ e. here n a l (ltb-false a j e))
        (either (ltb a j))
      where
        here : (n a : ℕ) → a ≤ j → j ≤ a → mem (row j) (row a ∷ listed row (suc a) n) ≡ true
        here n a l g =
            let same : j ≡ a = omega arith in
            subst (λ (x : ℕ). mem (row x) (row a ∷ listed row (suc a) n) ≡ true) (sym same) (mem-here (row a) (listed row (suc a) n))
