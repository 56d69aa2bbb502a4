-- A rule in force is among the askers of each literal of its body, once.
use Prim.Native.Nat.{ℕ, ◌+◌, ◌<◌, ◌≤◌}
use mathlib.Core.Path.{◌≡◌, refl, sym, ap, ◌∙◌}
use mathlib.Core.Bool.{Bool, true, false, ◌&&◌}
use mathlib.Core.Logic.{⊎_elim}
use native.Mathlib.Omega.{arith}
use borrow.Author.Tests.{eqb-true, ltb-true, ltb-false}
use lib.ListN.{get_or-eq_default}
use lib.Dec.{eqb, ltb}
use Rattle.theory.specs.Rule.{mem, how_many, up_to, adjoin, Rule, Program, Mask, blank, count, rule}
use Rattle.theory.proofs.Bools.{either, never, and_left, and_right, and_both, and-false}
use Rattle.theory.proofs.Lists.{how_many-ext, how_many-keep, how_many-up_to}
use Rattle.theory.proofs.Counted.{none_counted}
use Rattle.index.specs.Literal.{literals, body, lacking}
use Rattle.index.specs.Index.{asks, askers}
use Rattle.index.proofs.LiteralsCounted.{asked-lacking, unasked_lacking}

-- There is no literal past the last rule.
pub none_past : (P : Program) (l i : ℕ) → count P ≤ i → mem l (body (rule P i)) ≡ false
none_past P l i h = ap (λ (r : Rule). mem l (body r)) (get_or-eq_default P.rules blank h)

module _ (P : Program) (on : Mask) (l : ℕ) where
  pub asker_known : (i : ℕ) → asks P on l i ≡ true → (i < count P) × (on i ≡ true)
  asker_known i t =
      (⊎_elim (λ e. ltb-true i (count P) e) (λ e. never (and_right (on i) _ t) (none_past P l i (ltb-false i (count P) e))) (either (ltb i (count P))), and_left (on i) _ t)

  module _ (i : ℕ) (h : i < count P) (o : on i ≡ true) where
    once : mem l (body (rule P i)) ≡ true → how_many (eqb i) (askers P on l) ≡ 1
    once m =
        how_many-keep (eqb i) (asks P on l) (up_to (count P))
        ∙ how_many-ext _ (eqb i) (up_to (count P)) (λ x k. ⊎_elim (λ e. here x e) (λ e. ap (λ (b : Bool). asks P on l x && b) e ∙ and-false (asks P on l x) ∙ sym e) (either (eqb i x)))
        ∙ how_many-up_to (count P) i h
      where
        here : (x : ℕ) → eqb i x ≡ true → asks P on l x && eqb i x ≡ eqb i x
        here x e = let is : i ≡ x = eqb-true i x e in rw e (and_both (ap (asks P on l) (sym is) ∙ and_both o m) refl)

    never_there : mem l (body (rule P i)) ≡ false → how_many (eqb i) (askers P on l) ≡ 0
    never_there m =
        how_many-keep (eqb i) (asks P on l) (up_to (count P))
        ∙ none_counted _ (up_to (count P)) (λ x k. ⊎_elim (λ e. here x e) (λ e. ap (λ (b : Bool). asks P on l x && b) e ∙ and-false (asks P on l x)) (either (eqb i x)))
      where
        here : (x : ℕ) → eqb i x ≡ true → asks P on l x && eqb i x ≡ false
        here x e =
            let is : i ≡ x = eqb-true i x e in
            ap (λ (b : Bool). b && eqb i x) (ap (asks P on l) (sym is) ∙ ap (λ (b : Bool). on i && b) m ∙ and-false (on i))

    -- What a rule is missing, once the literal is true, and it was not before: one fewer for each time that the rule is among the askers.
    pub lacking-told : (yet : ℕ → Bool) → l < literals → yet l ≡ false → lacking P yet i ≡ lacking P (adjoin yet l) i + how_many (eqb i) (askers P on l)
    lacking-told yet b f = ⊎_elim asked unasked (either (mem l (body (rule P i))))
      where
        asked : mem l (body (rule P i)) ≡ true → lacking P yet i ≡ lacking P (adjoin yet l) i + how_many (eqb i) (askers P on l)
        asked m = asked-lacking P yet l f i b m ∙ ap (λ (n : ℕ). lacking P (adjoin yet l) i + n) (sym (once m))

        unasked : mem l (body (rule P i)) ≡ false → lacking P yet i ≡ lacking P (adjoin yet l) i + how_many (eqb i) (askers P on l)
        unasked m = join (unasked_lacking P yet l f i m) (never_there m)
          where
            join : {a b c : ℕ} → a ≡ b → c ≡ 0 → a ≡ b + c
            join p q = omega arith
