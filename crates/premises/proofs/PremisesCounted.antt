-- How many premises the rule at a place lacks.
use Prim.Native.Nat.{ℕ, ◌+◌, ◌<◌}
use mathlib.Core.Path.{◌≡◌, refl, sym, ap, ◌∙◌}
use mathlib.Core.Bool.{true, false}
use mathlib.Core.Logic.{⊎_elim}
use borrow.Author.Tests.{ltb-true, ltb-false}
use lib.ListN.{get_or-eq_default}
use lib.Dec.{ltb}
use Rattle.theory.specs.Rule.{all, mem, up_to, Program, FactSet, adjoin, Rule, blank, count, rule}
use Rattle.theory.specs.Conditions.{Bounded}
use Rattle.theory.proofs.Bools.{either, never}
use Rattle.theory.proofs.Lists.{all-elem, how_many-ext}
use Rattle.theory.proofs.Counted.{listed-fewer, unlisted-same, none_lacked, lacked-none}
use Rattle.premises.specs.Premises.{Places, premises_at, lacks, lacking}

-- Each is a fact of the program; there is none past the last rule.
pub premises_below : {P : Program} → Bounded P → (R : Places) (k f : ℕ) → mem f (premises_at P R k) ≡ true → f < P.facts
premises_below {P} b R k f m = go (R.holder k) m
  where
    go : (i : ℕ) → mem f (rule P i).premises ≡ true → f < P.facts
    go i t =
        ⊎_elim
        (λ e. ltb-true f P.facts (all-elem (λ g. ltb g P.facts) (rule P i).premises (b.premises_below i (ltb-true i (count P) e)) f t))
        (λ e. never (sym (ap (λ (r : Rule). mem f r.premises) (get_or-eq_default P.rules blank (ltb-false i (count P) e))) ∙ t) refl)
        (either (ltb i (count P)))

-- A rule lacks none exactly where all its premises are in the set.
pub lacks_none : {P : Program} → Bounded P → (R : Places) (S : FactSet) (k : ℕ) → lacking P R S k ≡ 0 → all S (premises_at P R k) ≡ true
lacks_none {P} b R S k e = none_lacked (premises_at P R k) S P.facts (λ f m. premises_below b R k f m) e

pub none_lacks : (P : Program) (R : Places) (S : FactSet) (k : ℕ) → all S (premises_at P R k) ≡ true → lacking P R S k ≡ 0
none_lacks P R S k a = lacked-none (premises_at P R k) S P.facts a

-- With one fact more, a rule that has it as a premise lacks one less, and every other as many.
pub asked-lacking : {P : Program} → Bounded P → (R : Places) (S : FactSet) (f k : ℕ) → S f ≡ false → mem f (premises_at P R k) ≡ true → lacking P R S k ≡ lacking P R (adjoin S f) k + 1
asked-lacking {P} b R S f k out m = listed-fewer (premises_at P R k) S f out P.facts (premises_below b R k f m) m

pub unasked_lacking : (P : Program) (R : Places) (S : FactSet) (f k : ℕ) → S f ≡ false → mem f (premises_at P R k) ≡ false → lacking P R S k ≡ lacking P R (adjoin S f) k
unasked_lacking P R S f k out m = how_many-ext (lacks P R S k) (lacks P R (adjoin S f) k) (up_to P.facts) (λ x _. unlisted-same (premises_at P R k) S f out m x)
