-- A body keeps the lanes that a fact has too, word by word.
use Prim.Native.Nat.{ℕ, ◌+◌, ◌≤◌, ◌<◌}
use mathlib.Core.Path.{◌≡◌, refl, ap, ◌∙◌}
use mathlib.Core.List.{List}
use mathlib.Core.Logic.{⊎_elim}
use native.Mathlib.Omega.{arith}
use borrow.Author.Tests.{eqb-true, eqb-false}
use lib.Bits.{bit_and}
use lib.Dec.{eqb}
use lib.ListN.{length, get_or, set, length-set}
use lib.Seq.{get_or-set_same, get_or-set_other}
use Rattle.theory.proofs.Bools.{either}
use Rattle.lanes.specs.Lanes.{lane_words, word_of, Met}

-- The first words are met, the others are as they were.
pub record Meeting (fact : ℕ) (words body₀ body : List ℕ) (w : ℕ) : Type 0 where
  pub places : length body ≡ length body₀
  pub kept : length body₀ ≡ lane_words → (j : ℕ) → j < w → get_or body j 0 ≡ bit_and (get_or body₀ j 0) (word_of words fact j)
  pub left : (j : ℕ) → w ≤ j → get_or body j 0 ≡ get_or body₀ j 0

pub none_met : (fact : ℕ) (words body : List ℕ) → Meeting fact words body body 0
none_met fact words body = record { places = refl; kept = λ e j h. absurd (omega arith); left = λ j h. refl }

module _ {fact : ℕ} {words body₀ body : List ℕ} {w : ℕ} (m : Meeting fact words body₀ body w) where
  pub one_met : w < lane_words → (met : ℕ) → met ≡ bit_and (get_or body w 0) (word_of words fact w) → Meeting fact words body₀ (set body w met) (w + 1)
  one_met h met is =
      record {
        places = length-set body w met ∙ m.places;
        kept = λ e j l.
            ⊎_elim
            (λ q. let here : j ≡ w = eqb-true j w q in rw here (own e))
            (λ q. let ne : j ≡ w → ⊥ = eqb-false j w q in other j ne ∙ m.kept e j (omega arith))
            (either (eqb j w));
        left = λ j l. other j (λ q. omega arith) ∙ m.left j (omega arith);
      }
    where
      own : length body₀ ≡ lane_words → get_or (set body w met) w 0 ≡ bit_and (get_or body₀ w 0) (word_of words fact w)
      own e = get_or-set_same body w met 0 (omega (arith, m.places)) ∙ is ∙ ap (λ (x : ℕ). bit_and x (word_of words fact w)) (m.left w (omega arith))

      other : (j : ℕ) → (j ≡ w → ⊥) → get_or (set body w met) j 0 ≡ get_or body j 0
      other j ne = get_or-set_other body w j met 0 ne

  pub all-met : lane_words ≤ w → Met fact words body₀ body
  all-met h = record { places = m.places; kept = λ e j l. m.kept e j (omega arith) }
