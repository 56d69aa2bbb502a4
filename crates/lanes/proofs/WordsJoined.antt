-- A fact is given the lanes of a body, word by word.
use Prim.Native.Nat.{ℕ, zero, suc, ◌+◌, ◌*◌, ◌^◌, ◌≤◌, ◌<◌}
use mathlib.Core.Path.{◌≡◌, refl, sym, ap, subst, ◌∙◌}
use mathlib.Core.Bool.{not}
use mathlib.Core.List.{List, [], ◌∷◌}
use mathlib.Core.Logic.{⊎_elim}
use native.Mathlib.Omega.{arith}
use borrow.Author.Tests.{eqb-true, eqb-false, ltb-true, ltb-false, not-true, not-false}
use lib.Bits.{bit_or, bit_xor, or_lt, or_add_and, xor_add_and, xor_self, and_le_l, and_le_r}
use lib.Dec.{eqb, ltb}
use lib.ListN.{length, get_or, set, length-set}
use lib.Seq.{get_or-set_same, get_or-set_other, set-get_or, set_out}
use Rattle.theory.proofs.Bools.{either}
use Rattle.items.specs.Item.{narrow, max_facts}
use Rattle.bits.specs.Flags.{word_bits, total}
use Rattle.lanes.specs.Lanes.{lane_words, lane_cells, word_of, Fit, Joined}

-- "or" has no less than either, and "exclusive or" is 0 of equal numbers alone
or_above_l : (a b : ℕ) → a ≤ bit_or a b
or_above_l a b = omega (arith, or_add_and a b, and_le_r a b)

or-zero : (a b : ℕ) → bit_or a b ≡ 0 → (a ≡ 0) × (b ≡ 0)
or-zero a b e = (omega (arith, or_add_and a b, and_le_r a b), omega (arith, or_add_and a b, and_le_l a b))

xor_zero : (a b : ℕ) → bit_xor a b ≡ 0 → a ≡ b
xor_zero a b e = omega (arith, xor_add_and a b, and_le_l a b, and_le_r a b)

-- the sum of the words after one was changed
total-set : (row : List ℕ) (at v : ℕ) → at < length row → total (set row at v) + get_or row at 0 ≡ total row + v
total-set [] at v h = absurd (omega arith)
total-set (x ∷ xs) zero v h = omega arith
total-set (x ∷ xs) (suc at) v h = omega (arith, total-set xs at v (omega arith))

total-grows : (row : List ℕ) (at v : ℕ) → get_or row at 0 ≤ v → total row ≤ total (set row at v)
total-grows [] at v h = omega arith
total-grows (x ∷ xs) zero v h = omega arith
total-grows (x ∷ xs) (suc at) v h = omega (arith, total-grows xs at v h)

-- The first words of the fact are joined, everything else is as it was.
pub record Joining (fact : ℕ) (body before after : List ℕ) (new w : ℕ) : Type 0 where
  pub places : length after ≡ length before
  pub others : (f v : ℕ) → v < lane_words → (f ≡ fact → ⊥) → word_of after f v ≡ word_of before f v
  pub given : length before ≡ lane_cells → (v : ℕ) → v < w → word_of after fact v ≡ bit_or (word_of before fact v) (get_or body v 0)
  pub left : (v : ℕ) → w ≤ v → word_of after fact v ≡ word_of before fact v
  pub fitting : Fit before → Fit body → Fit after
  pub same : new ≡ 0 → after ≡ before
  pub no_less : total before ≤ total after
  pub more : length before ≡ lane_cells → 0 < new → total before < total after

pub none_joined : (fact : ℕ) (body words : List ℕ) → Joining fact body words words 0 0
none_joined fact body words =
    record {
      places = refl;
      others = λ f v h ne. refl;
      given = λ e v h. absurd (omega arith);
      left = λ v h. refl;
      fitting = λ f g. f;
      same = λ e. refl;
      no_less = omega arith;
      more = λ e h. absurd (omega arith);
    }

module _ {fact : ℕ} {body before words : List ℕ} {new w : ℕ} (j : Joining fact body before words new w) where
  -- `old` is the word as it was, `own` the word with the lanes of the body
  module _ (small : fact < max_facts narrow) (h : w < lane_words) (own : ℕ) (own_is : own ≡ bit_or (word_of words fact w) (get_or body w 0)) where
    abbrev at : ℕ
    at = fact * lane_words + w

    other : (i : ℕ) → (i ≡ at → ⊥) → get_or (set words at own) i 0 ≡ get_or words i 0
    other i ne = get_or-set_other words at i own 0 ne

    grown : word_of words fact w ≤ own
    grown = omega (arith, own_is, or_above_l (word_of words fact w) (get_or body w 0))

    still : bit_xor (word_of words fact w) own ≡ 0 → set words at own ≡ words
    still e = ap (set words at) (sym (xor_zero (word_of words fact w) own e)) ∙ set-get_or words at 0

    given : length before ≡ lane_cells → (v : ℕ) → v < w + 1 → word_of (set words at own) fact v ≡ bit_or (word_of before fact v) (get_or body v 0)
    given e v l =
        ⊎_elim
        (λ q. let here : v ≡ w = eqb-true v w q in rw here (get_or-set_same words at own 0 (omega (arith, j.places)) ∙ own_is ∙ ap (λ (x : ℕ). bit_or x (get_or body w 0)) (j.left w (omega arith))))
        (λ q. let ne : v ≡ w → ⊥ = eqb-false v w q in other (fact * lane_words + v) (λ s. ne (omega arith)) ∙ j.given e v (omega arith))
        (either (eqb v w))

    fit : Fit before → Fit body → Fit (set words at own)
    fit f g i =
        ⊎_elim
        (λ q. let here : i ≡ at = eqb-true i at q in rw here inside)
        (λ q. rw (other i (eqb-false i at q)) (j.fitting f g i))
        (either (eqb i at))
      where
        own-fits : own < 2 ^ word_bits
        own-fits = rw own_is (or_lt word_bits (word_of words fact w) (get_or body w 0) (j.fitting f g at) (g w))

        inside : get_or (set words at own) at 0 < 2 ^ word_bits
        inside =
            ⊎_elim
            (λ q. rw (get_or-set_same words at own 0 (ltb-true at (length words) q)) own-fits)
            (λ q. rw (set_out words at own (ltb-false at (length words) q)) (j.fitting f g at))
            (either (ltb at (length words)))

    pub one_joined : Joining fact body before (set words at own) (bit_or new (bit_xor (word_of words fact w) own)) (w + 1)
    one_joined =
        record {
          places = length-set words at own ∙ j.places;
          others = λ f v l ne. other (f * lane_words + v) (λ s. ne (omega arith)) ∙ j.others f v l ne;
          given = given;
          left = λ v l. other (fact * lane_words + v) (λ s. omega arith) ∙ j.left v (omega arith);
          fitting = fit;
          same = λ e. let parts : (new ≡ 0) × (bit_xor (word_of words fact w) own ≡ 0) = or-zero new (bit_xor (word_of words fact w) own) e in still parts.1 ∙ j.same parts.0;
          no_less = omega (arith, j.no_less, total-grows words at own grown);
          more = more;
        }
      where
        changed : 0 < bit_xor (word_of words fact w) own → word_of words fact w < own
        changed p =
            ⊎_elim
            (λ q. let is : word_of words fact w ≡ own = eqb-true (word_of words fact w) own q in absurd (omega (arith, p, ap (λ (x : ℕ). bit_xor x own) is ∙ xor_self own)))
            (λ q. let ne : word_of words fact w ≡ own → ⊥ = eqb-false (word_of words fact w) own q in omega (arith, grown))
            (either (eqb (word_of words fact w) own))

        more : length before ≡ lane_cells → 0 < bit_or new (bit_xor (word_of words fact w) own) → total before < total (set words at own)
        more e p =
            ⊎_elim
            (λ q. let none : new ≡ 0 = eqb-true new 0 q in omega (arith, j.no_less, total-set words at own (omega (arith, j.places)), changed (subst (λ (n : ℕ). 0 < bit_or n (bit_xor (word_of words fact w) own)) none p)))
            (λ q. let ne : new ≡ 0 → ⊥ = eqb-false new 0 q in omega (arith, j.more e (omega arith), total-grows words at own grown))
            (either (eqb new 0))

  pub all-joined : lane_words ≤ w → Joined fact body before words (not (eqb new 0))
  all-joined h =
      record {
        beside = record { places = j.places; others = j.others };
        given = λ e v l. j.given e v (omega arith);
        fitting = j.fitting;
        same = λ e f v l. ap (λ (ws : List ℕ). word_of ws f v) (j.same (eqb-true new 0 (not-false (eqb new 0) e)));
        more = λ s e. let ne : new ≡ 0 → ⊥ = eqb-false new 0 (not-true (eqb new 0) e) in j.more s (omega arith);
      }
