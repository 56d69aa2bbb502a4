-- Some number is taken out of a row.
use Prim.Native.Nat.{ℕ, ◌+◌, ◌*◌, ◌/◌, ◌^◌, ◌<◌}
use mathlib.Core.Path.{◌≡◌, refl, sym, ap, ◌∙◌}
use mathlib.Core.Bool.{Bool, true}
use mathlib.Core.List.{List}
use native.Mathlib.Omega.{arith}
use lib.Bits.{bit_xor}
use lib.Count.{count_trailing_zeros}
use lib.ListN.{get_or, set}
use lib.Pow.{pow_pos}
use Rattle.std.specs.Prelude.{Option, Some, None}
use Rattle.theory.specs.Guesses.{bit}
use Rattle.theory.specs.Rule.{range}
use Rattle.theory.proofs.Lists.{seek-some}
use Rattle.bits.specs.Flags.{word_bits, row_words, word, Flags, without, Taken, Picked, Falls, LowestCleared, TakenBehind}
use Rattle.bits.proofs.WordBits.{bit_word, lowest_set, upper_set, set-cleared, word-cleared}
use Rattle.bits.proofs.RowTaken.{lowest-is, nothing_left, one_cleared, less-falls, lowest_first, lowest-rest}

-- What is answered and left is some number taken, whatever the row stands for.
abbrev pub SomeTaken : Option ℕ → List ℕ → List ℕ → Type 0
SomeTaken answer before after = Falls answer before after × ((p : ℕ → Bool) → Flags p before → Picked p answer after)

one_picked : {p : ℕ → Bool} {place : ℕ} {after : List ℕ} → p place ≡ true → Flags (without p place) after → Picked p (Some place) after
one_picked {p} {place} {after} t f =
    record {
      one_of = λ i e. let is : place ≡ i = cc in rw (← is) t;
      rest = λ i e. let is : place ≡ i = cc in rw (← is) f;
      none_left = λ e. cc;
    }

-- The lowest bit of a word from one on is cleared.
pub upper_taken : {row : List ℕ} (at : ℕ) → at < row_words → (from upper b v : ℕ) → upper ≡ get_or row at 0 / 2 ^ from * 2 ^ from → b ≡ count_trailing_zeros word_bits upper → b < word_bits → v ≡ bit_xor (get_or row at 0) (2 ^ b) → SomeTaken (Some (at * word_bits + b)) row (set row at v)
upper_taken {row} at h from upper b v upper_is b-is l v-is = (less-falls at h b v l less, λ p f. picked p f (f.words at h))
  where
    is_set : bit (get_or row at 0) b ≡ true
    is_set = upper_set from (get_or row at 0) b (ap (λ (x : ℕ). bit x b) (sym upper_is) ∙ ap (bit upper) b-is ∙ lowest_set word_bits upper (rw (← b-is) l))

    less : v < get_or row at 0
    less = omega (arith, v-is, set-cleared (get_or row at 0) b is_set, pow_pos b)

    picked : (p : ℕ → Bool) → Flags p row → get_or row at 0 ≡ word p (at * word_bits) word_bits → Picked p (Some (at * word_bits + b)) (set row at v)
    picked p f held =
        one_picked (sym (bit_word p (at * word_bits) word_bits b l) ∙ in-word)
        (one_cleared at h b v l f (v-is ∙ ap (λ (x : ℕ). bit_xor x (2 ^ b)) held ∙ word-cleared p (at * word_bits) word_bits b l in-word))
      where
        in-word : bit (word p (at * word_bits) word_bits) b ≡ true
        in-word = ap (λ (x : ℕ). bit x b) (sym held) ∙ is_set

-- The lowest number of the words from one on is one.
behind-picked : {from i : ℕ} {row after : List ℕ} → LowestCleared from i row after → (p : ℕ → Bool) → Flags p row → Picked p (Some i) after
behind-picked w p f =
    rw (w.number_is, w.rest)
    (one_picked (seek-some p (range (w.at * word_bits) word_bits) (w.at * word_bits + w.bit) (lowest_first w.at w.inside w.positive w.bit _ w.bit_inside refl f w.bit_is)).passes (lowest-rest w.at w.inside w.positive w.bit _ w.bit_inside refl f w.bit_is))

-- what it answers, not being nothing, is so of any answer
pub behind-some : (from : ℕ) (answer : Option ℕ) (row after : List ℕ) → TakenBehind from answer row after → (answer ≡ None → ⊥) → (p : ℕ → Bool) → Flags p row → Picked p answer after
behind-some from None row after t n p f = absurd (n refl)
behind-some from (Some i) row after w n p f = behind-picked w p f

-- where it answers nothing, the row is as it was
pub behind-none : (from : ℕ) (answer : Option ℕ) (row after : List ℕ) → TakenBehind from answer row after → answer ≡ None → {answer' : Option ℕ} {after' : List ℕ} → ((p : ℕ → Bool) → Flags p after → Picked p answer' after') → (p : ℕ → Bool) → Flags p row → Picked p answer' after'
behind-none from None row after t n picked = rw (← t.0) picked
behind-none from (Some i) row after t n picked = cc

-- The lowest number of all is one.
pub first_taken : {answer : Option ℕ} {row after : List ℕ} → Falls answer row after → ((p : ℕ → Bool) → Flags p row → Taken p answer after) → SomeTaken answer row after
first_taken falls taken = (
  falls,
  λ p f.
      record {
        one_of = λ i e. (lowest-is p i ((taken p f).lowest i e)).passes;
        rest = (taken p f).rest;
        none_left = λ e. nothing_left f ((taken p f).none_left e);
      },
)
