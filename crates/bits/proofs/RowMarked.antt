-- A place is marked in a row.
use Prim.Native.Nat.{ℕ, ◌+◌, ◌*◌, ◌/◌, ◌%◌, ◌^◌, ◌≤◌, ◌<◌}
use mathlib.Core.Path.{◌≡◌, sym, ap, ◌∙◌}
use mathlib.Core.Bool.{Bool, ◌||◌}
use mathlib.Core.List.{List}
use mathlib.Core.Logic.{⊎_elim}
use native.Mathlib.Nat.{div-add-mod', mod-lt}
use native.Mathlib.Omega.{arith}
use borrow.Author.Tests.{eqb-true, eqb-false, ne_eqb}
use lib.Bits.{bit_or}
use lib.Dec.{eqb}
use lib.ListN.{get_or, set, length-set}
use lib.Seq.{get_or-set_same, get_or-set_other}
use Rattle.theory.specs.Rule.{adjoin}
use Rattle.theory.proofs.Bools.{either, or_cases}
use Rattle.items.specs.Item.{max_rules}
use Rattle.bits.specs.Flags.{word_bits, row_words, word, Flags}
use Rattle.bits.proofs.WordBits.{word-ext, word-marked}

-- the place of a number is a bit of a word
pub bit-inside : (place : ℕ) → place % word_bits < word_bits
bit-inside place = mod-lt place (omega arith)

pub place_is : (place : ℕ) → place / word_bits * word_bits + place % word_bits ≡ place
place_is place = div-add-mod' place word_bits

-- its word has one number more
pub own-word : (p : ℕ → Bool) (place : ℕ) → bit_or (word p (place / word_bits * word_bits) word_bits) (2 ^ (place % word_bits)) ≡ word (adjoin p place) (place / word_bits * word_bits) word_bits
own-word p place =
    word-marked p (place / word_bits * word_bits) word_bits (place % word_bits) (bit-inside place)
    ∙ ap (λ (i : ℕ). word (adjoin p i) (place / word_bits * word_bits) word_bits) (place_is place)

-- the other words have the numbers that they had
pub other_word : (p : ℕ → Bool) (place k : ℕ) → (k ≡ place / word_bits → ⊥) → word p (k * word_bits) word_bits ≡ word (adjoin p place) (k * word_bits) word_bits
other_word p place k ne = word-ext p (adjoin p place) (k * word_bits) word_bits (λ i l u. sym (ap (λ (t : Bool). t || p i) (ne_eqb i place (apart i l u))))
  where
    apart : (i : ℕ) → k * word_bits ≤ i → i < k * word_bits + word_bits → i ≡ place → ⊥
    apart i l u e = omega (arith, place_is place, bit-inside place)

pub row-marked : (row : List ℕ) (place v : ℕ) → place < max_rules → v ≡ bit_or (get_or row (place / word_bits) 0) (2 ^ (place % word_bits)) → (p : ℕ → Bool) → Flags p row → Flags (adjoin p place) (set row (place / word_bits) v)
row-marked row place v small e p w =
    record {
      places = length-set row (place / word_bits) v ∙ w.places;
      words = λ k h. ⊎_elim (λ q. here k h (eqb-true k (place / word_bits) q)) (λ q. there k h (eqb-false k (place / word_bits) q)) (either (eqb k (place / word_bits)));
      inside = λ i t. ⊎_elim (λ q. let is : i ≡ place = eqb-true i place q in omega arith) (λ q. w.inside i q) (or_cases (eqb i place) _ t);
    }
  where
    here : (k : ℕ) → k < row_words → k ≡ place / word_bits → get_or (set row (place / word_bits) v) k 0 ≡ word (adjoin p place) (k * word_bits) word_bits
    here k h q =
        rw q
        (get_or-set_same row (place / word_bits) v 0 (omega (arith, w.places)) ∙ e
        ∙ ap (λ (x : ℕ). bit_or x (2 ^ (place % word_bits))) (w.words (place / word_bits) (omega arith)) ∙ own-word p place)

    there : (k : ℕ) → k < row_words → (k ≡ place / word_bits → ⊥) → get_or (set row (place / word_bits) v) k 0 ≡ word (adjoin p place) (k * word_bits) word_bits
    there k h ne = get_or-set_other row (place / word_bits) k v 0 ne ∙ w.words k h ∙ other_word p place k ne
