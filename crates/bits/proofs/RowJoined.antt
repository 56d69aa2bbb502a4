-- The numbers of one row join those of another.
use Prim.Native.Nat.{ℕ, zero, suc, ◌+◌, ◌*◌, ◌<◌, ◌≤◌, max}
use native.Mathlib.Omega.{arith}
use mathlib.Core.Path.{◌≡◌, refl, ap₂, ◌∙◌}
use mathlib.Core.Bool.{Bool, true, false, ◌||◌}
use mathlib.Core.List.{List}
use mathlib.Core.Logic.{⊎_elim}
use lib.Bits.{bit_or, or_step}
use lib.ListN.{length, get_or}
use Rattle.theory.proofs.Bools.{or_cases}
use Rattle.bits.specs.Flags.{word_bits, row_words, digit, word, Flags}
use Rattle.bits.specs.Matrix.{Matrix}
use Rattle.bits.proofs.WordBits.{half, odd}

-- a word has the numbers of both
pub word-joined : (p q : ℕ → Bool) (a n : ℕ) → bit_or (word p a n) (word q a n) ≡ word (λ i. p i || q i) a n
unfolding word
word-joined p q a zero = refl
word-joined p q a (suc n) =
    or_step (word p (suc a) n * 2 + digit (p a)) (word q (suc a) n * 2 + digit (q a))
    ∙ ap₂ (λ (x y : ℕ). x * 2 + y)
    (ap₂ bit_or (half (word p (suc a) n) (p a)) (half (word q (suc a) n) (q a)) ∙ word-joined p q (suc a) n)
    (ap₂ max (odd (word p (suc a) n) (p a)) (odd (word q (suc a) n) (q a)) ∙ both (p a) (q a))
  where
    both : (x y : Bool) → max (digit x) (digit y) ≡ digit (x || y)
    both true true = refl
    both true false = refl
    both false true = refl
    both false false = refl

-- The first words have joined those of the key.
pub record Joining (matrix : List ℕ) (key : ℕ) (row₀ row : List ℕ) (k : ℕ) : Type 0 where
  pub places : length row ≡ length row₀
  pub joined : length row₀ ≡ row_words → (j : ℕ) → j < k → get_or row j 0 ≡ bit_or (get_or row₀ j 0) (get_or matrix (key * row_words + j) 0)
  pub others : (j : ℕ) → k ≤ j → get_or row j 0 ≡ get_or row₀ j 0

module _ {matrix : List ℕ} {key : ℕ} {row₀ row : List ℕ} {k : ℕ} (w : Joining matrix key row₀ row k) where
  pub all-joined : row_words ≤ k → (keys : ℕ) (p : ℕ → Bool) (q : ℕ → ℕ → Bool) → key < keys → Matrix keys q matrix → Flags p row₀ → Flags (λ i. p i || q key i) row
  all-joined h keys p q l m f =
      record {
        places = w.places ∙ f.places;
        words = λ j u.
            w.joined f.places j (omega arith)
            ∙ ap₂ bit_or (f.words j u) (m.words key j l u)
            ∙ word-joined p (q key) (j * word_bits) word_bits;
        inside = λ i t. ⊎_elim (λ e. f.inside i e) (λ e. m.inside key i e) (or_cases (p i) (q key i) t);
      }
