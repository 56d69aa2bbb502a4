-- Words that are all 0 stand for nothing.
use Prim.Native.Nat.{ℕ, zero, suc, ◌+◌, ◌*◌, ◌≤◌}
use mathlib.Core.Path.{◌≡◌, refl, sym, ap₂, ◌∙◌}
use mathlib.Core.Bool.{Bool, false}
use native.Mathlib.Omega.{arith}
use lib.ListN.{replicate, length-replicate}
use Rattle.theory.proofs.Bools.{never}
use Rattle.theory.proofs.Lists.{zeros}
use Rattle.bits.specs.Flags.{word_bits, row_words, digit, word, Flags}
use Rattle.bits.specs.Matrix.{Matrix}

pub empty-word : (p : ℕ → Bool) → ((i : ℕ) → p i ≡ false) → (a n : ℕ) → word p a n ≡ 0
unfolding word
empty-word p e a zero = refl
empty-word p e a (suc n) = ap₂ (λ (x : ℕ) (b : Bool). x * 2 + digit b) (empty-word p e (suc a) n) (e a)

pub empty-row : (p : ℕ → Bool) → ((i : ℕ) → p i ≡ false) → Flags p (replicate row_words 0)
empty-row p e =
    record {
      places = length-replicate {A = ℕ} row_words 0;
      words = λ k h. zeros row_words k ∙ sym (empty-word p e (k * word_bits) word_bits);
      inside = λ i t. never t (e i);
    }

pub empty-matrix : (keys size : ℕ) → keys * row_words ≤ size → (q : ℕ → ℕ → Bool) → ((f i : ℕ) → q f i ≡ false) → Matrix keys q (replicate size 0)
empty-matrix keys size h q e =
    record {
      places = omega (arith, h, length-replicate {A = ℕ} size 0);
      words = λ f k l u. zeros size (f * row_words + k) ∙ sym (empty-word (q f) (e f) (k * word_bits) word_bits);
      inside = λ f i t. never t (e f i);
    }
