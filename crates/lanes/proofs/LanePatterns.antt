-- The bit of a place in the 64 guesses of a word, lane by lane.
use Prim.Native.Nat.{ℕ, ◌+◌, ◌*◌, ◌/◌, ◌%◌, ◌^◌, ◌-◌, ◌≤◌, ◌<◌}
use native.Mathlib.Omega.{arith}
use mathlib.Core.Path.{◌≡◌, refl, sym, ap, ◌∙◌}
use mathlib.Core.Bool.{true, false, beq}
use lib.Dec.{eqb}
use Rattle.theory.specs.Rule.{all, up_to}
use Rattle.theory.specs.Guesses.{bit}
use Rattle.theory.proofs.Bools.{beq-true}
use Rattle.theory.proofs.Lists.{all-elem, up_to-mem}
use Rattle.theory.proofs.NumberBits.{bit_shifted, bit-zero, bit-above, bit_below}
use Rattle.items.specs.Item.{max_guessed}
use Rattle.bits.specs.Flags.{word_bits}
use Rattle.lanes.specs.Lanes.{every_lane}

-- In each lane the word has the bit of a place of the lane's number.
abbrev pub Pattern : ℕ → ℕ → Type 0
Pattern word place = all (λ t. beq (bit word t) (bit t place)) (up_to word_bits) ≡ true

-- Below the sixth place the guesses of every word have the same bits.
pub pattern_lanes : (word number key : ℕ) {place : ℕ} → place ≡ key → key < 6 → Pattern word key → (t : ℕ) → t < word_bits → bit word t ≡ bit (number * word_bits + t) place
pattern_lanes word number key is l p t h =
    beq-true _ _ (all-elem (λ n. beq (bit word n) (bit n key)) (up_to word_bits) p t (up_to-mem word_bits t h))
    ∙ sym (bit_below 6 key number t l)
    ∙ ap (bit (number * word_bits + t)) (sym is)

-- The word with all lanes has each.
pub every-lane : (t : ℕ) → t < word_bits → bit every_lane t ≡ true
every-lane t h = all-elem (bit every_lane) (up_to word_bits) refl t (up_to-mem word_bits t h)

-- a place that is shifted by stands in a word
pub shift_small : (place : ℕ) → place < max_guessed → place - 6 < word_bits
shift_small place l = omega arith

-- From the sixth place on all guesses of a word have the same bit, which is one of the word's number.
module _ (number place : ℕ) (l : 6 ≤ place) where
  high_bit : (t : ℕ) → t < word_bits → eqb (number / 2 ^ (place - 6) % 2) 1 ≡ bit (number * word_bits + t) place
  high_bit t h =
      let is : 6 + (place - 6) ≡ place = omega arith in
      sym (bit_shifted (place - 6) number) ∙ sym (bit-above 6 (place - 6) number t h) ∙ ap (bit (number * word_bits + t)) is

  pub all_set : eqb (number / 2 ^ (place - 6) % 2) 1 ≡ true → (t : ℕ) → t < word_bits → bit 18446744073709551615 t ≡ bit (number * word_bits + t) place
  all_set e t h = every-lane t h ∙ sym e ∙ high_bit t h

  pub all-clear : eqb (number / 2 ^ (place - 6) % 2) 1 ≡ false → (t : ℕ) → t < word_bits → bit 0 t ≡ bit (number * word_bits + t) place
  all-clear e t h = bit-zero t ∙ sym e ∙ high_bit t h
