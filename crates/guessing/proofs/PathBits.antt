-- A number whose lowest bits are all set, the highest of these turned out, and the numbers between; numbers with the same bits.
use Prim.Native.Nat.{ℕ, zero, suc, ◌+◌, ◌*◌, ◌-◌, ◌/◌, ◌%◌, ◌^◌, ◌<◌, ◌≤◌}
use native.Mathlib.Decide.{dec_lt}
use native.Mathlib.Nat.{add-mul, one-mul, mul_assoc, mul_comm, pow-suc}
use native.Mathlib.Omega.{arith}
use mathlib.Core.Path.{◌≡◌, sym, ap, ◌∙◌}
use mathlib.Core.Bool.{true, false}
use mathlib.Core.Logic.{by_cases, ◌⊎◌, inl, inr}
use lib.Arith.{digits_mod}
use lib.Dec.{eqb}
use lib.Pow.{pow_pos, split}
use Rattle.theory.specs.Guesses.{bit}
use Rattle.theory.proofs.Bools.{never}
use Rattle.theory.proofs.NumberBits.{digit-cases, bit-above, bit_below, bit-ones}

-- where the lowest bits are all set, each is
pub low_set : (p X j : ℕ) → X % 2 ^ p ≡ 2 ^ p - 1 → j < p → bit X j ≡ true
low_set p X j t l =
    ap (λ (n : ℕ). bit n j) (sym (split X p)) ∙ bit_below p j (X / 2 ^ p) (X % 2 ^ p) l ∙ ap (λ (n : ℕ). bit n j) t ∙ bit-ones p j l

module _ (q X : ℕ) (top : X % 2 ^ suc q ≡ 2 ^ suc q - 1) where
  abbrev d : ℕ
  d = X / 2 ^ suc q

  abbrev B : ℕ
  B = 2 ^ q

  B-pos : 0 < B
  B-pos = pow_pos q

  two : 2 ^ suc q ≡ B * 2
  two = pow-suc 2 q

  -- what stands above the lowest q bits: d and the bit q
  above : d * 2 ^ suc q ≡ d * 2 * B
  above = ap (λ (n : ℕ). d * n) (two ∙ mul_comm B 2) ∙ sym (mul_assoc d 2 B)

  odd_above : (d * 2 + 1) * B ≡ d * 2 * B + B
  odd_above = add-mul (d * 2) 1 B ∙ ap (λ (n : ℕ). d * 2 * B + n) (one-mul B)

  whole : X ≡ d * 2 * B + (B * 2 - 1)
  whole = sym (split X (suc q)) ∙ ap (λ (n : ℕ). d * 2 ^ suc q + n) top ∙ ap (λ (n : ℕ). n + (2 ^ suc q - 1)) above ∙ ap (λ (n : ℕ). d * 2 * B + (n - 1)) two

  in_form : X ≡ (d * 2 + 1) * B + (B - 1)
  in_form = let w : X ≡ d * 2 * B + (B * 2 - 1) = whole in let o : (d * 2 + 1) * B ≡ d * 2 * B + B = odd_above in let p : 0 < B = B-pos in omega arith

  out_form : X - B ≡ d * 2 * B + (B - 1)
  out_form = let w : X ≡ d * 2 * B + (B * 2 - 1) = whole in let p : 0 < B = B-pos in omega arith

  pub enough : 2 ^ q ≤ X
  enough = let w : X ≡ d * 2 * B + (B * 2 - 1) = whole in let p : 0 < B = B-pos in omega arith

  pub top_in : X % 2 ^ q ≡ 2 ^ q - 1
  top_in = ap (λ (n : ℕ). n % 2 ^ q) in_form ∙ digits_mod (d * 2 + 1) (omega (arith, B-pos))

  pub top_out : (X - 2 ^ q) % 2 ^ q ≡ 2 ^ q - 1
  top_out = ap (λ (n : ℕ). n % 2 ^ q) out_form ∙ digits_mod (d * 2) (omega (arith, B-pos))

  -- the bits from q on
  high : (z c r i : ℕ) → z ≡ c * B + r → r < B → bit z (q + i) ≡ bit c i
  high z c r i e l = ap (λ (n : ℕ). bit n (q + i)) e ∙ bit-above q i c r l

  here : (z c r : ℕ) → z ≡ c * B + r → r < B → bit z q ≡ eqb (c % 2) 1
  here z c r e l = let s : q + 0 ≡ q = omega arith in sym (ap (bit z) s) ∙ high z c r 0 e l

  above_here : (z c r i : ℕ) → z ≡ c * B + r → r < B → c / 2 ≡ d → bit z (q + suc i) ≡ bit d i
  above_here z c r i e l h = high z c r (suc i) e l ∙ ap (λ (n : ℕ). bit n i) h

  in_half : (d * 2 + 1) / 2 ≡ d
  in_half = halved d
    where
      halved : (n : ℕ) → (n * 2 + 1) / 2 ≡ n
      halved n = omega arith

  out_half : d * 2 / 2 ≡ d
  out_half = halved d
    where
      halved : (n : ℕ) → n * 2 / 2 ≡ n
      halved n = omega arith

  even : (d * 2) % 2 ≡ 0
  even = evenly d
    where
      evenly : (n : ℕ) → n * 2 % 2 ≡ 0
      evenly n = omega arith

  pub bit-out : bit (X - 2 ^ q) q ≡ false
  bit-out = here (X - B) (d * 2) (B - 1) out_form (omega (arith, B-pos)) ∙ ap (λ (n : ℕ). eqb n 1) even

  -- what is above q is the same with q in or out
  pub others_out : (j : ℕ) → (j ≡ q → ⊥) → bit (X - 2 ^ q) j ≡ bit X j
  others_out j ne = by_cases (dec_lt j q) lower upper
    where
      lower : j < q → bit (X - 2 ^ q) j ≡ bit X j
      lower l = low_set q (X - 2 ^ q) j top_out l ∙ sym (low_set q X j top_in l)

      upper : (j < q → ⊥) → bit (X - 2 ^ q) j ≡ bit X j
      upper n =
          let e : q + suc (j - suc q) ≡ j = omega arith in
          sym (ap (bit (X - B)) e)
          ∙ above_here (X - B) (d * 2) (B - 1) (j - suc q) out_form (omega (arith, B-pos)) out_half
          ∙ sym (above_here X (d * 2 + 1) (B - 1) (j - suc q) in_form (omega (arith, B-pos)) in_half)
          ∙ ap (bit X) e

  -- A number of the block that comes before those with q in: it lacks q, and has no bit that X lacks.
  module _ (y : ℕ) (low : y + 2 ^ q ≤ X) (high-enough : X < y + 2 ^ suc q) where
    abbrev rest : ℕ
    rest = y - d * 2 * B

    form : y ≡ d * 2 * B + rest
    form = let w : X ≡ d * 2 * B + (B * 2 - 1) = whole in let t : 2 ^ suc q ≡ B * 2 = two in let p : 0 < B = B-pos in let h : X < y + 2 ^ suc q = high-enough in omega arith

    rest-small : rest < B
    rest-small = let w : X ≡ d * 2 * B + (B * 2 - 1) = whole in let l : y + B ≤ X = low in let f : y ≡ d * 2 * B + rest = form in let p : 0 < B = B-pos in omega arith

    pub lacks-here : bit y q ≡ false
    lacks-here = here y (d * 2) rest form rest-small ∙ ap (λ (n : ℕ). eqb n 1) even

    pub within : (j : ℕ) → bit y j ≡ true → bit X j ≡ true
    within j t = by_cases (dec_lt j (suc q)) (λ l. low_set (suc q) X j top l) upper
      where
        upper : (j < suc q → ⊥) → bit X j ≡ true
        upper n =
            let e : q + suc (j - suc q) ≡ j = omega arith in
            sym (ap (bit X) e)
            ∙ above_here X (d * 2 + 1) (B - 1) (j - suc q) in_form (omega (arith, B-pos)) in_half
            ∙ sym (above_here y (d * 2) rest (j - suc q) form rest-small out_half)
            ∙ ap (bit y) e ∙ t

-- Numbers with the same bits are the same.
pub same_bits : (k x y : ℕ) → x < 2 ^ k → y < 2 ^ k → ((j : ℕ) → j < k → bit x j ≡ bit y j) → x ≡ y
same_bits zero x y a b e = omega arith
same_bits (suc k) x y a b e =
    let p : 2 ^ suc k ≡ 2 ^ k * 2 = pow-suc 2 k in
    let halves : x / 2 ≡ y / 2 = same_bits k (x / 2) (y / 2) (omega arith) (omega arith) (λ j l. e (suc j) (omega arith)) in
    let odd : x % 2 ≡ y % 2 = same_digit (x % 2) (y % 2) (omega arith) (omega arith) (e 0 (omega arith)) in
    omega arith
  where
    same_digit : (c d : ℕ) → c < 2 → d < 2 → eqb c 1 ≡ eqb d 1 → c ≡ d
    same_digit c d l m h = go (digit-cases c l) (digit-cases d m)
      where
        go : (c ≡ 0) ⊎ (c ≡ 1) → (d ≡ 0) ⊎ (d ≡ 1) → c ≡ d
        go (inl p) (inl q) = p ∙ sym q
        go (inr p) (inr q) = p ∙ sym q
        go (inl p) (inr q) = never (ap (λ (n : ℕ). eqb n 1) q) (sym h ∙ ap (λ (n : ℕ). eqb n 1) p)
        go (inr p) (inl q) = never (ap (λ (n : ℕ). eqb n 1) p) (h ∙ ap (λ (n : ℕ). eqb n 1) q)
