-- The bits of numbers: of "and", "or" and "exclusive or", of a number cut in two, and of numbers that agree on theirs.
use Prim.Native.Nat.{ℕ, zero, suc, ◌+◌, ◌*◌, ◌/◌, ◌%◌, ◌^◌, ◌-◌, ◌<◌, min, max}
use native.Mathlib.Nat.{mod-lt, zero-lt-suc, mul_assoc, pow-suc}
use native.Mathlib.Omega.{arith}
use mathlib.Core.Path.{◌≡◌, refl, sym, ap, subst, ◌∙◌}
use mathlib.Core.Bool.{Bool, true, false, ◌&&◌, ◌||◌}
use mathlib.Core.Logic.{◌⊎◌, inl, inr}
use lib.Arith.{digits_div, digits_mod}
use lib.Bits.{bit_and, bit_or, bit_xor, differ, and_step, or_step, xor_step}
use lib.Dec.{eqb}
use lib.Pow.{pow_pos, shr-shr}
use Rattle.theory.specs.Guesses.{bit, unlike}

-- a digit is 0 or 1
pub digit-cases : (d : ℕ) → d < 2 → (d ≡ 0) ⊎ (d ≡ 1)
digit-cases zero l = inl refl
digit-cases (suc zero) l = inr refl
digit-cases (suc (suc d)) l = absurd (omega arith)

odd_below : (w : ℕ) → w % 2 < 2
odd_below w = mod-lt w (zero-lt-suc 1)

-- one digit of each number gives one digit
module _ (op : ℕ → ℕ → ℕ) (f : ℕ → ℕ → ℕ) (g : Bool → Bool → Bool)
    (step : (a b : ℕ) → op a b ≡ op (a / 2) (b / 2) * 2 + f (a % 2) (b % 2))
    (small : (x y : ℕ) → x < 2 → y < 2 → f x y < 2)
    (means : (x y : ℕ) → x < 2 → y < 2 → eqb (f x y) 1 ≡ g (eqb x 1) (eqb y 1)) where
  op_half : (a b : ℕ) → op a b / 2 ≡ op (a / 2) (b / 2)
  op_half a b = ap (λ (n : ℕ). n / 2) (step a b) ∙ digits_div (op (a / 2) (b / 2)) (small (a % 2) (b % 2) (odd_below a) (odd_below b))

  op_odd : (a b : ℕ) → op a b % 2 ≡ f (a % 2) (b % 2)
  op_odd a b = ap (λ (n : ℕ). n % 2) (step a b) ∙ digits_mod (op (a / 2) (b / 2)) (small (a % 2) (b % 2) (odd_below a) (odd_below b))

  bit-op : (j a b : ℕ) → bit (op a b) j ≡ g (bit a j) (bit b j)
  bit-op zero a b = ap (λ (n : ℕ). eqb n 1) (op_odd a b) ∙ means (a % 2) (b % 2) (odd_below a) (odd_below b)
  bit-op (suc j) a b = ap (λ (n : ℕ). bit n j) (op_half a b) ∙ bit-op j (a / 2) (b / 2)

-- what holds of 0 and 1 holds of every digit
two_digits : (Q : ℕ → ℕ → Type 0) → Q 0 0 → Q 0 1 → Q 1 0 → Q 1 1 → (x y : ℕ) → x < 2 → y < 2 → Q x y
two_digits Q a b c d x y l m = go (digit-cases x l) (digit-cases y m)
  where
    go : (x ≡ 0) ⊎ (x ≡ 1) → (y ≡ 0) ⊎ (y ≡ 1) → Q x y
    go (inl p) (inl q) = subst (λ (n : ℕ). Q n y) (sym p) (subst (λ (n : ℕ). Q 0 n) (sym q) a)
    go (inl p) (inr q) = subst (λ (n : ℕ). Q n y) (sym p) (subst (λ (n : ℕ). Q 0 n) (sym q) b)
    go (inr p) (inl q) = subst (λ (n : ℕ). Q n y) (sym p) (subst (λ (n : ℕ). Q 1 n) (sym q) c)
    go (inr p) (inr q) = subst (λ (n : ℕ). Q n y) (sym p) (subst (λ (n : ℕ). Q 1 n) (sym q) d)

pub bit-and : (j a b : ℕ) → bit (bit_and a b) j ≡ bit a j && bit b j
bit-and =
    bit-op bit_and min ◌&&◌ and_step
    (two_digits (λ x y. min x y < 2) (omega arith) (omega arith) (omega arith) (omega arith))
    (two_digits (λ x y. eqb (min x y) 1 ≡ eqb x 1 && eqb y 1) refl refl refl refl)

pub bit-or : (j a b : ℕ) → bit (bit_or a b) j ≡ bit a j || bit b j
bit-or =
    bit-op bit_or max ◌||◌ or_step
    (two_digits (λ x y. max x y < 2) (omega arith) (omega arith) (omega arith) (omega arith))
    (two_digits (λ x y. eqb (max x y) 1 ≡ eqb x 1 || eqb y 1) refl refl refl refl)

pub bit-xor : (j a b : ℕ) → bit (bit_xor a b) j ≡ unlike (bit a j) (bit b j)
bit-xor =
    bit-op bit_xor differ unlike xor_step
    (two_digits (λ x y. differ x y < 2) (omega arith) (omega arith) (omega arith) (omega arith))
    (two_digits (λ x y. eqb (differ x y) 1 ≡ unlike (eqb x 1) (eqb y 1)) refl refl refl refl)

-- the bit as the code finds it
pub bit_shifted : (j w : ℕ) → bit w j ≡ eqb (w / 2 ^ j % 2) 1
bit_shifted zero w = ap (λ (n : ℕ). eqb (n % 2) 1) (sym (by_one w))
  where
    by_one : (n : ℕ) → n / 1 ≡ n
    by_one n = omega arith
bit_shifted (suc j) w = bit_shifted j (w / 2) ∙ ap (λ (n : ℕ). eqb (n % 2) 1) (shr-shr w 1 j ∙ ap (λ (m : ℕ). w / 2 ^ m) (one_more j))
  where
    one_more : (n : ℕ) → 1 + n ≡ suc n
    one_more n = omega arith

-- 0 has no bit set
pub bit-zero : (j : ℕ) → bit 0 j ≡ false
bit-zero zero = refl
bit-zero (suc j) = bit-zero j

-- the bits of a number above one of k digits
pub bit-above : (k j a r : ℕ) → r < 2 ^ k → bit (a * 2 ^ k + r) (k + j) ≡ bit a j
bit-above k j a r l =
    bit_shifted (k + j) (a * 2 ^ k + r)
    ∙ ap (λ (n : ℕ). eqb (n % 2) 1) (sym (shr-shr (a * 2 ^ k + r) k j) ∙ ap (λ (n : ℕ). n / 2 ^ j) (digits_div a l))
    ∙ sym (bit_shifted j a)

-- the bits below are those of what they alone make
pub bit_below : (k j a r : ℕ) → j < k → bit (a * 2 ^ k + r) j ≡ bit r j
bit_below zero j a r l = absurd (omega arith)
bit_below (suc k) j a r l = ap (λ (n : ℕ). bit (n + r) j) (ap (λ (n : ℕ). a * n) (pow-suc 2 k) ∙ sym (mul_assoc a (2 ^ k) 2)) ∙ go j l (λ i m. bit_below k i a (r / 2) m)
  where
    odd : (b : ℕ) → (b * 2 + r) % 2 ≡ r % 2
    odd b = omega arith

    half : (b : ℕ) → (b * 2 + r) / 2 ≡ b + r / 2
    half b = omega arith

    go : (j : ℕ) → j < suc k → ((i : ℕ) → i < k → bit (a * 2 ^ k + r / 2) i ≡ bit (r / 2) i) → bit (a * 2 ^ k * 2 + r) j ≡ bit r j
    go zero m next = ap (λ (n : ℕ). eqb n 1) (odd (a * 2 ^ k))
    go (suc j) m next = ap (λ (n : ℕ). bit n j) (half (a * 2 ^ k)) ∙ next j (omega arith)

-- k digits that are all set
pub bit-ones : (k j : ℕ) → j < k → bit (2 ^ k - 1) j ≡ true
bit-ones zero j l = absurd (omega arith)
bit-ones (suc k) j l = ap (λ (n : ℕ). bit n j) twice ∙ go j l (bit-ones k)
  where
    pos : 0 < 2 ^ k
    pos = pow_pos k

    twice : 2 ^ suc k - 1 ≡ (2 ^ k - 1) * 2 + 1
    twice = let e : 2 ^ suc k ≡ 2 ^ k * 2 = pow-suc 2 k in omega (arith, pos)

    go : (j : ℕ) → j < suc k → ((i : ℕ) → i < k → bit (2 ^ k - 1) i ≡ true) → bit ((2 ^ k - 1) * 2 + 1) j ≡ true
    go zero m r = let o : ((2 ^ k - 1) * 2 + 1) % 2 ≡ 1 = omega arith in ap (λ (n : ℕ). eqb n 1) o
    go (suc j) m r = let h : ((2 ^ k - 1) * 2 + 1) / 2 ≡ 2 ^ k - 1 = omega arith in ap (λ (n : ℕ). bit n j) h ∙ r j (omega arith)
