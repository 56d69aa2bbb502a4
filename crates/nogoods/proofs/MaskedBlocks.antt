-- A mask that leaves the lowest places free: the guesses come in blocks, of which each has one value under it.
use Prim.Native.Nat.{ℕ, zero, suc, ◌+◌, ◌-◌, ◌*◌, ◌/◌, ◌%◌, ◌^◌, ◌<◌, ◌≤◌}
use native.Mathlib.Nat.{add-zero, div-lt_iff_lt-mul, mod-lt, mod-one, mul-le-mul_right, one-mul, pow-suc, zero-lt-suc, zero-mod}
use native.Mathlib.Omega.{arith}
use mathlib.Core.Path.{◌≡◌, refl, sym, ap, ap₂, subst, ◌∙◌}
use lib.Arith.{mod-mul}
use lib.Bits.{bit_and, bit_xor, and_block, and_zero_r, xor_lt}
use lib.Count.{count_trailing_zeros, under}
use lib.Pow.{mod-mod-pow, pow-add, pow-lt, pow_pos, shl_exact, shr_le, shr_lt, shr_mono, split}
use Rattle.items.specs.Item.{max_guessed}
use Rattle.nogoods.specs.Nogoods.{guesses}

-- The zeros at the low end of a number are clear, and so is any part of them.
pub zeros_clear : (k m : ℕ) → m % 2 ^ count_trailing_zeros k m ≡ 0
unfolding count_trailing_zeros
zeros_clear zero m = mod-one m
zeros_clear (suc k) m = go (m % 2) refl (zeros_clear k (m / 2))
  where
    go : (d : ℕ) → m % 2 ≡ d → m / 2 % 2 ^ count_trailing_zeros k (m / 2) ≡ 0 → m % 2 ^ under d (count_trailing_zeros k (m / 2)) ≡ 0
    go zero e low =
        ap (λ (n : ℕ). m % n) (pow-suc 2 (count_trailing_zeros k (m / 2)))
        ∙ mod-mul m (pow_pos (count_trailing_zeros k (m / 2))) (zero-lt-suc 1)
        ∙ ap₂ (λ (x y : ℕ). x * 2 + y) low e
    go (suc d) e low = mod-one m

pub clear-below : (m j k : ℕ) → j ≤ k → m % 2 ^ k ≡ 0 → m % 2 ^ j ≡ 0
clear-below m j k h e =
    let whole : k - j + j ≡ k = omega arith in
    sym (mod-mod-pow m (k - j) j) ∙ ap (λ (n : ℕ). m % 2 ^ n % 2 ^ j) whole ∙ ap (λ (n : ℕ). n % 2 ^ j) e ∙ zero-mod (2 ^ j)

-- Numbers that differ in free places only have one value under the mask.
masked : (b x m : ℕ) → m % 2 ^ b ≡ 0 → bit_and x m ≡ bit_and (x / 2 ^ b) (m / 2 ^ b) * 2 ^ b
masked b x m e =
    ap₂ bit_and (sym (split x b)) (sym (split m b))
    ∙ and_block b (x / 2 ^ b) (m / 2 ^ b) (x % 2 ^ b) (m % 2 ^ b) (mod-lt x (pow_pos b)) (mod-lt m (pow_pos b))
    ∙ ap (λ (n : ℕ). bit_and (x / 2 ^ b) (m / 2 ^ b) * 2 ^ b + n) (ap (bit_and (x % 2 ^ b)) e ∙ and_zero_r (x % 2 ^ b))
    ∙ add-zero (bit_and (x / 2 ^ b) (m / 2 ^ b) * 2 ^ b)

masked_same : (b x y m : ℕ) → x / 2 ^ b ≡ y / 2 ^ b → m % 2 ^ b ≡ 0 → bit_and x m ≡ bit_and y m
masked_same b x y m same e = masked b x m e ∙ ap (λ (n : ℕ). bit_and n (m / 2 ^ b) * 2 ^ b) same ∙ sym (masked b y m e)

-- A place as a number, as the code makes it.
place_fits : (b : ℕ) → b ≤ max_guessed → 1 * 2 ^ b % 4294967296 ≡ 2 ^ b
place_fits b h = shl_exact {a = 1} 1 b 32 (omega arith) (omega arith) ∙ one-mul (2 ^ b)

pub turned_small : (guess place : ℕ) → guess < guesses → place < max_guessed → bit_xor guess (1 * 2 ^ place % 4294967296) < guesses
turned_small guess place g p = xor_lt max_guessed guess _ g (subst (λ (n : ℕ). n < guesses) (sym (place_fits place (omega arith))) (pow-lt p))

-- The block of a guess, by its size: it ends above the guess and not above all guesses, and from the guess on all in it have the guess's value under the mask.
pub record Block (guess mask size : ℕ) : Type 0 where
  pub some : 0 < size
  pub number : guess / size ≤ guess
  pub above : guess < (guess / size + 1) * size
  pub ends : (guess / size + 1) * size ≤ guesses
  pub same : (x : ℕ) → guess ≤ x → x < (guess / size + 1) * size → bit_and x mask ≡ bit_and guess mask

module _ (guess mask b : ℕ) (small : guess < guesses) (few : b ≤ max_guessed) (clear : mask % 2 ^ b ≡ 0) where
  -- The blocks part the guesses evenly.
  block_ends : (guess / 2 ^ b + 1) * 2 ^ b ≤ guesses
  block_ends = subst (λ (n : ℕ). (guess / 2 ^ b + 1) * 2 ^ b ≤ n) whole (mul-le-mul_right (2 ^ b) below)
    where
      rest : max_guessed - b + b ≡ max_guessed
      rest = omega arith

      whole : 2 ^ (max_guessed - b) * 2 ^ b ≡ guesses
      whole = sym (pow-add 2 (max_guessed - b) b) ∙ ap (λ (n : ℕ). 2 ^ n) rest

      below : guess / 2 ^ b + 1 ≤ 2 ^ (max_guessed - b)
      below = let l : guess / 2 ^ b < 2 ^ (max_guessed - b) = shr_lt (max_guessed - b) b (subst (λ (n : ℕ). guess < 2 ^ n) (sym rest) small) in omega arith

  together : (x : ℕ) → guess ≤ x → x < (guess / 2 ^ b + 1) * 2 ^ b → x / 2 ^ b ≡ guess / 2 ^ b
  together x l u =
      let low : guess / 2 ^ b ≤ x / 2 ^ b = shr_mono b l in
      let high : x / 2 ^ b < guess / 2 ^ b + 1 = (div-lt_iff_lt-mul (pow_pos b)).1 u in
      omega arith

  pub block_of : Block guess mask (1 * 2 ^ b % 4294967296)
  block_of =
      subst (λ (n : ℕ). Block guess mask n) (sym (place_fits b few))
      record {
        some = pow_pos b;
        number = shr_le guess b;
        above = (div-lt_iff_lt-mul (pow_pos b)).0 (omega arith);
        ends = block_ends;
        same = λ x l u. masked_same b x guess mask (together x l u) clear;
      }
