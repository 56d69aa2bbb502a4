-- The bits of a word.
use Prim.Native.Nat.{ℕ, zero, suc, ◌+◌, ◌-◌, ◌*◌, ◌/◌, ◌%◌, ◌^◌, ◌≤◌, ◌<◌, min, max}
use mathlib.Core.Path.{◌≡◌, refl, sym, ap, ap₂, subst, ◌∙◌}
use mathlib.Core.Bool.{Bool, true, false, not, ◌&&◌, ◌||◌}
use mathlib.Core.Option.{Option, none, some}
use native.Mathlib.Nat.{max-zero, zero-lt-suc, mod-lt, div-add-mod', pow-suc}
use native.Mathlib.Omega.{arith}
use borrow.Author.Tests.{eqb-true, ne_eqb, eq-eqb}
use lib.Arith.{digits_div, digits_mod}
use lib.Bits.{bit_and, bit_or, bit_xor, differ, or_step, or_zero_r, and_step, and_self, xor_step, xor_zero_r, shifted_half, shifted_even}
use lib.Count.{count_trailing_zeros, under}
use lib.Pow.{shr-shr}
use lib.Dec.{eqb}
use Rattle.theory.specs.Guesses.{bit}
use Rattle.theory.specs.Rule.{range, adjoin}
use Rattle.theory.specs.Lists.{seek}
use Rattle.theory.proofs.Bools.{never, and-false}
use Rattle.bits.specs.Flags.{digit, word, without}

digit-small : (b : Bool) → digit b < 2
digit-small true = omega arith
digit-small false = omega arith

-- its lowest bit, and the others
pub half : (x : ℕ) (b : Bool) → (x * 2 + digit b) / 2 ≡ x
half x b = digits_div x (digit-small b)

pub odd : (x : ℕ) (b : Bool) → (x * 2 + digit b) % 2 ≡ digit b
odd x b = digits_mod x (digit-small b)

-- those of a power of 2
once : (x : ℕ) → 1 * x ≡ x
once x = omega arith

power_half : (b : ℕ) → 2 ^ suc b / 2 ≡ 2 ^ b
power_half b = ap (λ (x : ℕ). x / 2) (sym (once (2 ^ suc b))) ∙ shifted_half 1 b ∙ once (2 ^ b)

power_even : (b : ℕ) → 2 ^ suc b % 2 ≡ 0
power_even b = ap (λ (x : ℕ). x % 2) (sym (once (2 ^ suc b))) ∙ shifted_even 1 b

-- Sets that agree on its numbers have the same word.
pub word-ext : (p q : ℕ → Bool) (a n : ℕ) → ((i : ℕ) → a ≤ i → i < a + n → p i ≡ q i) → word p a n ≡ word q a n
unfolding word
word-ext p q a zero h = refl
word-ext p q a (suc n) h =
    ap₂ (λ (x : ℕ) (b : Bool). x * 2 + digit b) (word-ext p q (suc a) n (λ i l u. h i (omega arith) (omega arith))) (h a (omega arith) (omega arith))

-- Sets with the same word agree on its numbers.
pub word_same : (p q : ℕ → Bool) (a n : ℕ) → word p a n ≡ word q a n → (i : ℕ) → i < n → p (a + i) ≡ q (a + i)
unfolding word
word_same p q a zero e i h = absurd (omega arith)
word_same p q a (suc n) e zero h = ap p (here a) ∙ low (p a) (q a) e ∙ sym (ap q (here a))
  where
    here : (m : ℕ) → m + 0 ≡ m
    here m = omega arith

    low : (b c : Bool) → word p (suc a) n * 2 + digit b ≡ word q (suc a) n * 2 + digit c → b ≡ c
    low true true e = refl
    low true false e = absurd (omega arith)
    low false true e = absurd (omega arith)
    low false false e = refl
word_same p q a (suc n) e (suc i) h =
    let next : a + suc i ≡ suc a + i = omega arith in
    rw next (word_same p q (suc a) n (high (p a) (q a) e) i (omega arith))
  where
    high : (b c : Bool) → word p (suc a) n * 2 + digit b ≡ word q (suc a) n * 2 + digit c → word p (suc a) n ≡ word q (suc a) n
    high true true e = omega arith
    high true false e = omega arith
    high false true e = omega arith
    high false false e = omega arith

-- One number more is one bit set.
pub word-marked : (p : ℕ → Bool) (a n b : ℕ) → b < n → bit_or (word p a n) (2 ^ b) ≡ word (adjoin p (a + b)) a n
unfolding word
word-marked p a zero b h = absurd (omega arith)
word-marked p a (suc n) zero h =
    or_step (word p (suc a) n * 2 + digit (p a)) 1
    ∙ ap₂ (λ (x y : ℕ). bit_or x 0 * 2 + max y 1) (half (word p (suc a) n) (p a)) (odd (word p (suc a) n) (p a))
    ∙ ap₂ (λ (x y : ℕ). x * 2 + y) (or_zero_r (word p (suc a) n) ∙ word-ext p (adjoin p (a + 0)) (suc a) n others) (set-low (p a))
  where
    others : (i : ℕ) → suc a ≤ i → i < suc a + n → p i ≡ adjoin p (a + 0) i
    others i l u = sym (ap (λ (t : Bool). t || p i) (ne_eqb i (a + 0) (λ e. omega arith)))

    most : (b : Bool) → max (digit b) 1 ≡ 1
    most true = refl
    most false = refl

    set-low : (b : Bool) → max (digit b) 1 ≡ digit (eqb a (a + 0) || b)
    set-low b = most b ∙ sym (ap (λ (t : Bool). digit (t || b)) (eq-eqb a (a + 0) (omega arith)))
word-marked p a (suc n) (suc b) h =
    or_step (word p (suc a) n * 2 + digit (p a)) (2 ^ suc b)
    ∙ ap₂ (λ (x y : ℕ). bit_or x (2 ^ suc b / 2) * 2 + max y (2 ^ suc b % 2)) (half (word p (suc a) n) (p a)) (odd (word p (suc a) n) (p a))
    ∙ ap₂ (λ (x y : ℕ). bit_or (word p (suc a) n) x * 2 + max (digit (p a)) y) (power_half b) (power_even b)
    ∙ ap₂ (λ (x y : ℕ). x * 2 + y) (word-marked p (suc a) n b (omega arith) ∙ ap (λ (m : ℕ). word (adjoin p m) (suc a) n) (next a b)) (max-zero (digit (p a)) ∙ kept)
  where
    next : (a b : ℕ) → suc a + b ≡ a + suc b
    next a b = omega arith

    kept : digit (p a) ≡ digit (eqb a (a + suc b) || p a)
    kept = sym (ap (λ (t : Bool). digit (t || p a)) (ne_eqb a (a + suc b) (λ e. omega arith)))

-- A word of which no bit is set.
pub word_none : (p : ℕ → Bool) (a n : ℕ) → word p a n ≡ 0 → ◌≡◌ {A = Option ℕ} (seek p (range a n)) none
unfolding word
word_none p a zero e = refl
word_none p a (suc n) e = go (p a) refl (word_none p (suc a) n)
  where
    go : (b : Bool) → p a ≡ b → (word p (suc a) n ≡ 0 → ◌≡◌ {A = Option ℕ} (seek p (range (suc a) n)) none) → ◌≡◌ {A = Option ℕ} (seek p (range a (suc n))) none
    go true q r = let z : word p (suc a) n * 2 + 1 ≡ 0 = sym (ap (λ (b : Bool). word p (suc a) n * 2 + digit b) q) ∙ e in absurd (omega arith)
    go false q r = let z : word p (suc a) n * 2 + 0 ≡ 0 = sym (ap (λ (b : Bool). word p (suc a) n * 2 + digit b) q) ∙ e in rw (q, seek) (r (omega arith))

-- The lowest bit of a word is its lowest number; without that bit it has the others.
pub record LowestTaken (p : ℕ → Bool) (a n : ℕ) : Type 0 where
  pub found : seek p (range a n) ≡ some (a + count_trailing_zeros n (word p a n))
  pub rest : bit_and (word p a n) (word p a n - 1) ≡ word (without p (a + count_trailing_zeros n (word p a n))) a n

pub word-lowest : (p : ℕ → Bool) (a n : ℕ) → 0 < word p a n → LowestTaken p a n
unfolding word count_trailing_zeros
word-lowest p a zero h = absurd (omega arith)
word-lowest p a (suc n) h = go (p a) refl (word-lowest p (suc a) n)
  where
    zeros_are : (b : Bool) → p a ≡ b → count_trailing_zeros (suc n) (word p a (suc n)) ≡ under (digit b) (count_trailing_zeros n (word p (suc a) n))
    zeros_are b q =
        ap₂ (λ (d y : ℕ). under d (count_trailing_zeros n y)) (odd (word p (suc a) n) (p a)) (half (word p (suc a) n) (p a))
        ∙ ap (λ (b : Bool). under (digit b) (count_trailing_zeros n (word p (suc a) n))) q

    word-is : (b : Bool) → p a ≡ b → word p a (suc n) ≡ word p (suc a) n * 2 + digit b
    word-is b q = ap (λ (b : Bool). word p (suc a) n * 2 + digit b) q

    go : (b : Bool) → p a ≡ b → (0 < word p (suc a) n → LowestTaken p (suc a) n) → LowestTaken p a (suc n)
    go true q r = record { found = first ∙ ap (λ (m : ℕ). some m) here; rest = cleared ∙ sym (ap (λ (t : ℕ). word (without p (a + t)) a (suc n)) (zeros_are true q) ∙ left) }
      where
        first : seek p (range a (suc n)) ≡ some a
        first = rw (q, seek) refl

        here : a ≡ a + count_trailing_zeros (suc n) (word p a (suc n))
        here = omega (arith, zeros_are true q)

        others : (i : ℕ) → suc a ≤ i → i < suc a + n → without p (a + 0) i ≡ p i
        others i l u = ap (λ (t : Bool). not t && p i) (ne_eqb i (a + 0) (λ e. omega arith))

        left : word (without p (a + 0)) a (suc n) ≡ word p (suc a) n * 2 + 0
        left =
            ap₂ (λ (x : ℕ) (b : Bool). x * 2 + digit b) (word-ext (without p (a + 0)) p (suc a) n others)
            (ap (λ (t : Bool). not t && p a) (eq-eqb a (a + 0) (omega arith)))

        less : (y : ℕ) → y * 2 + 1 - 1 ≡ y * 2 + 0
        less y = omega arith

        cleared : bit_and (word p a (suc n)) (word p a (suc n) - 1) ≡ word p (suc a) n * 2 + 0
        cleared =
            ap (λ (m : ℕ). bit_and m (m - 1)) (word-is true q)
            ∙ ap (λ (m : ℕ). bit_and (word p (suc a) n * 2 + 1) m) (less (word p (suc a) n))
            ∙ and_step (word p (suc a) n * 2 + digit true) (word p (suc a) n * 2 + digit false)
            ∙ ap₂ (λ (y z : ℕ). bit_and y z * 2 + min ((word p (suc a) n * 2 + 1) % 2) ((word p (suc a) n * 2 + 0) % 2)) (half (word p (suc a) n) true) (half (word p (suc a) n) false)
            ∙ ap₂ (λ (y z : ℕ). bit_and (word p (suc a) n) (word p (suc a) n) * 2 + min y z) (odd (word p (suc a) n) true) (odd (word p (suc a) n) false)
            ∙ ap (λ (m : ℕ). m * 2 + 0) (and_self (word p (suc a) n))
    go false q r =
        let positive : 0 < word p (suc a) n * 2 + 0 = subst (λ (m : ℕ). 0 < m) (word-is false q) h in
        later (omega arith) (r (omega arith))
      where
        later : 0 < word p (suc a) n → LowestTaken p (suc a) n → LowestTaken p a (suc n)
        later g t = record { found = skipped ∙ t.found ∙ ap (λ (m : ℕ). some m) there; rest = cleared ∙ sym (ap (λ (t : ℕ). word (without p (a + t)) a (suc n)) (zeros_are false q) ∙ left) }
          where
            skipped : ◌≡◌ {A = Option ℕ} (seek p (range a (suc n))) (seek p (range (suc a) n))
            skipped = rw (q, seek) refl

            there : suc a + count_trailing_zeros n (word p (suc a) n) ≡ a + count_trailing_zeros (suc n) (word p a (suc n))
            there = omega (arith, zeros_are false q)

            next : (y : ℕ) → a + suc y ≡ suc a + y
            next y = omega arith

            left : word (without p (a + suc (count_trailing_zeros n (word p (suc a) n)))) a (suc n) ≡ word (without p (suc a + count_trailing_zeros n (word p (suc a) n))) (suc a) n * 2 + 0
            left =
                ap₂ (λ (x : ℕ) (b : Bool). x * 2 + digit b) (ap (λ (m : ℕ). word (without p m) (suc a) n) (next (count_trailing_zeros n (word p (suc a) n))))
                (ap (λ (t : Bool). not (eqb a (a + suc (count_trailing_zeros n (word p (suc a) n)))) && t) q ∙ and-false (not (eqb a (a + suc (count_trailing_zeros n (word p (suc a) n))))))

            less : (y : ℕ) → 0 < y → y * 2 + 0 - 1 ≡ (y - 1) * 2 + 1
            less y k = omega arith

            cleared : bit_and (word p a (suc n)) (word p a (suc n) - 1) ≡ word (without p (suc a + count_trailing_zeros n (word p (suc a) n))) (suc a) n * 2 + 0
            cleared =
                ap (λ (m : ℕ). bit_and m (m - 1)) (word-is false q)
                ∙ ap (λ (m : ℕ). bit_and (word p (suc a) n * 2 + 0) m) (less (word p (suc a) n) g)
                ∙ and_step (word p (suc a) n * 2 + digit false) ((word p (suc a) n - 1) * 2 + digit true)
                ∙ ap₂ (λ (y z : ℕ). bit_and y z * 2 + min ((word p (suc a) n * 2 + 0) % 2) (((word p (suc a) n - 1) * 2 + 1) % 2)) (half (word p (suc a) n) false) (half (word p (suc a) n - 1) true)
                ∙ ap₂ (λ (y z : ℕ). bit_and (word p (suc a) n) (word p (suc a) n - 1) * 2 + min y z) (odd (word p (suc a) n) false) (odd (word p (suc a) n - 1) true)
                ∙ ap (λ (m : ℕ). m * 2 + 0) t.rest

-- a word of n numbers has n bits
pub word_fits : (p : ℕ → Bool) (a n : ℕ) → word p a n < 2 ^ n
unfolding word
word_fits p a zero = omega arith
word_fits p a (suc n) =
    let r : word p (suc a) n < 2 ^ n = word_fits p (suc a) n in
    let d : digit (p a) < 2 = digit-small (p a) in
    let e : 2 ^ suc n ≡ 2 ^ n * 2 = pow-suc 2 n in
    omega arith

-- The bits of the word of a set are its numbers.
pub bit_word : (p : ℕ → Bool) (a n j : ℕ) → j < n → bit (word p a n) j ≡ p (a + j)
unfolding word
bit_word p a zero j h = absurd (omega arith)
bit_word p a (suc n) zero h = ap (λ (m : ℕ). eqb m 1) (odd (word p (suc a) n) (p a)) ∙ told (p a) ∙ ap p (here a)
  where
    told : (b : Bool) → eqb (digit b) 1 ≡ b
    told true = refl
    told false = refl

    here : (m : ℕ) → m ≡ m + 0
    here m = omega arith
bit_word p a (suc n) (suc j) h =
    let next : suc a + j ≡ a + suc j = omega arith in
    ap (λ (x : ℕ). bit x j) (half (word p (suc a) n) (p a)) ∙ bit_word p (suc a) n j (omega arith) ∙ ap p next

-- The lowest bit is set, and none below it.
pub lowest_set : (n x : ℕ) → count_trailing_zeros n x < n → bit x (count_trailing_zeros n x) ≡ true
unfolding count_trailing_zeros
lowest_set zero x h = absurd (omega arith)
lowest_set (suc n) x h = go (x % 2) refl (lowest_set n (x / 2)) h
  where
    go : (d : ℕ) → x % 2 ≡ d → (count_trailing_zeros n (x / 2) < n → bit (x / 2) (count_trailing_zeros n (x / 2)) ≡ true) → under d (count_trailing_zeros n (x / 2)) < suc n → bit x (under d (count_trailing_zeros n (x / 2))) ≡ true
    go zero e r l = r (omega arith)
    go (suc d) e r l = eq-eqb (x % 2) 1 (omega (arith, mod-lt x (zero-lt-suc 1)))

pub lower_clear : (n x t : ℕ) → t < count_trailing_zeros n x → bit x t ≡ false
unfolding count_trailing_zeros
lower_clear zero x t h = absurd (omega arith)
lower_clear (suc n) x t h = go (x % 2) refl (lower_clear n (x / 2)) t h
  where
    go : (d : ℕ) → x % 2 ≡ d → ((t : ℕ) → t < count_trailing_zeros n (x / 2) → bit (x / 2) t ≡ false) → (t : ℕ) → t < under d (count_trailing_zeros n (x / 2)) → bit x t ≡ false
    go zero e r zero l = ap (λ (m : ℕ). eqb m 1) e
    go zero e r (suc t) l = r t (omega arith)
    go (suc d) e r t l = absurd (omega arith)

-- A bit of the bits of a word from one on is a bit of it.
pub upper_set : (from w j : ℕ) → bit (w / 2 ^ from * 2 ^ from) j ≡ true → bit w j ≡ true
upper_set zero w j e = subst (λ (x : ℕ). bit x j ≡ true) (whole w) e
  where
    whole : (x : ℕ) → x / 1 * 1 ≡ x
    whole x = omega arith
upper_set (suc k) w zero e = never e (ap (λ (m : ℕ). eqb m 1) (shifted_even (w / 2 ^ suc k) k))
upper_set (suc k) w (suc j) e = upper_set k (w / 2) j (subst (λ (x : ℕ). bit x j ≡ true) (shifted_half (w / 2 ^ suc k) k ∙ ap (λ (m : ℕ). m * 2 ^ k) halved) e)
  where
    more : (m : ℕ) → suc m ≡ 1 + m
    more m = omega arith

    halved : w / 2 ^ suc k ≡ w / 2 / 2 ^ k
    halved = ap (λ (m : ℕ). w / 2 ^ m) (more k) ∙ sym (shr-shr w 1 k)

-- A bit that is set is cleared: the word is less by that bit, as is the word of a set by one number.
pub set-cleared : (w b : ℕ) → bit w b ≡ true → bit_xor w (2 ^ b) + 2 ^ b ≡ w
set-cleared w zero e =
    let one : w % 2 ≡ 1 = eqb-true (w % 2) 1 e in
    let low : bit_xor w 1 ≡ w / 2 * 2 + 0 = xor_step w 1 ∙ ap₂ (λ (x y : ℕ). x * 2 + differ y 1) (xor_zero_r (w / 2)) one in
    omega (arith, div-add-mod' w 2)
set-cleared w (suc b) e =
    let rest : bit_xor (w / 2) (2 ^ b) + 2 ^ b ≡ w / 2 = set-cleared (w / 2) b e in
    let twice : 2 ^ suc b ≡ 2 ^ b * 2 = pow-suc 2 b in
    let stepped : bit_xor w (2 ^ suc b) ≡ bit_xor (w / 2) (2 ^ b) * 2 + w % 2 = xor_step w (2 ^ suc b) ∙ ap₂ (λ (x y : ℕ). bit_xor (w / 2) x * 2 + differ (w % 2) y) (power_half b) (power_even b) ∙ ap (λ (y : ℕ). bit_xor (w / 2) (2 ^ b) * 2 + y) (alone (w % 2)) in
    omega (arith, div-add-mod' w 2)
  where
    alone : (x : ℕ) → differ x 0 ≡ x
    alone zero = refl
    alone (suc x) = refl

word-less : (p : ℕ → Bool) (a n b : ℕ) → b < n → p (a + b) ≡ true → word (without p (a + b)) a n + 2 ^ b ≡ word p a n
unfolding word
word-less p a zero b h e = absurd (omega arith)
word-less p a (suc n) zero h e =
    let here : a ≡ a + 0 = omega arith in
    let others : word (without p (a + 0)) (suc a) n ≡ word p (suc a) n = word-ext (without p (a + 0)) p (suc a) n (λ i l u. ap (λ (t : Bool). not t && p i) (ne_eqb i (a + 0) (λ q. omega arith))) in
    let gone : digit (without p (a + 0) a) ≡ 0 = ap (λ (t : Bool). digit (not t && p a)) (eq-eqb a (a + 0) here) in
    let there : digit (p a) ≡ 1 = ap digit (ap p here ∙ e) in
    omega arith
word-less p a (suc n) (suc b) h e =
    let next : suc a + b ≡ a + suc b = omega arith in
    let others : word (without p (a + suc b)) (suc a) n + 2 ^ b ≡ word p (suc a) n = subst (λ (m : ℕ). word (without p m) (suc a) n + 2 ^ b ≡ word p (suc a) n) next (word-less p (suc a) n b (omega arith) (ap p next ∙ e)) in
    let kept : digit (without p (a + suc b) a) ≡ digit (p a) = ap (λ (t : Bool). digit (not t && p a)) (ne_eqb a (a + suc b) (λ q. omega arith)) in
    let twice : 2 ^ suc b ≡ 2 ^ b * 2 = pow-suc 2 b in
    omega arith

pub word-cleared : (p : ℕ → Bool) (a n b : ℕ) → b < n → bit (word p a n) b ≡ true → bit_xor (word p a n) (2 ^ b) ≡ word (without p (a + b)) a n
word-cleared p a n b h e = omega (arith, set-cleared (word p a n) b e, word-less p a n b h (sym (bit_word p a n b h) ∙ e))
