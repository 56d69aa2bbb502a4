-- What a conflict refutes beside its guess.
use Prim.Native.Nat.{ℕ, suc, ◌+◌, ◌*◌, ◌-◌, ◌%◌, ◌^◌, ◌<◌}
use native.Mathlib.Decide.{dec_lt, ℕ_discrete}
use native.Mathlib.Nat.{add-zero}
use native.Mathlib.Omega.{arith}
use mathlib.Core.Path.{◌≡◌, refl, sym, ap, subst, ◌∙◌}
use mathlib.Core.Bool.{Bool, true, false, not, ◌&&◌, ◌||◌, beq, true≢false}
use mathlib.Core.List.{List}
use mathlib.Core.Logic.{⊎_elim, by_cases}
use lib.Bits.{bit_and, bit_or, bit_xor}
use lib.ListN.{length}
use lib.Pow.{pow_pos, shl_exact}
use Rattle.theory.specs.Rule.{Program, in_force, up_to}
use Rattle.theory.specs.Guesses.{bit, unlike}
use Rattle.theory.proofs.Bools.{either, never}
use Rattle.theory.proofs.Lists.{all-elem, up_to-mem}
use Rattle.theory.proofs.NumberBits.{bit-above, bit-and, bit_below, bit-or, bit-xor, bit-zero}
use Rattle.theory.proofs.Guesses.{refutes_within, refutes_above}
use Rattle.items.specs.Item.{max_guessed}
use Rattle.nogoods.specs.Nogoods.{guesses, Refutes}
use Rattle.guessing.specs.Guessing.{Base, sure_in, fits_at, Conflict}
use Rattle.guessing.specs.Bounds.{Responds, Between}
use Rattle.guessing.proofs.PlacesAgree.{beq-false}

-- the number that the code takes for every place has the bit of each
every_place : (i : ℕ) → i < max_guessed → bit 65535 i ≡ true
every_place i l = all-elem (bit 65535) (up_to max_guessed) refl i (up_to-mem max_guessed i l)

-- A number less the bits of another, as the code makes it.
less-bit : (s t i : ℕ) → i < max_guessed → bit (bit_and s (bit_xor 65535 t)) i ≡ bit s i && not (bit t i)
less-bit s t i l = bit-and i s (bit_xor 65535 t) ∙ ap (λ (p : Bool). bit s i && p) (bit-xor i 65535 t ∙ ap (λ (p : Bool). unlike p (bit t i)) (every_place i l))

-- The number that the code makes of a place has the bit of that place alone.
only_place : (c i : ℕ) → c < max_guessed → bit (1 * 2 ^ c % 4294967296) i ≡ true → i ≡ c
only_place c i l t = by_cases (dec_lt i c) (λ below. never (sym shifted ∙ t) (bit_below c i 1 0 below ∙ bit-zero i)) (λ n. by_cases (ℕ_discrete i c) (λ e. e) (λ ne. never (sym shifted ∙ t) (higher (i - suc c) (omega arith))))
  where
    shifted : bit (1 * 2 ^ c % 4294967296) i ≡ bit (1 * 2 ^ c + 0) i
    shifted = ap (λ (n : ℕ). bit n i) (shl_exact {a = 1} 1 c 32 (omega arith) (omega arith) ∙ sym (add-zero (1 * 2 ^ c)))

    higher : (m : ℕ) → i ≡ c + suc m → bit (1 * 2 ^ c + 0) i ≡ false
    higher m e = ap (bit (1 * 2 ^ c + 0)) e ∙ bit-above c (suc m) 1 0 (pow_pos c) ∙ bit-zero m

module _ {P : Program} {R row base missing : List ℕ} (b : Base P R row base missing) {low high : ℕ} (between : Between P row base low high) where
  -- A fact in the guess that is not derived refutes every guess with these bits. What every guess that fits has need not be asked, ..
  pub nogood_above : (s j : ℕ) → Conflict P row base s j → bit s j ≡ true → Refutes (fits_at P row base) (bit_and s (bit_xor 65535 low)) (bit_and s (bit_xor 65535 low))
  nogood_above s j w inside x small e = ⊎_elim (λ fits. refuted (has_all fits)) (λ no. no) (either (fits_at P row base x))
    where
      refuted : ((i : ℕ) → i < length row → bit s i ≡ true → bit x i ≡ true) → fits_at P row base x ≡ false
      refuted = refutes_above P (in_force P) row (sure_in P row base) b.row_base.to_guess s j w.inside inside (w.apart ∙ ap not inside) x

      has-too : (p q l : Bool) → p && (q && not l) ≡ q && not l → q ≡ true → (l ≡ true → p ≡ true) → p ≡ true
      has-too p true true e t h = h refl
      has-too true true false e t h = refl
      has-too false true false e t h = never refl (sym e)
      has-too p false l e t h = never t refl

      asked : (i : ℕ) → i < max_guessed → bit x i && (bit s i && not (bit low i)) ≡ bit s i && not (bit low i)
      asked i l = ap (λ (p : Bool). bit x i && p) (sym (less-bit s low i l)) ∙ sym (bit-and i x _) ∙ ap (λ (n : ℕ). bit n i) e ∙ less-bit s low i l

      has_all : fits_at P row base x ≡ true → (i : ℕ) → i < length row → bit s i ≡ true → bit x i ≡ true
      has_all fits i l t = has-too (bit x i) (bit s i) (bit low i) (asked i (omega (arith, b.row_base.few))) t (between.bits.has_low x i fits l)

  -- .. and one that is derived though it is out every guess that has no others, among those that such a guess can have.
  pub nogood_within : (s j : ℕ) → Conflict P row base s j → bit s j ≡ false → Refutes (fits_at P row base) (bit_and high (bit_xor 65535 s)) 0
  nogood_within s j w out x small e = ⊎_elim (λ fits. refuted (has-only fits)) (λ no. no) (either (fits_at P row base x))
    where
      refuted : ((i : ℕ) → i < length row → bit x i ≡ true → bit s i ≡ true) → fits_at P row base x ≡ false
      refuted = refutes_within P (in_force P) row (sure_in P row base) b.row_base.to_guess s j w.inside out (w.apart ∙ ap not out) x

      no_other : (p q h : Bool) → p && (h && not q) ≡ false → p ≡ true → h ≡ true → q ≡ true
      no_other p true h e t u = refl
      no_other true false true e t u = never refl e
      no_other true false false e t u = u
      no_other false false h e t u = t

      others : (i : ℕ) → i < max_guessed → bit x i && (bit high i && not (bit s i)) ≡ false
      others i l = ap (λ (p : Bool). bit x i && p) (sym (less-bit high s i l)) ∙ sym (bit-and i x _) ∙ ap (λ (n : ℕ). bit n i) e ∙ bit-zero i

      has-only : fits_at P row base x ≡ true → (i : ℕ) → i < length row → bit x i ≡ true → bit s i ≡ true
      has-only fits i l t = no_other (bit x i) (bit s i) (bit high i) (others i (omega (arith, b.row_base.few))) t (between.bits.in_high x i fits l t)

  -- A nogood that asks for one place alone settles it: no guess that fits has the fact in, ..
  pub settled_out : (s j : ℕ) → Conflict P row base s j → bit s j ≡ true → bit_and s (bit_xor 65535 low) ≡ 1 * 2 ^ j % 4294967296 → Between P row base low (bit_and high (bit_xor 65535 (1 * 2 ^ j % 4294967296)))
  settled_out s j w inside alone = record { bits = record { has_low = between.bits.has_low; in_high = still_high } }
    where
      guessed-few : j < max_guessed
      guessed-few = omega (arith, w.inside, b.row_base.few)

      -- Where it were in, the guess would contain the one of the conflict.
      never_in : (x : ℕ) → fits_at P row base x ≡ true → bit x j ≡ true → ⊥
      never_in x fits t =
          true≢false (sym fits ∙ refutes_above P (in_force P) row (sure_in P row base) b.row_base.to_guess s j w.inside inside (w.apart ∙ ap not inside) x (λ i l u. has-it i l u (bit low i) refl))
        where
          has-it : (i : ℕ) → i < length row → bit s i ≡ true → (q : Bool) → bit low i ≡ q → bit x i ≡ true
          has-it i l u true q = between.bits.has_low x i fits l q
          has-it i l u false q =
              let asked : bit (1 * 2 ^ j % 4294967296) i ≡ true = ap (λ (n : ℕ). bit n i) (sym alone) ∙ less-bit s low i (omega (arith, b.row_base.few)) ∙ rw (u, q) refl in
              subst (λ (n : ℕ). bit x n ≡ true) (sym (only_place j i guessed-few asked)) t

      still_high : (x i : ℕ) → fits_at P row base x ≡ true → i < length row → bit x i ≡ true → bit (bit_and high (bit_xor 65535 (1 * 2 ^ j % 4294967296))) i ≡ true
      still_high x i fits l t = less-bit high (1 * 2 ^ j % 4294967296) i (omega (arith, b.row_base.few)) ∙ rw (between.bits.in_high x i fits l t) (other (bit (1 * 2 ^ j % 4294967296) i) refl)
        where
          other : (q : Bool) → bit (1 * 2 ^ j % 4294967296) i ≡ q → not q ≡ true
          other false q = refl
          other true q = absurd (never_in x fits (subst (λ (n : ℕ). bit x n ≡ true) (only_place j i guessed-few q) t))

  -- .. or each has.
  pub settled_in : (s j : ℕ) → Conflict P row base s j → bit s j ≡ false → bit_and high (bit_xor 65535 s) ≡ 1 * 2 ^ j % 4294967296 → Between P row base (bit_or low (1 * 2 ^ j % 4294967296)) high
  settled_in s j w out alone = record { bits = record { has_low = still_low; in_high = between.bits.in_high } }
    where
      guessed-few : j < max_guessed
      guessed-few = omega (arith, w.inside, b.row_base.few)

      always_in : (x : ℕ) → fits_at P row base x ≡ true → (p : Bool) → bit x j ≡ p → p ≡ true
      always_in x fits true e = refl
      always_in x fits false e =
          never fits (refutes_within P (in_force P) row (sure_in P row base) b.row_base.to_guess s j w.inside out (w.apart ∙ ap not out) x (λ i l t. has-it i l t (bit s i) refl))
        where
          has-it : (i : ℕ) → i < length row → bit x i ≡ true → (q : Bool) → bit s i ≡ q → q ≡ true
          has-it i l t true q = refl
          has-it i l t false q =
              let asked : bit (1 * 2 ^ j % 4294967296) i ≡ true = ap (λ (n : ℕ). bit n i) (sym alone) ∙ less-bit high s i (omega (arith, b.row_base.few)) ∙ rw (between.bits.in_high x i fits l t, q) refl in
              never (subst (λ (n : ℕ). bit x n ≡ true) (only_place j i guessed-few asked) t) e

      still_low : (x i : ℕ) → fits_at P row base x ≡ true → i < length row → bit (bit_or low (1 * 2 ^ j % 4294967296)) i ≡ true → bit x i ≡ true
      still_low x i fits l t = go (bit low i) refl (bit (1 * 2 ^ j % 4294967296) i) refl (sym (bit-or i low (1 * 2 ^ j % 4294967296)) ∙ t)
        where
          go : (p : Bool) → bit low i ≡ p → (q : Bool) → bit (1 * 2 ^ j % 4294967296) i ≡ q → bit low i || bit (1 * 2 ^ j % 4294967296) i ≡ true → bit x i ≡ true
          go true e q f u = between.bits.has_low x i fits l e
          go false e true f u = subst (λ (n : ℕ). bit x n ≡ true) (sym (only_place j i guessed-few f)) (always_in x fits (bit x j) refl)
          go false e false f u = never u (rw (e, f) refl)

module _ {P : Program} {R row base missing : List ℕ} (b : Base P R row base missing) where
  -- The conflict stays under another guess whose response differs from it there.
  pub stays : {s j : ℕ} → Conflict P row base s j → (r : ℕ) → r < guesses → (n : ℕ) → Responds P row base r n → (d q : Bool) → d ≡ bit n j → q ≡ bit r j → beq d q ≡ false → Conflict P row base r j
  stays {s} {j} w r small n response d q derived found e =
      record {
        small = small;
        inside = w.inside;
        apart = sym (response.bits j w.inside) ∙ sym derived ∙ beq-false d q e ∙ ap not found;
      }
