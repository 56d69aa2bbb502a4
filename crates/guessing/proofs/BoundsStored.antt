-- The loop over the places: each place at which every guess that passes the test is the same gives a nogood of the others.
use Prim.Native.Nat.{ℕ, ◌+◌, ◌-◌, ◌*◌, ◌%◌, ◌^◌, ◌<◌, ◌≤◌}
use native.Mathlib.Nat.{mul-div_cancel}
use native.Mathlib.Numerals.{add-one}
use native.Mathlib.Omega.{arith}
use mathlib.Core.Path.{◌≡◌, sym, ap, subst, ◌∙◌}
use mathlib.Core.Bool.{Bool, true, false, ◌&&◌}
use mathlib.Core.List.{List}
use mathlib.Core.Logic.{⊎_elim}
use Rattle.std.proofs.lemmas.List.Elements.{All-push, All-same}
use lib.Bits.{bit_and, bit_xor}
use lib.Dec.{eqb}
use lib.ListN.{length, take, set, length-set}
use lib.Pow.{pow_pos, shl_exact}
use lib.Seq.{take-suc-set}
use Rattle.theory.specs.Guesses.{bit}
use Rattle.theory.proofs.Bools.{either, never, and_left, and_both}
use Rattle.theory.proofs.NumberBits.{bit-and, bit_shifted, bit-zero}
use Rattle.items.specs.Item.{max_guessed}
use Rattle.nogoods.specs.declared.nogood.Nogood.{Nogood}
use Rattle.nogoods.specs.Nogoods.{most_kept, Refutes, Stored}
use Rattle.guessing.specs.Bounds.{BitsBetween, EndsRefuted}

-- The number that the code makes of a place has the bit of that place.
place_bit : (j : ℕ) → j < max_guessed → bit (1 * 2 ^ j % 4294967296) j ≡ true
place_bit j l =
    ap (λ (n : ℕ). bit n j) (shl_exact {a = 1} 1 j 32 (omega arith) (omega arith))
    ∙ bit_shifted j (1 * 2 ^ j)
    ∙ ap (λ (n : ℕ). eqb (n % 2) 1) (mul-div_cancel 1 (pow_pos j))

module _ {pass : ℕ → Bool} {places low high : ℕ} (between : BitsBetween pass places low high) (j mask : ℕ) (inside : j < places) (at : bit mask j ≡ true) where
  -- A guess that lacks a bit of low is refuted, and every guess where high lacks the bit too, ..
  lacks-low : bit low j ≡ true → Refutes pass (bit_and mask high) 0
  lacks-low h x _ e = ⊎_elim (λ p. never (and_both (has-it p) (and_both at (between.in_high x j p inside (has-it p)))) lacks) (λ p. p) (either (pass x))
    where
      has-it : pass x ≡ true → bit x j ≡ true
      has-it p = between.has_low x j p inside h

      lacks : bit x j && (bit mask j && bit high j) ≡ false
      lacks = sym (bit-and j x (bit_and mask high) ∙ ap (λ (b : Bool). bit x j && b) (bit-and j mask high)) ∙ ap (λ (n : ℕ). bit n j) e ∙ bit-zero j

  -- .. and so is one with a bit that high lacks.
  above_high : bit high j ≡ false → Refutes pass mask mask
  above_high h x _ e = ⊎_elim (λ p. never (between.in_high x j p inside has) h) (λ p. p) (either (pass x))
    where
      has : bit x j ≡ true
      has = and_left (bit x j) (bit mask j) (sym (bit-and j x mask) ∙ ap (λ (n : ℕ). bit n j) e ∙ at)

-- One nogood more behind those that are stored.
pub one_stored : {pass : ℕ → Bool} (nogoods : List Nogood) (kept : ℕ) (n : Nogood) → kept < length nogoods → Stored pass (take kept nogoods) → Refutes pass n.mask n.value → Stored pass (take (kept + 1) (set nogoods kept n))
one_stored {pass} nogoods kept n l stored refutes =
    All-same (λ (m : Nogood). Refutes pass m.mask m.value) _ _
    (ap (λ (k : ℕ). take k (set nogoods kept n)) (add-one kept) ∙ take-suc-set nogoods kept n l)
    (All-push (λ (m : Nogood). Refutes pass m.mask m.value) (take kept nogoods) n stored refutes)

-- Behind one place: what is stored refutes, whatever test the bounds are those of.
pub record Storing (places low high : ℕ) (nogoods : List Nogood) (kept place : ℕ) : Type 0 where
  pub few : kept + place ≤ places
  pub room : length nogoods ≡ most_kept
  pub stored : (pass : ℕ → Bool) → BitsBetween pass places low high → Stored pass (take kept nogoods)

pub none_stored : {places low high : ℕ} (nogoods : List Nogood) → length nogoods ≡ most_kept → Storing places low high nogoods 0 places
none_stored nogoods m = record { few = omega arith; room = m; stored = λ _ _ i d l. absurd (omega arith) }

module _ {places low high : ℕ} {nogoods : List Nogood} {kept place : ℕ} (w : Storing places low high nogoods kept place) (l : 0 < place) where
  -- A place that the bounds leave open.
  pub left_open : Storing places low high nogoods kept (place - 1)
  left_open = record { few = omega (arith, w.few); room = w.room; stored = w.stored }

  module _ (small : places ≤ max_guessed) where
    inside : place - 1 < places
    inside = omega (arith, w.few)

    stores : (n : Nogood) → ((pass : ℕ → Bool) → BitsBetween pass places low high → Refutes pass n.mask n.value) → Storing places low high (set nogoods kept n) (kept + 1) (place - 1)
    stores n refutes =
        record {
          few = omega (arith, w.few);
          room = length-set nogoods kept n ∙ w.room;
          stored = λ pass between. one_stored nogoods kept n (omega (arith, w.few, w.room)) (w.stored pass between) (refutes pass between);
        }

    -- A place that every guess has, ..
    pub stores_low : bit low (place - 1) ≡ true → Storing places low high (set nogoods kept (record { mask = bit_and (1 * 2 ^ (place - 1) % 4294967296) high; value = 0 })) (kept + 1) (place - 1)
    stores_low h = stores _ (λ _ between. lacks-low between (place - 1) _ inside (place_bit (place - 1) (omega (arith, inside))) h)

    -- .. and one that none can have.
    pub stores_high : bit high (place - 1) ≡ false → Storing places low high (set nogoods kept (record { mask = 1 * 2 ^ (place - 1) % 4294967296; value = 1 * 2 ^ (place - 1) % 4294967296 })) (kept + 1) (place - 1)
    stores_high h = stores _ (λ _ between. above_high between (place - 1) _ inside (place_bit (place - 1) (omega (arith, inside))) h)

-- The bounds themselves behind them, where neither passes the test.
pub ends_stored : {pass : ℕ → Bool} {low high : ℕ} (nogoods : List Nogood) (kept : ℕ) → kept ≤ max_guessed → length nogoods ≡ most_kept → Stored pass (take kept nogoods) → EndsRefuted pass low high
    → Stored pass (take (kept + 2) (set (set nogoods kept (record { mask = bit_xor low high; value = 0 })) (kept + 1) (record { mask = bit_xor low high; value = bit_xor low high })))
ends_stored {pass} {low} {high} nogoods kept l m stored e =
    let first : Nogood = record { mask = bit_xor low high; value = 0 } in
    let second : Nogood = record { mask = bit_xor low high; value = bit_xor low high } in
    let is : kept + 1 + 1 ≡ kept + 2 = omega arith in
    subst (λ (n : ℕ). Stored pass (take n (set (set nogoods kept first) (kept + 1) second))) is
    (one_stored (set nogoods kept first) (kept + 1) second (omega (arith, length-set nogoods kept first)) (one_stored nogoods kept first (omega arith) stored e.low_fails) e.high_fails)
