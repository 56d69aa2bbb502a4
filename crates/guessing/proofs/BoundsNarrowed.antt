-- What every guess that fits has and can have: the marked facts of a row as a number, and how bounds are narrowed from what they derive.
use Prim.Native.Nat.{ℕ, suc, ◌+◌, ◌*◌, ◌-◌, ◌/◌, ◌%◌, ◌^◌, ◌<◌, ◌≤◌}
use native.Mathlib.Nat.{pow-suc}
use native.Mathlib.Omega.{arith}
use mathlib.Core.Path.{◌≡◌, refl, sym, ap, subst, ◌∙◌}
use mathlib.Core.Bool.{Bool, true, false, not, ◌&&◌}
use mathlib.Core.List.{List}
use mathlib.Core.Logic.{by_cases, ⊎_elim}
use native.Mathlib.Decide.{ℕ_discrete}
use borrow.Author.Tests.{eq-eqb}
use lib.Bits.{bit_and, bit_xor}
use mir.Val.{bool_byte}
use lib.Dec.{eqb, ltb}
use lib.ListN.{length, get_or}
use Rattle.theory.proofs.Lists.{element_below}
use Rattle.theory.specs.Rule.{all, Program, Sub, in_force}
use Rattle.theory.specs.Guesses.{bit, unlike, fact_at, guess_at}
use Rattle.theory.proofs.Bools.{either, never}
use Rattle.theory.proofs.NumberBits.{bit-and, bit-xor, bit-zero}
use Rattle.theory.proofs.Stable.{least_anti}
use Rattle.theory.proofs.Guesses.{guess_mono, fits-apart}
use Rattle.items.specs.Item.{narrow, max_facts, has}
use Rattle.guessing.specs.Guessing.{sure_in, RowBase, derived_by, fits_at, Derived}
use Rattle.guessing.specs.Bounds.{Gathered, Responds, Between, EndsRefuted}
use Rattle.guessing.proofs.PathBits.{same_bits}

-- The first n facts of the row are gathered, the first as the highest bit.
pub record Gathering (row marks : List ℕ) (number n : ℕ) : Type 0 where
  pub inside : n ≤ length row
  pub small : number < 2 ^ n
  pub bits : (i : ℕ) → i < n → bit number (n - suc i) ≡ has marks (get_or row i 0)

pub none_gathered : (row marks : List ℕ) → Gathering row marks 0 0
none_gathered row marks = record { inside = omega arith; small = omega arith; bits = λ i l. absurd (omega arith) }

-- one bit more, as the lowest
one_lower : (r d j : ℕ) → d < 2 → bit (2 * r + d) (suc j) ≡ bit r j
one_lower r d j l = let e : (2 * r + d) / 2 ≡ r = omega arith in ap (λ (n : ℕ). bit n j) e

module _ {row marks : List ℕ} {number n : ℕ} (w : Gathering row marks number n) where
  gather_bit : n < length row → (d : ℕ) → d < 2 → eqb ((2 * number + d) % 2) 1 ≡ has marks (get_or row n 0) → Gathering row marks (2 * number + d) (n + 1)
  gather_bit l d h e =
      record {
        inside = omega arith;
        small = let s : number < 2 ^ n = w.small in let p : 2 ^ suc n ≡ 2 ^ n * 2 = pow-suc 2 n in let q : n + 1 ≡ suc n = omega arith in subst (λ (m : ℕ). 2 * number + d < 2 ^ m) (sym q) (omega arith);
        bits = λ i m.
            by_cases (ℕ_discrete i n)
            (λ is. let z : n + 1 - suc i ≡ 0 = omega arith in ap (bit (2 * number + d)) z ∙ e ∙ ap (λ (k : ℕ). has marks (get_or row k 0)) (sym is))
            (λ ne. let s : n + 1 - suc i ≡ suc (n - suc i) = omega arith in ap (bit (2 * number + d)) s ∙ one_lower number d (n - suc i) h ∙ w.bits i (omega arith));
      }

  pub one_gathered : n < length row → Gathering row marks (2 * number + bool_byte (eqb (get_or marks (get_or row n 0) 0) 1)) (n + 1)
  unfolding has
  one_gathered l = go _ refl
    where
      go : (b : Bool) → b ≡ has marks (get_or row n 0) → Gathering row marks (2 * number + bool_byte b) (n + 1)
      go true e = let o : (2 * number + 1) % 2 ≡ 1 = omega arith in gather_bit l 1 (omega arith) (ap (λ (m : ℕ). eqb m 1) o ∙ e)
      go false e = let o : (2 * number + 0) % 2 ≡ 0 = omega arith in gather_bit l 0 (omega arith) (ap (λ (m : ℕ). eqb m 1) o ∙ e)

  pub all-gathered : length row ≤ n → Gathered row marks number
  all-gathered l =
      let is : n ≡ length row = omega (arith, w.inside) in
      record {
        small = subst (λ (m : ℕ). number < 2 ^ m) is w.small;
        bits = λ j h. let e : n - suc (length row - suc j) ≡ j = omega arith in sym (ap (bit number) e) ∙ w.bits (length row - suc j) (omega arith);
      }

-- What is gathered of the marks of a guess is what it derives.
pub gathered_responds : {P : Program} {row base marks : List ℕ} {g number : ℕ} → all (λ k. ltb k (max_facts narrow)) row ≡ true → Derived P row base g marks → Gathered row marks number → Responds P row base g number
gathered_responds {row = row} small d w =
    record { small = w.small; bits = λ j l. w.bits j l ∙ d (fact_at row j) (element_below (max_facts narrow) row (length row - suc j) small (omega arith)) }

-- So the marks of the guess of no fact do.
pub none_responds : {P : Program} {row base marks : List ℕ} {g number : ℕ} → all (λ k. ltb k (max_facts narrow)) row ≡ true → g ≤ 0 → Derived P row base g marks → Gathered row marks number → Responds P row base 0 number
none_responds {P} {row} {base} {marks} small z d w = gathered_responds small (subst (λ (n : ℕ). Derived P row base n marks) (omega arith) d) w

-- Bounds.
module _ {P : Program} {row base : List ℕ} (r : RowBase P row base) where
  -- a guess that fits derives the facts of the row that are in it, and no others
  fits-bit : (x j : ℕ) → fits_at P row base x ≡ true → j < length row → derived_by P row base x (fact_at row j) ≡ bit x j
  fits-bit x j f l = go (derived_by P row base x (fact_at row j)) refl (bit x j) refl
    where
      go : (a : Bool) → derived_by P row base x (fact_at row j) ≡ a → (b : Bool) → bit x j ≡ b → a ≡ b
      go true p true q = refl
      go true p false q = never f (fits-apart P (in_force P) row (sure_in P row base) r.to_guess x j l (p ∙ sym (ap not q)))
      go false p true q = never f (fits-apart P (in_force P) row (sure_in P row base) r.to_guess x j l (p ∙ sym (ap not q)))
      go false p false q = refl

  -- what contains a guess derives no more
  falls : (s x : ℕ) → ((j : ℕ) → j < length row → bit s j ≡ true → bit x j ≡ true) → Sub (derived_by P row base x) (derived_by P row base s)
  falls s x h = least_anti P (in_force P) (guess_at row (sure_in P row base) s) (guess_at row (sure_in P row base) x) (guess_mono row (sure_in P row base) (sure_in P row base) s x (λ f t. t) h)

  pub first-between : (most : ℕ) → Responds P row base 0 most → Between P row base 0 most
  first-between most a =
      record {
        bits = record {
          has_low = λ x j f l t. never t (bit-zero j);
          in_high = λ x j f l t. a.bits j l ∙ falls 0 x (λ i m u. never u (bit-zero i)) (fact_at row j) (fits-bit x j f l ∙ t);
        };
      }

  -- A guess that fits is what a number with its bits derives.
  fits-itself : (x s r : ℕ) → fits_at P row base x ≡ true → ((j : ℕ) → j < length row → bit x j ≡ bit s j) → Responds P row base s r → (j : ℕ) → j < length row → bit r j ≡ bit s j
  fits-itself x s r f agree a j l = a.bits j l ∙ go (derived_by P row base s (fact_at row j)) refl (derived_by P row base x (fact_at row j)) refl ∙ fits-bit x j f l ∙ agree j l
    where
      go : (p : Bool) → derived_by P row base s (fact_at row j) ≡ p → (q : Bool) → derived_by P row base x (fact_at row j) ≡ q → p ≡ q
      go true d true e = refl
      go false d false e = refl
      go true d false e = never (falls x s (λ i m u. sym (agree i m) ∙ u) (fact_at row j) d) e
      go false d true e = never (falls s x (λ i m u. agree i m ∙ u) (fact_at row j) e) d

  module _ {low high : ℕ} (b : Between P row base low high) where
    pub low_raised : (next : ℕ) → Responds P row base high next → Between P row base next high
    low_raised next a =
        record {
          bits = record {
            has_low = λ x j f l t. sym (fits-bit x j f l) ∙ falls x high (λ i m u. b.bits.in_high x i f m u) (fact_at row j) (sym (a.bits j l) ∙ t);
            in_high = b.bits.in_high;
          };
        }

    pub high_lowered : (next : ℕ) → Responds P row base low next → Between P row base low next
    high_lowered next a =
        record {
          bits = record {
            has_low = b.bits.has_low;
            in_high = λ x j f l t. a.bits j l ∙ falls low x (λ i m u. b.bits.has_low x i f m u) (fact_at row j) (fits-bit x j f l ∙ t);
          };
        }

    -- Where each of the bounds derives the other and they differ, a guess that had the bits of one would not derive itself.
    pub ends_refuted : Responds P row base low high → Responds P row base high low → (low ≡ high → ⊥) → EndsRefuted (fits_at P row base) low high
    ends_refuted up down differ =
        record {
          low_fails = λ x s e. ⊎_elim (λ f. absurd (differ (sym (same_bits (length row) high low up.small down.small (fits-itself x low high f (is_low x e f) up))))) (λ n. n) (either (fits_at P row base x));
          high_fails = λ x s e. ⊎_elim (λ f. absurd (differ (same_bits (length row) low high down.small up.small (fits-itself x high low f (is_high x e f) down)))) (λ n. n) (either (fits_at P row base x));
        }
      where
        at_low : (x l h : Bool) → x && unlike l h ≡ false → (l ≡ true → x ≡ true) → (x ≡ true → h ≡ true) → x ≡ l
        at_low true true h e p q = refl
        at_low false false h e p q = refl
        at_low false true h e p q = p refl
        at_low true false true e p q = e
        at_low true false false e p q = sym (q refl)

        at_high : (x l h : Bool) → x && unlike l h ≡ unlike l h → (l ≡ true → x ≡ true) → (x ≡ true → h ≡ true) → x ≡ h
        at_high true l true e p q = refl
        at_high false l false e p q = refl
        at_high true l false e p q = sym (q refl)
        at_high false true true e p q = p refl
        at_high false false true e p q = e

        masked : (x j : ℕ) → bit (bit_and x (bit_xor low high)) j ≡ bit x j && unlike (bit low j) (bit high j)
        masked x j = bit-and j x (bit_xor low high) ∙ ap (λ (p : Bool). bit x j && p) (bit-xor j low high)

        is_low : (x : ℕ) → bit_and x (bit_xor low high) ≡ 0 → fits_at P row base x ≡ true → (j : ℕ) → j < length row → bit x j ≡ bit low j
        is_low x e f j l = at_low (bit x j) (bit low j) (bit high j) (sym (masked x j) ∙ ap (λ (n : ℕ). bit n j) e ∙ bit-zero j) (b.bits.has_low x j f l) (b.bits.in_high x j f l)

        is_high : (x : ℕ) → bit_and x (bit_xor low high) ≡ bit_xor low high → fits_at P row base x ≡ true → (j : ℕ) → j < length row → bit x j ≡ bit high j
        is_high x e f j l = at_high (bit x j) (bit low j) (bit high j) (sym (masked x j) ∙ ap (λ (n : ℕ). bit n j) e ∙ bit-xor j low high) (b.bits.has_low x j f l) (b.bits.in_high x j f l)

    pub ends_apart : (least most : ℕ) → Responds P row base low most → Responds P row base high least → least ≡ low → most ≡ high → not (eqb low high) ≡ true → EndsRefuted (fits_at P row base) low high
    ends_apart least most up down is top t =
        ends_refuted (subst (λ (n : ℕ). Responds P row base low n) top up) (subst (λ (n : ℕ). Responds P row base high n) is down) (λ e. never t (ap not (eq-eqb low high e)))
