-- The lanes that fit: a word of them fact by fact, and the first of all.
use Prim.Native.Nat.{ℕ, suc, ◌+◌, ◌*◌, ◌≤◌, ◌<◌}
use mathlib.Core.Path.{◌≡◌, refl, sym, ap, ap₂, ◌∙◌}
use mathlib.Core.Bool.{Bool, true, false, ◌&&◌}
use mathlib.Core.List.{List}
use mathlib.Core.Logic.{⊎_elim}
use native.Mathlib.Numerals.{add-one}
use native.Mathlib.Omega.{arith}
use borrow.Author.Tests.{eqb-true, eqb-false}
use lib.Arith.{digits_div, digits_mod}
use lib.Bits.{bit_and, bit_xor}
use lib.Count.{count_trailing_zeros}
use lib.Dec.{eqb}
use lib.ListN.{length, get_or, drop, drop_of_length-le}
use lib.Seq.{drop-cons}
use Rattle.theory.specs.Guesses.{bit, unlike}
use Rattle.theory.proofs.Bools.{either, and-true}
use Rattle.theory.proofs.NumberBits.{bit-and, bit-xor, bit-zero}
use Rattle.bits.specs.Flags.{word_bits}
use Rattle.bits.proofs.WordBits.{lowest_set, lower_clear}
use Rattle.lanes.specs.Lanes.{every_lane, lane_words, word_of, lane_in}
use Rattle.lanes.specs.Fit.{agrees, FirstFit}
use Rattle.std.specs.Prelude.{Option, Some, None}
use Rattle.lanes.proofs.LanePatterns.{every-lane}

and_assoc : (a b c : Bool) → (a && b) && c ≡ a && (b && c)
and_assoc true b c = refl
and_assoc false b c = refl

-- The lanes that are left, and the facts to come, decide which lanes fit.
pub record Fitting (row derived outs : List ℕ) (word fits n : ℕ) : Type 0 where
  pub inside : n ≤ length row
  pub same : (t : ℕ) → t < word_bits → bit fits t && agrees (drop n row) derived outs word t ≡ agrees row derived outs word t

pub every_fits : (row derived outs : List ℕ) (word : ℕ) → Fitting row derived outs word every_lane 0
every_fits row derived outs word =
    record { inside = omega arith; same = λ t h. ap (λ (b : Bool). b && agrees row derived outs word t) (every-lane t h) }

module _ {row derived outs : List ℕ} {word fits n : ℕ} (f : Fitting row derived outs word fits n) where
  pub one_fits : n < length row → Fitting row derived outs word (bit_and fits (bit_xor (word_of derived (get_or row n 0) word) (word_of outs (get_or row n 0) word))) (n + 1)
  one_fits h = record { inside = omega arith; same = λ t l. here t ∙ ahead t ∙ f.same t l }
    where
      -- what the fact says of a lane
      own : ℕ → Bool
      own t = unlike (lane_in derived word t (get_or row n 0)) (lane_in outs word t (get_or row n 0))

      left : ℕ
      left = bit_and fits (bit_xor (word_of derived (get_or row n 0) word) (word_of outs (get_or row n 0) word))

      tested : (t : ℕ) → bit left t ≡ bit fits t && own t
      tested t =
          bit-and t fits (bit_xor (word_of derived (get_or row n 0) word) (word_of outs (get_or row n 0) word))
          ∙ ap (λ (b : Bool). bit fits t && b) (bit-xor t (word_of derived (get_or row n 0) word) (word_of outs (get_or row n 0) word))

      here : (t : ℕ) → bit left t && agrees (drop (n + 1) row) derived outs word t ≡ bit fits t && (own t && agrees (drop (suc n) row) derived outs word t)
      here t =
          ap₂ (λ (b : Bool) (m : ℕ). b && agrees (drop m row) derived outs word t) (tested t) (add-one n)
          ∙ and_assoc (bit fits t) (own t) (agrees (drop (suc n) row) derived outs word t)

      ahead : (t : ℕ) → bit fits t && (own t && agrees (drop (suc n) row) derived outs word t) ≡ bit fits t && agrees (drop n row) derived outs word t
      ahead t = ap (λ (xs : List ℕ). bit fits t && agrees xs derived outs word t) (sym (drop-cons row n 0 h))

  pub all_fit : length row ≤ n → (t : ℕ) → t < word_bits → bit fits t ≡ agrees row derived outs word t
  all_fit h t l =
      sym (ap (λ (xs : List ℕ). bit fits t && agrees xs derived outs word t) (drop_of_length-le row h) ∙ and-true (bit fits t))
      ∙ f.same t l

-- an answer is not both
not_at : {A : Type 0} (l : ℕ) → ◌≡◌ {A = Option ℕ} None (Some l) → A
not_at l e = let z : ◌≡◌ {A = ℕ} 0 1 = cc in absurd (omega arith)

-- No lane of the first words fits.
pub record Unfit (row derived outs : List ℕ) (w : ℕ) : Type 0 where
  pub none : (v t : ℕ) → v < w → t < word_bits → agrees row derived outs v t ≡ false

pub none_unfit : (row derived outs : List ℕ) → Unfit row derived outs 0
none_unfit row derived outs = record { none = λ v t h l. absurd (omega arith) }

module _ {row derived outs : List ℕ} {w : ℕ} (u : Unfit row derived outs w) where
  module _ (fits : ℕ) (is : (t : ℕ) → t < word_bits → bit fits t ≡ agrees row derived outs w t) where
    pub one_unfit : fits ≡ 0 → Unfit row derived outs (w + 1)
    one_unfit e =
        record {
          none = λ v t h l.
              ⊎_elim
              (λ q. let here : v ≡ w = eqb-true v w q in rw here (sym (is t l) ∙ ap (λ (x : ℕ). bit x t) e ∙ bit-zero t))
              (λ q. let ne : v ≡ w → ⊥ = eqb-false v w q in u.none v t (omega arith) l)
              (either (eqb v w));
        }

    pub first_found : w < lane_words → (b : ℕ) → b ≡ count_trailing_zeros word_bits fits → b < word_bits → FirstFit row derived outs (Some (w * word_bits + b))
    first_found h b lowest small =
        record {
          inside = λ l e. let is : w * word_bits + b ≡ l = cc in omega arith;
          fits = λ l e. let is : w * word_bits + b ≡ l = cc in rw (sym is, digits_div w small, digits_mod w small) here;
          none_before = before;
          none_fits = λ e. not_at (w * word_bits + b) (sym e);
        }
      where
        here : agrees row derived outs w b ≡ true
        here = sym (is b small) ∙ ap (bit fits) lowest ∙ lowest_set word_bits fits (rw (← lowest) small)

        lower : (t : ℕ) → t < b → agrees row derived outs w t ≡ false
        lower t l = sym (is t (omega arith)) ∙ lower_clear word_bits fits t (rw (← lowest) l)

        before : (l : ℕ) → Some (w * word_bits + b) ≡ Some l → (v t : ℕ) → v < lane_words → t < word_bits → v * word_bits + t < l → agrees row derived outs v t ≡ false
        before l e v t hv ht lt =
            let place : w * word_bits + b ≡ l = cc in
            ⊎_elim
            (λ q. let same : v ≡ w = eqb-true v w q in rw same (lower t (omega arith)))
            (λ q. let ne : v ≡ w → ⊥ = eqb-false v w q in u.none v t (omega arith) ht)
            (either (eqb v w))

  pub none_found : lane_words ≤ w → FirstFit row derived outs None
  none_found h =
      record {
        inside = λ l e. not_at l e;
        fits = λ l e. not_at l e;
        none_before = λ l e. not_at l e;
        none_fits = λ e v t hv ht. u.none v t (omega arith) ht;
      }
