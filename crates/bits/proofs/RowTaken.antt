-- The lowest number is taken out of a row.
use Prim.Native.Nat.{ℕ, zero, suc, ◌+◌, ◌-◌, ◌*◌, ◌≤◌, ◌<◌}
use mathlib.Core.Path.{◌≡◌, refl, sym, ap, ap₂, subst, ◌∙◌}
use mathlib.Core.Bool.{Bool, true, false, cond, not, ◌&&◌}
use mathlib.Core.List.{List, [], ◌∷◌, ◌++◌}
use mathlib.Core.Logic.{⊎_elim}
use mathlib.Core.Option.{Option as Maybe, none, some}
use Rattle.std.specs.Prelude.{Option, Some, None}
use native.Mathlib.Nat.{add-zero, zero-add}
use native.Mathlib.Omega.{arith}
use borrow.Author.Tests.{eqb-true, eqb-false, eq-eqb, ne_eqb, ltb-true, ltb-false}
use lib.Bits.{bit_and, and_le_r}
use lib.Count.{count_trailing_zeros}
use lib.Dec.{eqb, ltb}
use lib.ListN.{get_or, set, length-set}
use lib.Seq.{get_or-set_same, get_or-set_other}
use Rattle.theory.specs.Rule.{keep, range, up_to}
use Rattle.theory.specs.Lists.{seek}
use Rattle.theory.proofs.Bools.{either, never, and_right, and-false, false_of}
use Rattle.theory.proofs.Lists.{Found, seek-some, seek-none, seek-append, up_to-mem, mem-range, length-range, get_or-up_to, keep_same}
use Rattle.items.specs.Item.{max_rules}
use Rattle.bits.specs.Flags.{word_bits, row_words, word, Flags, without, lowest_of, Taken, total, Falls, NoneBefore, LowestCleared, TakenBehind}
use Rattle.bits.proofs.WordBits.{word-ext, word_none, LowestTaken, word-lowest}

-- What the lowest number of a set is.
pub lowest-is : (p : ℕ → Bool) (i : ℕ) → lowest_of p ≡ some i → Found p (up_to max_rules) i
unfolding lowest_of
lowest-is p i e = go max_rules e
  where
    go : (n : ℕ) → seek p (up_to n) ≡ some i → Found p (up_to n) i
    go n q = seek-some p (up_to n) i q

-- None below it is in the set.
pub none_lower : (p : ℕ → Bool) (k : ℕ) → lowest_of p ≡ some k → (j : ℕ) → j < k → p j ≡ false
none_lower p k e j h =
    let w : Found p (up_to max_rules) k = lowest-is p k e in
    let in_list : w.place < max_rules = rw (length-range 0 max_rules) at w.inside in
    let there : get_or (up_to max_rules) w.place 0 ≡ w.place = get_or-up_to max_rules w.place in_list in
    let lower : j < w.place = omega (arith, w.is) in
    ap p (sym (get_or-up_to max_rules j (omega arith))) ∙ w.none_before j lower

-- A set of which there is no lowest number has none.
pub nothing_left : {p : ℕ → Bool} {row : List ℕ} → Flags p row → ◌≡◌ {A = Maybe ℕ} (lowest_of p) none → (i : ℕ) → p i ≡ false
unfolding lowest_of
nothing_left {p} w e i = false_of (p i) (λ t. never t (go max_rules e (w.inside i t)))
  where
    go : (n : ℕ) → ◌≡◌ {A = Maybe ℕ} (seek p (up_to n)) none → i < n → p i ≡ false
    go n q h = seek-none p (up_to n) q i (up_to-mem n i h)

-- Where a set has no number, none is kept.
pub none_kept : (p : ℕ → Bool) → ((i : ℕ) → p i ≡ false) → (xs : List ℕ) → keep p xs ≡ []
none_kept p e [] = refl
none_kept p e (x ∷ xs) = rw (e x) (none_kept p e xs)

-- The lowest number of a set is kept first, before the others.
pub lowest-kept : (p : ℕ → Bool) (n k : ℕ) → lowest_of p ≡ some k → k < n → keep p (up_to n) ≡ k ∷ keep (without p k) (up_to n)
unfolding lowest_of
lowest-kept p n k e h = go 0 max_rules n e (omega arith)
  where
    go : (a m n : ℕ) → seek p (range a m) ≡ some k → k < a + n → keep p (range a n) ≡ k ∷ keep (without p k) (range a n)
    go a m zero s l = absurd (omega (arith, (mem-range a m k (seek-some p (range a m) k s).element).0))
    go a zero (suc n) s l = let z : ◌≡◌ {A = ℕ} 0 1 = cc in absurd (omega arith)
    go a (suc m) (suc n) s l = step (p a) refl (go (suc a) m n)
      where
        step : (b : Bool) → p a ≡ b → (seek p (range (suc a) m) ≡ some k → k < suc a + n → keep p (range (suc a) n) ≡ k ∷ keep (without p k) (range (suc a) n)) → keep p (range a (suc n)) ≡ k ∷ keep (without p k) (range a (suc n))
        step true q r =
            let found : some a ≡ some k = rw (q, seek) at s in
            let is : a ≡ k = cc in
            let gone : without p k a ≡ false = ap (λ (t : Bool). not t && p a) (eq-eqb a k is) in
            let others : keep p (range (suc a) n) ≡ keep (without p k) (range (suc a) n) = keep_same p (without p k) (range (suc a) n) (λ x m. sym (ap (λ (t : Bool). not t && p x) (ne_eqb x k (λ g. omega (arith, (mem-range (suc a) n x m).0))))) in
            ap (λ (b : Bool). cond b (a ∷ keep p (range (suc a) n)) (keep p (range (suc a) n))) q ∙ ap₂ (λ (x : ℕ) (xs : List ℕ). x ∷ xs) is others
            ∙ sym (ap (λ (b : Bool). k ∷ cond b (a ∷ keep (without p k) (range (suc a) n)) (keep (without p k) (range (suc a) n))) gone)
        step false q r =
            let gone : without p k a ≡ false = ap (λ (t : Bool). not (eqb a k) && t) q ∙ and-false (not (eqb a k)) in
            ap (λ (b : Bool). cond b (a ∷ keep p (range (suc a) n)) (keep p (range (suc a) n))) q ∙ r (rw (q, seek) at s) (omega arith)
            ∙ sym (ap (λ (b : Bool). k ∷ cond b (a ∷ keep (without p k) (range (suc a) n)) (keep (without p k) (range (suc a) n))) gone)

pub range-append : (a m n : ℕ) → range a (m + n) ≡ range a m ++ range (a + m) n
range-append a zero n = rw (zero-add n, add-zero a) refl
range-append a (suc m) n =
    let more : suc m + n ≡ suc (m + n) = omega arith in
    let next : a + suc m ≡ suc a + m = omega arith in
    rw (more, next) (ap (λ (l : List ℕ). a ∷ l) (range-append (suc a) m n))

-- where nothing is found in the front, what is found stands behind it
seek-behind : (p : ℕ → Bool) (xs ys : List ℕ) → ◌≡◌ {A = Maybe ℕ} (seek p xs) none → ◌≡◌ {A = Maybe ℕ} (seek p (xs ++ ys)) (seek p ys)
seek-behind p [] ys e = refl
seek-behind p (x ∷ xs) ys e = go (p x) refl (seek-behind p xs ys)
  where
    go : (b : Bool) → p x ≡ b → (◌≡◌ {A = Maybe ℕ} (seek p xs) none → ◌≡◌ {A = Maybe ℕ} (seek p (xs ++ ys)) (seek p ys)) → ◌≡◌ {A = Maybe ℕ} (seek p (x ∷ (xs ++ ys))) (seek p ys)
    go true q r = let s : ◌≡◌ {A = Maybe ℕ} (some x) none = rw (q, seek) at e in let z : ◌≡◌ {A = ℕ} 0 1 = cc in absurd (omega arith)
    go false q r = rw (q, seek) (r (rw (q, seek) at e))

-- found among n numbers, none of the m before them passing
found_behind : (p : ℕ → Bool) (m n rest all i : ℕ) → all ≡ m + (n + rest) → ◌≡◌ {A = Maybe ℕ} (seek p (range 0 m)) none → seek p (range m n) ≡ some i → seek p (up_to all) ≡ some i
found_behind p m n rest all i e f s =
    rw (e, range-append 0 m (n + rest), zero-add m, range-append m n rest)
    (seek-behind p (range 0 m) (range m n ++ range (m + n) rest) f ∙ seek-append p (range m n) (range (m + n) rest) i s)

-- no number before a word is in the set where the words before it are 0
zeros_before : {p : ℕ → Bool} {row : List ℕ} → Flags p row → (n : ℕ) → ((k : ℕ) → k < n → get_or row k 0 ≡ 0) → n ≤ row_words → ◌≡◌ {A = Maybe ℕ} (seek p (range 0 (n * word_bits))) none
zeros_before f zero z h = refl
zeros_before {p} f (suc n) z h =
    let more : suc n * word_bits ≡ n * word_bits + word_bits = omega arith in
    rw (more, range-append 0 (n * word_bits) word_bits, zero-add (n * word_bits))
    (seek-behind p (range 0 (n * word_bits)) (range (n * word_bits) word_bits) (zeros_before f n (λ k l. z k (omega arith)) (omega arith))
    ∙ word_none p (n * word_bits) word_bits (sym (f.words n (omega arith)) ∙ z n (omega arith)))

less-total : (row : List ℕ) (at v : ℕ) → v < get_or row at 0 → total (set row at v) < total row
less-total [] at v h = absurd (omega arith)
less-total (x ∷ xs) zero v h = omega arith
less-total (x ∷ xs) (suc at) v h = omega (arith, less-total xs at v h)

-- One number is taken out of a row: its word is that of the set without the number.
module _ {row : List ℕ} (at : ℕ) (h : at < row_words) (bit v : ℕ) (b : bit < word_bits) where
  pub one_cleared : {p : ℕ → Bool} → Flags p row → v ≡ word (without p (at * word_bits + bit)) (at * word_bits) word_bits → Flags (without p (at * word_bits + bit)) (set row at v)
  one_cleared {p} f v-is =
      record {
        places = length-set row at v ∙ f.places;
        words = λ k u. ⊎_elim (λ q. let is : k ≡ at = eqb-true k at q in rw is own) (λ q. other k u (eqb-false k at q)) (either (eqb k at));
        inside = λ i t. f.inside i (and_right (not (eqb i (at * word_bits + bit))) (p i) t);
      }
    where
      own : get_or (set row at v) at 0 ≡ word (without p (at * word_bits + bit)) (at * word_bits) word_bits
      own = get_or-set_same row at v 0 (omega (arith, f.places)) ∙ v-is

      other : (k : ℕ) → k < row_words → (k ≡ at → ⊥) → get_or (set row at v) k 0 ≡ word (without p (at * word_bits + bit)) (k * word_bits) word_bits
      other k u ne =
          get_or-set_other row at k v 0 ne ∙ f.words k u
          ∙ word-ext p (without p (at * word_bits + bit)) (k * word_bits) word_bits (λ i low high. sym (ap (λ (t : Bool). not t && p i) (ne_eqb i (at * word_bits + bit) (λ e. omega arith))))

  pub less-falls : v < get_or row at 0 → Falls (Some (at * word_bits + bit)) row (set row at v)
  less-falls l =
      record {
        inside = λ i e. let is : at * word_bits + bit ≡ i = cc in omega arith;
        less = λ i e. less-total row at v l;
      }

-- The lowest number of one word is taken out of a row.
module _ {row : List ℕ} (at : ℕ) (h : at < row_words) (l : 0 < get_or row at 0) (bit v : ℕ) (b : bit < word_bits) (v-is : v ≡ bit_and (get_or row at 0) (get_or row at 0 - 1)) where
  pub lowest-falls : Falls (Some (at * word_bits + bit)) row (set row at v)
  lowest-falls = less-falls at h bit v b (omega (arith, and_le_r (get_or row at 0) (get_or row at 0 - 1)))

  module _ {p : ℕ → Bool} (f : Flags p row) (bit_is : bit ≡ count_trailing_zeros word_bits (get_or row at 0)) where
    held : get_or row at 0 ≡ word p (at * word_bits) word_bits
    held = f.words at h

    lowest : LowestTaken p (at * word_bits) word_bits
    lowest = word-lowest p (at * word_bits) word_bits (subst (λ (x : ℕ). 0 < x) held l)

    bit-held : count_trailing_zeros word_bits (word p (at * word_bits) word_bits) ≡ bit
    bit-held = sym (bit_is ∙ ap (count_trailing_zeros word_bits) held)

    pub lowest_first : seek p (range (at * word_bits) word_bits) ≡ some (at * word_bits + bit)
    lowest_first = lowest.found ∙ ap (λ (b : ℕ). some (at * word_bits + b)) bit-held

    pub lowest-rest : Flags (without p (at * word_bits + bit)) (set row at v)
    lowest-rest =
        one_cleared at h bit v b f
        (v-is ∙ ap (λ (x : ℕ). bit_and x (x - 1)) held ∙ lowest.rest
        ∙ ap (λ (b : ℕ). word (without p (at * word_bits + b)) (at * word_bits) word_bits) bit-held)

-- The lowest number behind the words before one is taken out of a row, or there is none.
module _ {from i : ℕ} {row after : List ℕ} (w : LowestCleared from i row after) where
  pub cleared-falls : Falls (Some i) row after
  cleared-falls = rw (w.number_is, w.rest) (lowest-falls w.at w.inside w.positive w.bit _ w.bit_inside refl)

  module _ (z : NoneBefore from row) where
    zeros_all : NoneBefore w.at row
    zeros_all k h = ⊎_elim (λ e. z k (ltb-true k from e)) (λ e. w.zeros k (ltb-false k from e) h) (either (ltb k from))

    pub cleared-taken : (p : ℕ → Bool) → Flags p row → Taken p (Some i) after
    unfolding lowest_of
    cleared-taken p f =
        record {
          lowest = λ j e. let is : i ≡ j = cc in rw (← is) whole;
          rest = λ j e. let is : i ≡ j = cc in rw (← is, w.number_is, w.rest) (lowest-rest w.at w.inside w.positive w.bit _ w.bit_inside refl f w.bit_is);
          none_left = λ e. cc;
          kept = λ e. cc;
        }
      where
        whole : seek p (up_to max_rules) ≡ some i
        whole = rw w.number_is (found_behind p (w.at * word_bits) word_bits (max_rules - (w.at * word_bits + word_bits)) max_rules (w.at * word_bits + w.bit) (omega (arith, w.inside)) (zeros_before f w.at zeros_all (omega (arith, w.inside))) (lowest_first w.at w.inside w.positive w.bit _ w.bit_inside refl f w.bit_is))

-- Whether one was found or not.
pub behind-falls : (from : ℕ) (answer : Option ℕ) (row after : List ℕ) → TakenBehind from answer row after → Falls answer row after
behind-falls from None row after t = record { inside = λ i e. cc; less = λ i e. cc }
behind-falls from (Some i) row after t = cleared-falls t

pub behind-taken : (from : ℕ) (answer : Option ℕ) (row after : List ℕ) → TakenBehind from answer row after → NoneBefore from row → (p : ℕ → Bool) → Flags p row → Taken p answer after
unfolding lowest_of
behind-taken from None row after t z p f =
    record {
      lowest = λ i e. cc;
      rest = λ i e. cc;
      none_left = λ e. zeros_before f row_words (λ k l. ⊎_elim (λ e. z k (ltb-true k from e)) (λ e. t.1 k (ltb-false k from e) l) (either (ltb k from))) (omega arith);
      kept = λ e. rw t.0 f;
    }
behind-taken from (Some i) row after t z p f = cleared-taken t z p f
