-- A place is marked in the row of a key, and the row of a key is copied.
use Prim.Native.Nat.{ℕ, zero, suc, ◌+◌, ◌-◌, ◌*◌, ◌/◌, ◌%◌, ◌^◌, ◌≤◌, ◌<◌}
use mathlib.Core.Path.{◌≡◌, refl, sym, ap, ◌∙◌}
use mathlib.Core.Bool.{Bool, true, false, cond, not, ◌&&◌, ◌||◌}
use mathlib.Core.List.{List, [], ◌∷◌, ◌++◌, append-nil}
use mathlib.Core.Logic.{⊎_elim}
use native.Mathlib.Omega.{arith}
use borrow.Author.Tests.{eqb-true, eqb-false, eq-eqb}
use lib.Bits.{bit_or}
use lib.Dec.{eqb}
use lib.ListN.{get_or, set, length-set}
use lib.Seq.{get_or-set_same, get_or-set_other}
use Rattle.theory.specs.Rule.{adjoin, keep, range, up_to}
use Rattle.theory.proofs.Bools.{either, and_right, or_cases, both_ways, false_of}
use Rattle.theory.proofs.Lists.{eqb-self, keep_same, mem-up_to}
use Rattle.items.specs.Item.{max_rules}
use Rattle.bits.specs.Flags.{word_bits, row_words, word}
use Rattle.bits.specs.Matrix.{bit_in, numbers_in, Matrix, adjoin_in, SameFrom}
use Rattle.bits.proofs.WordBits.{word-ext, word_same}
use Rattle.bits.proofs.RowMarked.{bit-inside, place_is, own-word, other_word}
use Rattle.bits.proofs.RowTaken.{range-append}

-- Numbers past all that pass are none of those kept.
keep_append : (p : ℕ → Bool) (xs ys : List ℕ) → keep p (xs ++ ys) ≡ keep p xs ++ keep p ys
keep_append p [] ys = refl
keep_append p (x ∷ xs) ys = go (p x) (keep_append p xs ys)
  where
    go : (b : Bool) → keep p (xs ++ ys) ≡ keep p xs ++ keep p ys → cond b (x ∷ keep p (xs ++ ys)) (keep p (xs ++ ys)) ≡ cond b (x ∷ keep p xs) (keep p xs) ++ keep p ys
    go true e = ap (λ (l : List ℕ). x ∷ l) e
    go false e = e

keep-below : (p : ℕ → Bool) (m n : ℕ) → n ≤ m → ((i : ℕ) → p i ≡ true → i < n) → keep p (up_to m) ≡ keep p (up_to n)
keep-below p m n h below =
    let whole : m ≡ n + (m - n) = omega arith in
    ap (λ (k : ℕ). keep p (up_to k)) whole ∙ ap (keep p) (range-append 0 n (m - n)) ∙ keep_append p (up_to n) (range (0 + n) (m - n))
    ∙ ap (λ (l : List ℕ). keep p (up_to n) ++ l) (none_there (m - n) (0 + n) (omega arith))
    ∙ append-nil (keep p (up_to n))
  where
    none_there : (k a : ℕ) → n ≤ a → keep p (range a k) ≡ []
    none_there zero a l = refl
    none_there (suc k) a l = rw (false_of (p a) (λ t. let u : a < n = below a t in omega arith)) (none_there k (suc a) (omega arith))

module _ (matrix : List ℕ) (key place v : ℕ) {keys : ℕ} (f-small : key < keys) (p-small : place < max_rules) (v-is : v ≡ bit_or (get_or matrix (key * row_words + place / word_bits) 0) (2 ^ (place % word_bits))) (q : ℕ → ℕ → Bool) (w : Matrix keys q matrix) where
  abbrev at : ℕ
  at = key * row_words + place / word_bits

  -- the row of the key, and the row of another key
  own_row : (i : ℕ) → adjoin (q key) place i ≡ adjoin_in q key place key i
  own_row i = sym (ap (λ (t : Bool). t && eqb i place || q key i) (eqb-self key))

  other_row : (f : ℕ) → eqb f key ≡ false → (i : ℕ) → q f i ≡ adjoin_in q key place f i
  other_row f e i = sym (ap (λ (t : Bool). t && eqb i place || q f i) e)

  -- the word as it was, and with the mark
  before_is : get_or matrix at 0 ≡ word (q key) (place / word_bits * word_bits) word_bits
  before_is = w.words key (place / word_bits) f-small (omega arith)

  after_is : v ≡ word (adjoin (q key) place) (place / word_bits * word_bits) word_bits
  after_is = v-is ∙ ap (λ (x : ℕ). bit_or x (2 ^ (place % word_bits))) before_is ∙ own-word (q key) place

  pub matrix_marked : Matrix keys (adjoin_in q key place) (set matrix at v)
  matrix_marked =
      record {
        places = omega (arith, w.places, length-set matrix at v);
        words = λ f k hf hk. ⊎_elim (λ e. let is : f ≡ key = eqb-true f key e in rw is (own k hk)) (λ e. other f k hf hk e) (either (eqb f key));
        inside = λ f i t. ⊎_elim (λ e. let is : i ≡ place = eqb-true i place (and_right (eqb f key) (eqb i place) e) in omega arith) (λ e. w.inside f i e) (or_cases (eqb f key && eqb i place) (q f i) t);
      }
    where
      same_word : word (adjoin (q key) place) (place / word_bits * word_bits) word_bits ≡ word (adjoin_in q key place key) (place / word_bits * word_bits) word_bits
      same_word = word-ext (adjoin (q key) place) (adjoin_in q key place key) (place / word_bits * word_bits) word_bits (λ i l u. own_row i)

      own : (k : ℕ) → k < row_words → get_or (set matrix at v) (key * row_words + k) 0 ≡ word (adjoin_in q key place key) (k * word_bits) word_bits
      own k hk = ⊎_elim (λ e. let is : k ≡ place / word_bits = eqb-true k (place / word_bits) e in rw is marked) (λ e. unmarked (eqb-false k (place / word_bits) e)) (either (eqb k (place / word_bits)))
        where
          marked : get_or (set matrix at v) (key * row_words + place / word_bits) 0 ≡ word (adjoin_in q key place key) (place / word_bits * word_bits) word_bits
          marked = get_or-set_same matrix at v 0 (omega (arith, w.places)) ∙ after_is ∙ same_word

          unmarked : (k ≡ place / word_bits → ⊥) → get_or (set matrix at v) (key * row_words + k) 0 ≡ word (adjoin_in q key place key) (k * word_bits) word_bits
          unmarked ne =
              get_or-set_other matrix at (key * row_words + k) v 0 (λ e. ne (omega arith)) ∙ w.words key k f-small hk ∙ other_word (q key) place k ne
              ∙ word-ext (adjoin (q key) place) (adjoin_in q key place key) (k * word_bits) word_bits (λ i l u. own_row i)

      other : (f k : ℕ) → f < keys → k < row_words → eqb f key ≡ false → get_or (set matrix at v) (f * row_words + k) 0 ≡ word (adjoin_in q key place f) (k * word_bits) word_bits
      other f k hf hk e =
          let ne : f ≡ key → ⊥ = eqb-false f key e in
          get_or-set_other matrix at (f * row_words + k) v 0 (λ s. ne (omega arith)) ∙ w.words f k hf hk
          ∙ word-ext (q f) (adjoin_in q key place f) (k * word_bits) word_bits (λ i l u. other_row f e i)

  -- The word is the same where the mark is there.
  same_where : eqb v (get_or matrix at 0) ≡ q key place
  same_where = both_ways (eqb v (get_or matrix at 0)) (q key place) (λ e. old (eqb-true v (get_or matrix at 0) e)) (λ t. eq-eqb v (get_or matrix at 0) (after_is ∙ kept t ∙ sym before_is))
    where
      old : v ≡ get_or matrix at 0 → q key place ≡ true
      old e =
          let here : (adjoin (q key) place) (place / word_bits * word_bits + place % word_bits) ≡ q key (place / word_bits * word_bits + place % word_bits) = word_same (adjoin (q key) place) (q key) (place / word_bits * word_bits) word_bits (sym after_is ∙ e ∙ before_is) (place % word_bits) (bit-inside place) in
          sym (rw (place_is place, eqb-self place) at here)

      kept : q key place ≡ true → word (adjoin (q key) place) (place / word_bits * word_bits) word_bits ≡ word (q key) (place / word_bits * word_bits) word_bits
      kept t = word-ext (adjoin (q key) place) (q key) (place / word_bits * word_bits) word_bits (λ i l u. ⊎_elim (λ e. let is : i ≡ place = eqb-true i place e in rw (is, eqb-self place) (sym t)) (λ e. ap (λ (b : Bool). b || q key i) e) (either (eqb i place)))

  -- The word changes where the mark is new.
  pub mark_new : not (eqb v (get_or matrix at 0)) ≡ not (q key place)
  mark_new = ap not same_where

-- What the row of a key holds, bit by bit and as a list.
module _ {matrix : List ℕ} {keys : ℕ} {q : ℕ → ℕ → Bool} (w : Matrix keys q matrix) (key : ℕ) (h : key < keys) where
  pub bit_is : (i : ℕ) → i < max_rules → bit_in matrix key i ≡ q key i
  unfolding bit_in
  bit_is i l = same_where matrix key i _ h l refl q w

  pub row_is : (n : ℕ) → n ≤ max_rules → ((i : ℕ) → q key i ≡ true → i < n) → numbers_in matrix key ≡ keep (q key) (up_to n)
  row_is n l below =
      keep_same (bit_in matrix key) (q key) (up_to max_rules) (λ i m. bit_is i (mem-up_to max_rules i m))
      ∙ keep-below (q key) max_rules n l below

-- What stands behind the row stays.
pub same_behind : (from : ℕ) (matrix : List ℕ) → SameFrom from matrix matrix
same_behind from matrix = record { places = refl; words = λ k h. refl }

pub behind_then : {from : ℕ} {a b c : List ℕ} → SameFrom from a b → SameFrom from b c → SameFrom from a c
behind_then s t = record { places = t.places ∙ s.places; words = λ k h. t.words k h ∙ s.words k h }
