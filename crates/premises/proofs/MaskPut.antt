-- The rules of a mask are put behind rows that are empty, word by word.
use Prim.Native.Nat.{ℕ, ◌+◌, ◌*◌, ◌/◌, ◌%◌, ◌^◌, ◌≤◌, ◌<◌}
use mathlib.Core.Path.{◌≡◌, refl, sym, ap, ◌∙◌, fun_ext}
use mathlib.Core.Bool.{Bool, true, false, ◌&&◌, ◌||◌}
use mathlib.Core.List.{List}
use mathlib.Core.Logic.{⊎_elim}
use native.Mathlib.Omega.{arith}
use native.Mathlib.Decide.{dec_lt}
use borrow.Author.Tests.{eqb-true, eqb-false, ne_eqb, lt-ltb, le-ltb}
use lib.ListN.{length, get_or, set, replicate, length-set, length-replicate, get_or-eq_default}
use lib.Seq.{get_or-set_same, get_or-set_other}
use lib.Bits.{bit_or, or_zero_l}
use lib.Pow.{pow_pos}
use lib.Dec.{eqb, ltb}
use Rattle.theory.specs.Rule.{adjoin, Program, count}
use Rattle.theory.proofs.Bools.{either, never, and_right, false_of}
use Rattle.theory.proofs.Lists.{zeros, eqb-self, below_more, here_not, here_now}
use Rattle.items.specs.Item.{narrow, max_facts, max_rules, has}
use Rattle.bits.specs.Flags.{word_bits, row_words, word}
use Rattle.bits.specs.Matrix.{matrix_words, bit_in, Matrix, SameFrom}
use Rattle.bits.proofs.WordBits.{word-ext, word-marked}
use Rattle.bits.proofs.EmptyRows.{empty-word}
use Rattle.bits.proofs.MatrixMarked.{bit_is}
use Rattle.premises.specs.Premises.{plain_ones, Asked}
use Rattle.premises.specs.Plain.{plain_words, mask_in, PlainIndexed, Masks, MaskPut, OnlyPlain}
use Rattle.premises.proofs.PlainRows.{plain_known}

-- the numbers of the mask below n
abbrev mask_below : List ℕ → ℕ → ℕ → Bool
mask_below mask n i = ltb i n && has mask i

-- A word from number a on has b of the mask's bits.
pub record WordPut (mask : List ℕ) (a b w : ℕ) : Type 0 where
  pub is : w ≡ word (mask_below mask (a + b)) a word_bits

pub no-bit : (mask : List ℕ) (a : ℕ) → WordPut mask a 0 0
no-bit mask a =
    record { is = sym (word-ext (mask_below mask (a + 0)) (λ i. false) a word_bits (λ i low high. ap (λ (b : Bool). b && has mask i) (le-ltb i (a + 0) (omega arith))) ∙ empty-word (λ i. false) (λ i. refl) a word_bits) }

module _ {mask : List ℕ} {a b w : ℕ} (s : WordPut mask a b w) where
  -- from one number to the next
  next : (p : ℕ → Bool) → p (a + b) ≡ has mask (a + b) → ((i : ℕ) → eqb i (a + b) ≡ false → p i ≡ mask_below mask (a + b) i) → (v : ℕ) → v ≡ word p a word_bits → WordPut mask a (b + 1) v
  next p here other v e =
      let more : a + (b + 1) ≡ a + b + 1 = omega arith in
      record { is = e ∙ ap (λ (q : ℕ → Bool). word q a word_bits) (fun_ext (λ i. ⊎_elim (λ q. let is : i ≡ a + b = eqb-true i (a + b) q in rw is (here ∙ sym (here_now (a + b) (has mask (a + b))))) (λ q. other i q ∙ below_more (a + b) i (has mask i) q) (either (eqb i (a + b))))) ∙ ap (λ (n : ℕ). word (mask_below mask n) a word_bits) (sym more) }

  pub one_bit : b < word_bits → has mask (a + b) ≡ true → (v : ℕ) → v ≡ bit_or w (2 ^ b) → WordPut mask a (b + 1) v
  one_bit h t v e =
      next (adjoin (mask_below mask (a + b)) (a + b)) (ap (λ (x : Bool). x || mask_below mask (a + b) (a + b)) (eqb-self (a + b)) ∙ sym t) (λ i q. ap (λ (x : Bool). x || mask_below mask (a + b) i) q) v
      (e ∙ ap (λ (x : ℕ). bit_or x (2 ^ b)) s.is ∙ word-marked (mask_below mask (a + b)) a word_bits b h)

  pub bit-off : has mask (a + b) ≡ false → WordPut mask a (b + 1) w
  bit-off t = next (mask_below mask (a + b)) (here_not (a + b) (has mask (a + b)) ∙ sym t) (λ i q. refl) w s.is

  pub word-put : word_bits ≤ b → w ≡ word (has mask) a word_bits
  word-put h = s.is ∙ word-ext (mask_below mask (a + b)) (has mask) a word_bits (λ i low high. ap (λ (x : Bool). x && has mask i) (lt-ltb i (a + b) (omega arith)))

-- The words before one are put.
pub record Putting (mask : List ℕ) (at : ℕ) (index : List ℕ) : Type 0 where
  pub words : length index ≡ plain_words
  pub rows : (k : ℕ) → k < matrix_words → get_or index k 0 ≡ 0
  pub put : (k : ℕ) → k < at → get_or index (matrix_words + k) 0 ≡ word (has mask) (k * word_bits) word_bits
  pub rest : (k : ℕ) → at ≤ k → get_or index (matrix_words + k) 0 ≡ 0

pub none_put : (mask : List ℕ) → Putting mask 0 (replicate plain_words 0)
none_put mask =
    record {
      words = length-replicate {A = ℕ} plain_words 0;
      rows = λ k h. zeros plain_words k;
      put = λ k h. absurd (omega arith);
      rest = λ k h. zeros plain_words (matrix_words + k);
    }

-- A number past the last row has no bit.
bit_past : (index : List ℕ) (i : ℕ) → length index ≡ plain_words → max_rules ≤ i → mask_in index i ≡ false
unfolding bit_in
bit_past index i e h =
    ap (λ (v : ℕ). eqb (bit_or v (2 ^ (i % word_bits))) v) nothing-there
    ∙ ap (λ (v : ℕ). eqb v 0) (or_zero_l (2 ^ (i % word_bits)))
    ∙ ne_eqb (2 ^ (i % word_bits)) 0 (λ z. omega (arith, pow_pos (i % word_bits)))
  where
    nothing-there : get_or index (max_facts narrow * row_words + i / word_bits) 0 ≡ 0
    nothing-there = get_or-eq_default index 0 (omega arith)

module _ {mask index : List ℕ} {at : ℕ} (w : Putting mask at index) where
  pub one_put : at < row_words → (v : ℕ) → v ≡ word (has mask) (at * word_bits) word_bits → Putting mask (at + 1) (set index (matrix_words + at) v)
  one_put h v e =
      record {
        words = length-set index (matrix_words + at) v ∙ w.words;
        rows = λ k l. get_or-set_other index (matrix_words + at) k v 0 (λ q. omega arith) ∙ w.rows k l;
        put = λ k l. ⊎_elim (λ q. let is : k ≡ at = eqb-true k at q in rw is (get_or-set_same index (matrix_words + at) v 0 (omega (arith, w.words)) ∙ e)) (λ q. let ne : k ≡ at → ⊥ = eqb-false k at q in get_or-set_other index (matrix_words + at) (matrix_words + k) v 0 (λ r. ne (omega arith)) ∙ w.put k (omega arith)) (either (eqb k at));
        rest = λ k l. get_or-set_other index (matrix_words + at) (matrix_words + k) v 0 (λ q. omega arith) ∙ w.rest k (omega arith);
      }

  -- No rule of the mask is left.
  module _ (P : Program) (only : OnlyPlain P mask) (few : count P ≤ max_rules) (past : count P ≤ at * word_bits) where
    low : (i : ℕ) → has mask i ≡ true → i < count P
    low i t = plain_known P i (only i t)

    each_word : (k : ℕ) → get_or index (matrix_words + k) 0 ≡ word (has mask) (k * word_bits) word_bits
    each_word k = go (dec_lt k at)
      where
        go : Dec (k < at) → get_or index (matrix_words + k) 0 ≡ word (has mask) (k * word_bits) word_bits
        go (yes l) = w.put k l
        go (no h) = w.rest k (omega arith) ∙ sym (word-ext (has mask) (λ i. false) (k * word_bits) word_bits (λ i l u. false_of (has mask i) (λ t. let below : i < count P = low i t in omega arith)) ∙ empty-word (λ i. false) (λ i. refl) (k * word_bits) word_bits)

    -- the rows as a matrix, the mask under the key past all facts
    behind : Matrix (max_facts narrow + 1) (λ f i. eqb f (max_facts narrow) && has mask i) index
    behind =
        record {
          places = omega (arith, w.words);
          words = λ f k hf hk. ⊎_elim (λ q. let is : f ≡ max_facts narrow = eqb-true f (max_facts narrow) q in rw is (each_word k ∙ ap (λ (p : ℕ → Bool). word p (k * word_bits) word_bits) (fun_ext (λ i. sym (ap (λ (b : Bool). b && has mask i) (eqb-self (max_facts narrow))))))) (λ q. let ne : f ≡ max_facts narrow → ⊥ = eqb-false f (max_facts narrow) q in w.rows (f * row_words + k) (omega arith) ∙ sym (empty-word (λ i. eqb f (max_facts narrow) && has mask i) (λ i. ap (λ (b : Bool). b && has mask i) q) (k * word_bits) word_bits)) (either (eqb f (max_facts narrow)));
          inside = λ f i t. let below : i < count P = low i (and_right (eqb f (max_facts narrow)) (has mask i) t) in omega arith;
        }

    pub all-put : MaskPut mask index
    all-put =
        record {
          words = w.words;
          no_rows =
              record {
                places = omega (arith, w.words);
                words = λ f k hf hk. w.rows (f * row_words + k) (omega arith) ∙ sym (empty-word (λ i. false) (λ i. refl) (k * word_bits) word_bits);
                inside = λ f i t. never t refl;
              };
          masks = λ i. go i (dec_lt i max_rules);
        }
      where
        go : (i : ℕ) → Dec (i < max_rules) → mask_in index i ≡ has mask i
        go i (yes l) = bit_is behind (max_facts narrow) (omega arith) i l ∙ ap (λ (b : Bool). b && has mask i) (eqb-self (max_facts narrow))
        go i (no h) = bit_past index i w.words (omega arith) ∙ sym (false_of (has mask i) (λ t. let below : i < count P = low i t in omega arith))

-- What was put stays where the rows are filled.
pub masks_stay : (mask : List ℕ) {index index' : List ℕ} → Masks mask index → SameFrom matrix_words index index' → Masks mask index'
unfolding bit_in
masks_stay mask {index} {index'} m s i = rw (s.words (max_facts narrow * row_words + i / word_bits) (omega arith)) (m i)

pub plain-indexed : (P : Program) (mask : List ℕ) {index : List ℕ} → OnlyPlain P mask → Masks mask index → length index ≡ plain_words → Asked P (plain_ones P) index → PlainIndexed P index
plain-indexed P mask {index} only m l a = record { words = l; rows = a; only_plain = λ i t. only i (sym (m i) ∙ t) }
