-- The counts of some places are lowered: place by place in a word of a row, and word by word.
use Prim.Native.Nat.{ℕ, ◌+◌, ◌-◌, ◌*◌, ◌≤◌, ◌<◌}
use mathlib.Core.Path.{◌≡◌, refl, sym, ap, ap₂, subst, ◌∙◌, fun_ext}
use mathlib.Core.Bool.{Bool, true, false, not, ◌&&◌, ◌||◌}
use mathlib.Core.List.{List}
use mathlib.Core.Logic.{⊎_elim}
use mathlib.Core.Option.{Option, none}
use native.Mathlib.Omega.{arith}
use borrow.Author.Tests.{eqb-true, eqb-false, eq-eqb, ne_eqb, lt-ltb, le-ltb, ltb-true, ltb-false}
use lib.ListN.{length, get_or, set, length-set}
use lib.Seq.{get_or-set_same, get_or-set_other}
use lib.Bits.{bit_and}
use lib.Count.{count_trailing_zeros}
use lib.Dec.{eqb, ltb}
use Rattle.theory.specs.Rule.{adjoin, range}
use Rattle.theory.specs.Lists.{seek}
use Rattle.theory.proofs.Bools.{either, never, or-none, or_right, and_left, and_right, false_of, false_of_not}
use Rattle.theory.proofs.Lists.{eqb-self, seek-none, seek-some, range-mem}
use Rattle.items.specs.Item.{max_rules}
use Rattle.bits.specs.Flags.{word_bits, row_words, digit, word, Flags, without}
use Rattle.bits.specs.Matrix.{Matrix}
use Rattle.bits.proofs.WordBits.{word-ext, word_none, LowestTaken, word-lowest}
use Rattle.premises.specs.Waking.{less_at, woken_at, Lowered, from_word, in_word}

-- The places p are left: lowered from here, they give what all give from the start.
pub record Lowering (p₀ w₀ : ℕ → Bool) (missing₀ : List ℕ) (p : ℕ → Bool) (missing awake : List ℕ) : Type 0 where
  pub w : ℕ → Bool
  pub awake_are : Flags w awake
  pub places : length missing ≡ max_rules
  pub counts : (k : ℕ) → less_at p missing k ≡ less_at p₀ missing₀ k
  pub woken : (k : ℕ) → woken_at p w missing k ≡ woken_at p₀ w₀ missing₀ k

pub none_lowered : (p w : ℕ → Bool) (missing awake : List ℕ) → Flags w awake → length missing ≡ max_rules → Lowering p w missing p missing awake
none_lowered p w missing awake f e = record { w = w; awake_are = f; places = e; counts = λ k. refl; woken = λ k. refl }

module _ {p₀ w₀ : ℕ → Bool} {missing₀ : List ℕ} {p : ℕ → Bool} {missing awake : List ℕ} (s : Lowering p₀ w₀ missing₀ p missing awake) where
  -- Some of them are lowered.
  pub some_lowered : (d : ℕ → Bool) → ((k : ℕ) → d k ≡ true → p k ≡ true) → {missing' awake' : List ℕ} → Lowered d s.w missing missing' awake' → Lowering p₀ w₀ missing₀ (λ k. not (d k) && p k) missing' awake'
  some_lowered d within {missing'} {awake'} l =
      record {
        w = woken_at d s.w missing;
        awake_are = l.woken;
        places = l.places;
        counts = λ k. ap (λ (m : ℕ). m - digit (not (d k) && p k)) (l.counts k) ∙ less (get_or missing k 0) (d k) (p k) (within k) ∙ s.counts k;
        woken = λ k. ap (λ (m : ℕ). woken_at d s.w missing k || not (d k) && p k && eqb (m - digit (not (d k) && p k)) 0) (l.counts k) ∙ wakes (get_or missing k 0) (s.w k) (d k) (p k) (within k) ∙ s.woken k;
      }
    where
      less : (m : ℕ) (b c : Bool) → (b ≡ true → c ≡ true) → m - digit b - digit (not b && c) ≡ m - digit c
      less m true true h = omega arith
      less m true false h = never (h refl) refl
      less m false c h = omega arith

      wakes : (m : ℕ) (a b c : Bool) → (b ≡ true → c ≡ true) → a || b && eqb (m - digit b) 0 || not b && c && eqb (m - digit b - digit (not b && c)) 0 ≡ a || c && eqb (m - digit c) 0
      wakes m a true true h = or-none (a || eqb (m - 1) 0)
      wakes m a true false h = never (h refl) refl
      wakes m a false c h = ap₂ (λ (x : Bool) (n : ℕ). x || c && eqb n 0) (or-none a) (none_off m (digit c))
        where
          none_off : (m n : ℕ) → m - 0 - n ≡ m - n
          none_off m n = omega arith

  -- None is left.
  pub all-lowered : ((k : ℕ) → p k ≡ false) → Lowered p₀ w₀ missing₀ missing awake
  all-lowered out =
      record {
        places = s.places;
        counts = λ k. none_off (get_or missing k 0) ∙ sym (ap (λ (b : Bool). get_or missing k 0 - digit b) (out k)) ∙ s.counts k;
        woken = subst (λ (w : ℕ → Bool). Flags w awake) (fun_ext (λ k. sym (or-none (s.w k)) ∙ sym (ap (λ (b : Bool). s.w k || b && eqb (less_at p missing k) 0) (out k)) ∙ s.woken k)) s.awake_are;
      }
    where
      none_off : (m : ℕ) → m ≡ m - 0
      none_off m = omega arith

-- One place is lowered; where its count is 0 now, it wakes.
module _ {w : ℕ → Bool} (missing : List ℕ) {awake : List ℕ} (f : Flags w awake) (places : length missing ≡ max_rules) (i count : ℕ) (inside : i < max_rules) (count-is : count ≡ get_or missing i 0 - 1) where
  at_one : {A : Type 0} (f g : ℕ → A) → f i ≡ g i → ((k : ℕ) → eqb k i ≡ false → f k ≡ g k) → (k : ℕ) → f k ≡ g k
  at_one f g a b k = ⊎_elim (λ e. let is : k ≡ i = eqb-true k i e in rw is a) (λ e. b k e) (either (eqb k i))

  counts_now : (k : ℕ) → get_or (set missing i count) k 0 ≡ less_at (λ k. eqb k i) missing k
  counts_now =
      at_one (λ k. get_or (set missing i count) k 0) (less_at (λ k. eqb k i) missing)
      (get_or-set_same missing i count 0 (omega arith) ∙ count-is ∙ sym (ap (λ (b : Bool). get_or missing i 0 - digit b) (eqb-self i)))
      (λ k e. get_or-set_other missing i k count 0 (eqb-false k i e) ∙ none_off (get_or missing k 0) ∙ sym (ap (λ (b : Bool). get_or missing k 0 - digit b) e))
    where
      none_off : (m : ℕ) → m ≡ m - 0
      none_off m = omega arith

  one : {awake' : List ℕ} {w' : ℕ → Bool} → Flags w' awake' → w' i ≡ w i || eqb count 0 → ((k : ℕ) → eqb k i ≡ false → w' k ≡ w k) → Lowered (λ k. eqb k i) w missing (set missing i count) awake'
  one {awake'} {w'} g here elsewhere =
      record {
        places = length-set missing i count ∙ places;
        counts = counts_now;
        woken = subst (λ (v : ℕ → Bool). Flags v awake') (fun_ext (at_one w' (woken_at (λ k. eqb k i) w missing) (here ∙ sym own) other)) g;
      }
    where
      own : woken_at (λ k. eqb k i) w missing i ≡ w i || eqb count 0
      own = ap (λ (b : Bool). w i || b && eqb (get_or missing i 0 - digit b) 0) (eqb-self i) ∙ ap (λ (m : ℕ). w i || eqb m 0) (sym count-is)

      other : (k : ℕ) → eqb k i ≡ false → w' k ≡ woken_at (λ k. eqb k i) w missing k
      other k e = elsewhere k e ∙ sym (or-none (w k)) ∙ sym (ap (λ (b : Bool). w k || b && eqb (get_or missing k 0 - digit b) 0) e)

  pub one_wakes : {awake' : List ℕ} → ((v : ℕ → Bool) → Flags v awake → Flags (adjoin v i) awake') → count ≡ 0 → Lowered (λ k. eqb k i) w missing (set missing i count) awake'
  one_wakes marks z =
      one (marks w f) (ap (λ (b : Bool). b || w i) (eqb-self i) ∙ sym (or_right (w i) _ (eq-eqb count 0 z))) (λ k e. ap (λ (b : Bool). b || w k) e)

  pub one_sleeps : (count ≡ 0 → ⊥) → Lowered (λ k. eqb k i) w missing (set missing i count) awake
  one_sleeps n = one f (sym (ap (λ (b : Bool). w i || b) (ne_eqb count 0 n) ∙ or-none (w i))) (λ k e. refl)

-- Of the places of a word those are left whose bits are.
pub record WordLowering (at : ℕ) (p₀ w₀ : ℕ → Bool) (missing₀ : List ℕ) (left : ℕ) (missing awake : List ℕ) : Type 0 where
  pub p : ℕ → Bool
  pub left_is : left ≡ word p (at * word_bits) word_bits
  pub inside : (k : ℕ) → p k ≡ true → (at * word_bits ≤ k) × (k < at * word_bits + word_bits)
  pub lowering : Lowering (in_word at p₀) w₀ missing₀ p missing awake

-- So it is for whatever the word and the row stand for.
pub record WordLoweringAny (at word₀ : ℕ) (missing₀ awake₀ : List ℕ) (left : ℕ) (missing awake : List ℕ) : Type 0 where
  pub any : (p w : ℕ → Bool) → word₀ ≡ word p (at * word_bits) word_bits → Flags w awake₀ → length missing₀ ≡ max_rules → WordLowering at p w missing₀ left missing awake

in-word : (at : ℕ) (p : ℕ → Bool) (k : ℕ) → in_word at p k ≡ true → (at * word_bits ≤ k) × (k < at * word_bits + word_bits)
in-word at p k t =
    let from : not (ltb k (at * word_bits)) && p k ≡ true = and_right (ltb k (at * word_bits + word_bits)) _ t in
    (ltb-false k (at * word_bits) (false_of_not (ltb k (at * word_bits)) (and_left _ (p k) from)), ltb-true k (at * word_bits + word_bits) (and_left _ (from_word at p k) t))

pub word-whole : (at word₀ : ℕ) (missing awake : List ℕ) → WordLoweringAny at word₀ missing awake word₀ missing awake
word-whole at word₀ missing awake =
    record {
      any = λ p w e f l.
          record {
            p = in_word at p;
            left_is = e ∙ word-ext p (in_word at p) (at * word_bits) word_bits (λ i low high. sym (same p i low high));
            inside = in-word at p;
            lowering = none_lowered (in_word at p) w missing awake f l;
          };
    }
  where
    same : (p : ℕ → Bool) (i : ℕ) → at * word_bits ≤ i → i < at * word_bits + word_bits → in_word at p i ≡ p i
    same p i low high = ap₂ (λ (a b : Bool). a && (not b && p i)) (lt-ltb i (at * word_bits + word_bits) high) (le-ltb i (at * word_bits) low)

module _ {at word₀ : ℕ} {missing₀ awake₀ : List ℕ} {left : ℕ} {missing awake : List ℕ} (s : WordLoweringAny at word₀ missing₀ awake₀ left missing awake) where
  -- Its lowest place is lowered.
  pub place_lowered : 0 < left → (i left' : ℕ) → i ≡ at * word_bits + count_trailing_zeros word_bits left → left' ≡ bit_and left (left - 1) → {missing' awake' : List ℕ} → ((w : ℕ → Bool) → Flags w awake → length missing ≡ max_rules → Lowered (λ k. eqb k i) w missing missing' awake') → WordLoweringAny at word₀ missing₀ awake₀ left' missing' awake'
  place_lowered h i left' i-is left-is' {missing'} {awake'} one = record { any = λ p w e f l. next (s.any p w e f l) }
    where
      next : {p₀ w₀ : ℕ → Bool} → WordLowering at p₀ w₀ missing₀ left missing awake → WordLowering at p₀ w₀ missing₀ left' missing' awake'
      next {p₀} {w₀} t =
          record {
            p = without t.p i;
            left_is = left-is' ∙ ap (λ (m : ℕ). bit_and m (m - 1)) t.left_is ∙ low.rest ∙ ap (λ (m : ℕ). word (without t.p m) (at * word_bits) word_bits) (sym same_place);
            inside = λ k u. t.inside k (and_right (not (eqb k i)) (t.p k) u);
            lowering = some_lowered t.lowering (λ k. eqb k i) (λ k u. let is : k ≡ i = eqb-true k i u in rw is there) (one t.lowering.w t.lowering.awake_are t.lowering.places);
          }
        where
          low : LowestTaken t.p (at * word_bits) word_bits
          low = word-lowest t.p (at * word_bits) word_bits (subst (λ (m : ℕ). 0 < m) t.left_is h)

          same_place : i ≡ at * word_bits + count_trailing_zeros word_bits (word t.p (at * word_bits) word_bits)
          same_place = i-is ∙ ap (λ (m : ℕ). at * word_bits + count_trailing_zeros word_bits m) t.left_is

          there : t.p i ≡ true
          there = ap t.p same_place ∙ (seek-some t.p (range (at * word_bits) word_bits) (at * word_bits + count_trailing_zeros word_bits (word t.p (at * word_bits) word_bits)) low.found).passes

  -- No bit is left.
  pub word-lowered : left ≡ 0 → (p w : ℕ → Bool) → word₀ ≡ word p (at * word_bits) word_bits → Flags w awake₀ → length missing₀ ≡ max_rules → Lowered (in_word at p) w missing₀ missing awake
  word-lowered z p w e f l = ended (s.any p w e f l)
    where
      ended : WordLowering at p w missing₀ left missing awake → Lowered (in_word at p) w missing₀ missing awake
      ended t = all-lowered t.lowering (λ k. false_of (t.p k) (λ u. never u (seek-none t.p (range (at * word_bits) word_bits) nothing-there k (range-mem (at * word_bits) word_bits k (t.inside k u).0 (t.inside k u).1))))
        where
          nothing-there : ◌≡◌ {A = Option ℕ} (seek t.p (range (at * word_bits) word_bits)) none
          nothing-there = word_none t.p (at * word_bits) word_bits (sym t.left_is ∙ z)

-- The words below `at` of the row of a key are lowered.
pub record RowLowering (asks : List ℕ) (key : ℕ) (missing₀ awake₀ : List ℕ) (at : ℕ) (missing awake : List ℕ) : Type 0 where
  pub any : (keys : ℕ) (q : ℕ → ℕ → Bool) (w : ℕ → Bool) → key < keys → Matrix keys q asks → Flags w awake₀ → length missing₀ ≡ max_rules → Lowering (q key) w missing₀ (from_word at (q key)) missing awake

pub no_word : (asks : List ℕ) (key : ℕ) (missing awake : List ℕ) → RowLowering asks key missing awake 0 missing awake
no_word asks key missing awake =
    record {
      any = λ keys q w h m f l. subst (λ (p : ℕ → Bool). Lowering (q key) w missing p missing awake) (fun_ext (λ k. sym (ap (λ (b : Bool). not b && q key k) (le-ltb k 0 (omega arith))))) (none_lowered (q key) w missing awake f l);
    }

module _ {asks : List ℕ} {key : ℕ} {missing₀ awake₀ : List ℕ} {at : ℕ} {missing awake : List ℕ} (s : RowLowering asks key missing₀ awake₀ at missing awake) where
  pub next_word : at < row_words → {missing' awake' : List ℕ} → ((p w : ℕ → Bool) → get_or asks (key * row_words + at) 0 ≡ word p (at * word_bits) word_bits → Flags w awake → length missing ≡ max_rules → Lowered (in_word at p) w missing missing' awake') → RowLowering asks key missing₀ awake₀ (at + 1) missing' awake'
  next_word h {missing'} {awake'} lowers = record { any = λ keys q w k m f l. next q (m.words key at k h) (s.any keys q w k m f l) }
    where
      next : (q : ℕ → ℕ → Bool) {w : ℕ → Bool} → get_or asks (key * row_words + at) 0 ≡ word (q key) (at * word_bits) word_bits → Lowering (q key) w missing₀ (from_word at (q key)) missing awake → Lowering (q key) w missing₀ (from_word (at + 1) (q key)) missing' awake'
      next q {w} e t =
          subst (λ (p : ℕ → Bool). Lowering (q key) w missing₀ p missing' awake') (fun_ext (λ k. left_over k))
          (some_lowered t (in_word at (q key)) (λ k u. and_right (ltb k (at * word_bits + word_bits)) _ u) (lowers (q key) t.w e t.awake_are t.places))
        where
          left_over : (k : ℕ) → not (in_word at (q key) k) && from_word at (q key) k ≡ from_word (at + 1) (q key) k
          left_over k =
              let more : (at + 1) * word_bits ≡ at * word_bits + word_bits = omega arith in
              tests (ltb k (at * word_bits + word_bits)) (ltb k (at * word_bits)) (q key k) (λ t. let low : k < at * word_bits = ltb-true k (at * word_bits) t in lt-ltb k (at * word_bits + word_bits) (omega arith))
              ∙ sym (ap (λ (m : ℕ). not (ltb k m) && q key k) more)
            where
              tests : (a b c : Bool) → (b ≡ true → a ≡ true) → not (a && (not b && c)) && (not b && c) ≡ not a && c
              tests true true c i = refl
              tests true false true i = refl
              tests true false false i = refl
              tests false true c i = never (i refl) refl
              tests false false c i = refl

  pub row-lowered : row_words ≤ at → (keys : ℕ) (q : ℕ → ℕ → Bool) (w : ℕ → Bool) → key < keys → Matrix keys q asks → Flags w awake₀ → length missing₀ ≡ max_rules → Lowered (q key) w missing₀ missing awake
  row-lowered h keys q w k m f l = all-lowered (s.any keys q w k m f l) (λ i. false_of (from_word at (q key) i) (λ t. past i t))
    where
      past : (i : ℕ) → from_word at (q key) i ≡ true → ⊥
      past i t =
          let low : i < max_rules = m.inside key i (and_right (not (ltb i (at * word_bits))) (q key i) t) in
          let high : at * word_bits ≤ i = ltb-false i (at * word_bits) (false_of_not (ltb i (at * word_bits)) (and_left _ (q key i) t)) in
          omega arith
