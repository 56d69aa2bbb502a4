-- The index is filled rule by rule: the rules passed are in the rows of their literals.
use Prim.Native.Nat.{ℕ, ◌+◌, ◌*◌, ◌≤◌, ◌<◌}
use mathlib.Core.Path.{◌≡◌, refl, sym, ap, ap₂, subst, ◌∙◌, fun_ext}
use mathlib.Core.Bool.{Bool, true, false, cond, not, not-not, ◌&&◌, ◌||◌}
use mathlib.Core.List.{List}
use mathlib.Core.Logic.{⊎_elim}
use native.Mathlib.Omega.{arith}
use borrow.Author.Tests.{eqb-true, eqb-false, eq-eqb, ne_eqb, le-ltb, lt-ltb, ltb-true, ltb-false}
use lib.ListN.{length, get_or, set, length-set, length-replicate}
use lib.Seq.{get_or-set_same, get_or-set_other}
use lib.Dec.{eqb, ltb}
use Rattle.theory.specs.Rule.{mem, how_many, up_to, nothing, Program, Mask, withheld, in_force, count, rule}
use Rattle.theory.proofs.Bools.{either, and-true, and-false, or-none}
use Rattle.theory.proofs.Lists.{zeros, eqb-self, how_many-ext, below_more, here_not, here_now}
use Rattle.items.specs.Item.{max_rules, has}
use Rattle.bits.specs.Flags.{row_words}
use Rattle.bits.specs.Matrix.{matrix_words, Matrix, SameFrom}
use Rattle.bits.proofs.EmptyRows.{empty-matrix}
use Rattle.premises.specs.Filling.{adjoin_each, Entered}
use Rattle.index.specs.Literal.{literals, body, literal_count, lacks, lacking}
use Rattle.index.specs.Cells.{marks_from, index_words, on_in}
use Rattle.index.specs.Index.{asks, Indexed, in_force_but, LeftOut, Sized, Blank}
use Rattle.index.proofs.AskersCounted.{none_past}

-- the rules before n that are on and ask the literal
abbrev asks_before : Program → Mask → ℕ → ℕ → ℕ → Bool
asks_before P on n l k = ltb k n && asks P on l k

-- The rules before i are passed.
pub record Indexing (P : Program) (on : Mask) (R missing : List ℕ) (i : ℕ) : Type 0 where
  pub reached : i ≤ count P
  pub size : length R ≡ index_words
  pub rows : Matrix literals (asks_before P on i) R
  pub force_shown : (j : ℕ) → j < i → on_in R j ≡ on j
  pub unmarked : (j : ℕ) → i ≤ j → on_in R j ≡ false
  pub rule_places : length missing ≡ max_rules
  pub sizes : (j : ℕ) → j < i → get_or missing j 0 ≡ cond (on j) (lacking P nothing j) 1

pub none_passed : (P : Program) (on : Mask) {R missing : List ℕ} → Blank R missing → Indexing P on R missing 0
none_passed P on {R} b =
    record {
      reached = omega arith;
      size = ap length b.words ∙ length-replicate {A = ℕ} index_words 0;
      rows = rw b.words (empty-matrix literals index_words (omega arith) (asks_before P on 0) (λ l k. ap (λ (t : Bool). t && asks P on l k) (le-ltb k 0 (omega arith))));
      force_shown = λ j h. absurd (omega arith);
      unmarked = λ j h. ap (λ (x : ℕ). eqb x 1) (empty (marks_from + j));
      rule_places = b.rule_places;
      sizes = λ j h. absurd (omega arith);
    }
  where
    empty : (k : ℕ) → get_or R k 0 ≡ 0
    empty k = ap (λ (t : List ℕ). get_or t k 0) b.words ∙ zeros index_words k

-- a word behind the rows may change
behind_set : {keys : ℕ} {q : ℕ → ℕ → Bool} {matrix : List ℕ} → Matrix keys q matrix → (at v : ℕ) → keys * row_words ≤ at → Matrix keys q (set matrix at v)
behind_set {matrix = matrix} m at v h =
    record {
      places = omega (arith, m.places, length-set matrix at v);
      words = λ f k hf hk. get_or-set_other matrix at (f * row_words + k) v 0 (λ e. omega arith) ∙ m.words f k hf hk;
      inside = m.inside;
    }

-- the distinct literals of a body are what its rule lacks of nothing
body-lacking : (P : Program) (i d : ℕ) → d ≡ how_many (λ l. mem l (body (rule P i))) (up_to literals) → d ≡ lacking P nothing i
unfolding literal_count
body-lacking P i d e = go literals e
  where
    go : (n : ℕ) → d ≡ how_many (λ l. mem l (body (rule P i))) (up_to n) → d ≡ how_many (lacks P nothing i) (up_to n)
    go n q = q ∙ how_many-ext (λ l. mem l (body (rule P i))) (lacks P nothing i) (up_to n) (λ l _. sym (and-true (mem l (body (rule P i)))))

-- Rule i is the next one.
module _ {P : Program} (few : count P ≤ max_rules) {on : Mask} {R missing : List ℕ} {i : ℕ} (w : Indexing P on R missing i) (h : i < count P) where
  -- no literal has it yet
  pub none_there : (l : ℕ) → asks_before P on i l i ≡ false
  none_there l = here_not i (asks P on l i)

  sizes' : (d : ℕ) → d ≡ cond (on i) (lacking P nothing i) 1 → (j : ℕ) → j < i + 1 → get_or (set missing i d) j 0 ≡ cond (on j) (lacking P nothing j) 1
  sizes' d e j l =
      ⊎_elim
      (λ q. let is : j ≡ i = eqb-true j i q in rw is (get_or-set_same missing i d 0 (omega (arith, w.rule_places)) ∙ e))
      (λ q. let ne : j ≡ i → ⊥ = eqb-false j i q in get_or-set_other missing i j d 0 ne ∙ w.sizes j (omega arith))
      (either (eqb j i))

  -- It is off.
  pub rule-off : on i ≡ false → Indexing P on R (set missing i 1) (i + 1)
  rule-off f =
      record {
        reached = omega arith;
        size = w.size;
        rows = subst (λ (q : ℕ → ℕ → Bool). Matrix literals q R) (fun_ext (λ l. fun_ext (λ k. same l k))) w.rows;
        force_shown = λ j l. ⊎_elim (λ e. let is : j ≡ i = eqb-true j i e in rw is (w.unmarked i (omega arith) ∙ sym f)) (λ e. let ne : j ≡ i → ⊥ = eqb-false j i e in w.force_shown j (omega arith)) (either (eqb j i));
        unmarked = λ j l. w.unmarked j (omega arith);
        rule_places = length-set missing i 1 ∙ w.rule_places;
        sizes = sizes' 1 (sym (ap (λ (b : Bool). cond b (lacking P nothing i) 1) f));
      }
    where
      same : (l k : ℕ) → asks_before P on i l k ≡ asks_before P on (i + 1) l k
      same l k =
          ⊎_elim
          (λ e. let is : k ≡ i = eqb-true k i e in rw is (none_there l ∙ sym (here_now i (asks P on l i) ∙ ap (λ (b : Bool). b && mem l (body (rule P i))) f)))
          (λ e. below_more i k (asks P on l k) e)
          (either (eqb k i))

  -- It is on: its premises are marked, then its constraints, then itself.
  module _ (y : on i ≡ true) (R₁ R₂ : List ℕ) (kept₁ : SameFrom matrix_words R R₁) (kept₂ : SameFrom marks_from R₁ R₂) (d : ℕ) (e : Entered literals literals (asks_before P on i) i (body (rule P i)) R₂ d) where
    abbrev R₃ : List ℕ
    R₃ = set R₂ (marks_from + i) 1

    size₂ : length R₂ ≡ index_words
    size₂ = kept₂.places ∙ kept₁.places ∙ w.size

    marks₂ : (j : ℕ) → on_in R₂ j ≡ on_in R j
    marks₂ j = ap (λ (x : ℕ). eqb x 1) (kept₂.words (marks_from + j) (omega arith) ∙ kept₁.words (marks_from + j) (omega arith))

    mark_else : (j : ℕ) → eqb j i ≡ false → on_in R₃ j ≡ on_in R j
    mark_else j q = let ne : j ≡ i → ⊥ = eqb-false j i q in ap (λ (x : ℕ). eqb x 1) (get_or-set_other R₂ (marks_from + i) (marks_from + j) 1 0 (λ s. ne (omega arith))) ∙ marks₂ j

    mark_here : on_in R₃ i ≡ true
    mark_here = ap (λ (x : ℕ). eqb x 1) (get_or-set_same R₂ (marks_from + i) 1 0 (omega (arith, size₂)))

    pub rule-on : Indexing P on R₃ (set missing i d) (i + 1)
    rule-on =
        record {
          reached = omega arith;
          size = length-set R₂ (marks_from + i) 1 ∙ size₂;
          rows = behind_set (subst (λ (q : ℕ → ℕ → Bool). Matrix literals q R₂) (fun_ext (λ l. fun_ext (λ k. same l k))) e.matrix) (marks_from + i) 1 (omega arith);
          force_shown = λ j l. ⊎_elim (λ q. let is : j ≡ i = eqb-true j i q in rw is (mark_here ∙ sym y)) (λ q. let ne : j ≡ i → ⊥ = eqb-false j i q in mark_else j q ∙ w.force_shown j (omega arith)) (either (eqb j i));
          unmarked = λ j l. mark_else j (ne_eqb j i (λ q. omega arith)) ∙ w.unmarked j (omega arith);
          rule_places = length-set missing i d ∙ w.rule_places;
          sizes = sizes' d (body-lacking P i d e.counted ∙ sym (ap (λ (b : Bool). cond b (lacking P nothing i) 1) y));
        }
      where
        asked : (l : ℕ) → adjoin_each (asks_before P on i) i (body (rule P i)) l i ≡ asks_before P on (i + 1) l i
        asked l =
            ap₂ (λ (s t : Bool). mem l (body (rule P i)) && s || t) (eqb-self i) (none_there l)
            ∙ or-none (mem l (body (rule P i)) && true) ∙ and-true (mem l (body (rule P i)))
            ∙ sym (here_now i (asks P on l i) ∙ ap (λ (b : Bool). b && mem l (body (rule P i))) y)

        others : (l k : ℕ) → eqb k i ≡ false → adjoin_each (asks_before P on i) i (body (rule P i)) l k ≡ asks_before P on (i + 1) l k
        others l k q =
            ap (λ (b : Bool). b || asks_before P on i l k) (ap (λ (t : Bool). mem l (body (rule P i)) && t) q ∙ and-false (mem l (body (rule P i))))
            ∙ below_more i k (asks P on l k) q

        same : (l k : ℕ) → adjoin_each (asks_before P on i) i (body (rule P i)) l k ≡ asks_before P on (i + 1) l k
        same l k = ⊎_elim (λ q. let is : k ≡ i = eqb-true k i q in rw is (asked l)) (λ q. others l k q) (either (eqb k i))

-- All rules are passed.
module _ {P : Program} (off : List ℕ) {R missing : List ℕ} {i : ℕ} (w : Indexing P (in_force_but P off) R missing i) (z : count P ≤ i) where
  pub all-left_out : LeftOut P off R
  all-left_out j h = w.force_shown j (omega arith)

  pub all-indexed : count P ≤ max_rules → Indexed P R
  all-indexed few = record { few = few; rows = subst (λ (q : ℕ → ℕ → Bool). Matrix literals q R) (fun_ext (λ l. fun_ext (λ k. same l k))) w.rows }
    where
      same : (l k : ℕ) → asks_before P (in_force_but P off) i l k ≡ asks P (on_in R) l k
      same l k =
          ⊎_elim
          (λ q. let inside : k < count P = ltb-true k (count P) q in ap₂ (λ (s t : Bool). s && (t && mem l (body (rule P k)))) (lt-ltb k i (omega arith)) (sym (all-left_out k inside)))
          (λ q.
          let past : count P ≤ k = ltb-false k (count P) q in
          ap (λ (t : Bool). t && asks P (in_force_but P off) l k) (le-ltb k i (omega (arith, w.reached)))
          ∙ sym (ap (λ (t : Bool). on_in R k && t) (none_past P l k past) ∙ and-false (on_in R k)))
          (either (ltb k (count P)))

  pub all-sized : Sized P R missing
  all-sized =
      record {
        rule_places = w.rule_places;
        sizes = λ j h e. w.sizes j (omega arith) ∙ ap (λ (b : Bool). cond b (lacking P nothing j) 1) (sym (all-left_out j h) ∙ e);
        unused = λ j h e. w.sizes j (omega arith) ∙ ap (λ (b : Bool). cond b (lacking P nothing j) 1) (sym (all-left_out j h) ∙ e);
      }

-- Which rules are left out: those that are off, and of the others those that are withheld.
module _ (P : Program) (off : List ℕ) (i : ℕ) where
  pub off_left_out : get_or off i 0 ≡ 1 → true ≡ not (in_force_but P off i)
  unfolding has
  off_left_out e = rw (eq-eqb (get_or off i 0) 1 e, and-false (in_force P i)) refl

  pub withheld-left_out : (get_or off i 0 ≡ 1 → ⊥) → withheld P i ≡ not (in_force_but P off i)
  unfolding has in_force
  withheld-left_out n = rw (ne_eqb (get_or off i 0) 1 n, and-true (in_force P i)) (sym (not-not (withheld P i)))
