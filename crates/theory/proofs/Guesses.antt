-- Guesses by number: what is in a guess, that `hunt` takes the first guess in ascending order that passes, and which guesses one guess refutes.
use Prim.Native.Nat.{ℕ, zero, suc, ◌+◌, ◌*◌, ◌-◌, ◌/◌, ◌%◌, ◌^◌, ◌<◌, ◌≤◌}
use native.Mathlib.Nat.{div-lt_iff_lt-mul, div-div-eq-div-mul, zero-lt-suc, pow-suc, mod-lt, div-add-mod'}
use native.Mathlib.Decide.{dec_lt, ℕ_discrete}
use native.Mathlib.Omega.{arith}
use mathlib.Core.Path.{◌≡◌, refl, sym, ap, subst, ◌∙◌}
use mathlib.Core.Bool.{Bool, true, false, cond, not, ◌||◌, beq}
use mathlib.Core.List.{List, [], ◌∷◌}
use mathlib.Core.Logic.{◌⊎◌, inl, inr, by_cases}
use mathlib.Core.Option.{Option, none, some}
use borrow.Author.Tests.{eqb-true}
use lib.Dec.{eqb}
use lib.ListN.{length, get_or}
use lib.Pow.{shr_mono, pow_pos}
use Rattle.theory.specs.Rule.{mem, NoRepeat, Program, Mask, FactSet, Sub, adjoin}
use Rattle.theory.specs.Check.{least_of}
use Rattle.theory.specs.Search.{guessed, fits, hunt}
use Rattle.theory.specs.Guesses.{bit, fact_at, guess_at, left_out, GuessRow}
use Rattle.theory.proofs.Bools.{never, or-false_left, or-false_right, false_of, beq-true, beq-refl}
use Rattle.theory.proofs.Lists.{all-elem, all_of, mem-cases, mem-here, mem-there, get_or-mem}
use Rattle.theory.proofs.Derive.{adjoin-above, adjoin-has}
use Rattle.theory.proofs.Stable.{least_anti}
use Rattle.theory.proofs.NumberBits.{digit-cases, bit_shifted}

-- G with the next fact, if its bit is set
abbrev taking : FactSet → ℕ → Bool → FactSet
taking G k b = cond b (adjoin G k) G

taking-other : (G : FactSet) (k f : ℕ) (b : Bool) → eqb f k ≡ false → taking G k b f ≡ G f
taking-other G k f true e = rw e refl
taking-other G k f false e = refl

taking-own : (G : FactSet) (k : ℕ) (b : Bool) → G k ≡ false → taking G k b k ≡ b
taking-own G k true e = adjoin-has G k
taking-own G k false e = e

-- A fact that is not in the row stands as in G.
pub guess_off : (ks : List ℕ) (G : FactSet) (g k : ℕ) → mem k ks ≡ false → guess_at ks G g k ≡ G k
guess_off [] G g k m = refl
guess_off (x ∷ ks) G g k m =
    guess_off ks (taking G x (bit g (length ks))) g k (or-false_right (eqb k x) _ m)
    ∙ taking-other G x k (bit g (length ks)) (or-false_left (eqb k x) _ m)

-- G with the next fact is free of those after it
still_free : (G : FactSet) (x : ℕ) (ks : List ℕ) (b : Bool) → mem x ks ≡ false → ((k : ℕ) → mem k (x ∷ ks) ≡ true → G k ≡ false) → (k : ℕ) → mem k ks ≡ true → taking G x b k ≡ false
still_free G x ks b out free k m =
    taking-other G x k b (false_of (eqb k x) (λ e. never (subst (λ (n : ℕ). mem n ks ≡ true) (eqb-true k x e) m) out)) ∙ free k (mem-there k x ks m)

-- A fact of the row is in the guess where its bit is set.
pub guess-at : (ks : List ℕ) (G : FactSet) (g j : ℕ) → NoRepeat ks → ((k : ℕ) → mem k ks ≡ true → G k ≡ false) → j < length ks → guess_at ks G g (fact_at ks j) ≡ bit g j
guess-at [] G g j once free l = absurd (omega arith)
guess-at (x ∷ ks) G g j once free l =
    by_cases (ℕ_discrete j (length ks)) first
    (λ n. rest n (guess-at ks (taking G x (bit g (length ks))) g j once.1 (still_free G x ks (bit g (length ks)) once.0 free)))
  where
    first : j ≡ length ks → guess_at (x ∷ ks) G g (fact_at (x ∷ ks) j) ≡ bit g j
    first e =
        let here : suc (length ks) - suc j ≡ 0 = omega arith in
        ap (λ (n : ℕ). guess_at (x ∷ ks) G g (get_or (x ∷ ks) n 0)) here
        ∙ guess_off ks (taking G x (bit g (length ks))) g x once.0
        ∙ taking-own G x (bit g (length ks)) (free x (mem-here x ks))
        ∙ ap (bit g) (sym e)

    rest : (j ≡ length ks → ⊥) → (j < length ks → guess_at ks (taking G x (bit g (length ks))) g (fact_at ks j) ≡ bit g j) → guess_at (x ∷ ks) G g (fact_at (x ∷ ks) j) ≡ bit g j
    rest n r =
        let there : suc (length ks) - suc j ≡ suc (length ks - suc j) = omega arith in
        ap (λ (m : ℕ). guess_at (x ∷ ks) G g (get_or (x ∷ ks) m 0)) there
        ∙ r (omega arith)

-- Each bit has a fact of the row, and each fact of the row a bit.
pub fact-in : (ks : List ℕ) (j : ℕ) → j < length ks → mem (fact_at ks j) ks ≡ true
fact-in ks j l = get_or-mem ks (length ks - suc j) (omega arith)

pub bit-of : (ks : List ℕ) (k : ℕ) → mem k ks ≡ true → (j : ℕ) × (j < length ks) × (fact_at ks j ≡ k)
bit-of [] k m = never m refl
bit-of (x ∷ ks) k m = go (bit-of ks k) (mem-cases k x ks m)
  where
    go : (mem k ks ≡ true → (j : ℕ) × (j < length ks) × (fact_at ks j ≡ k)) → (k ≡ x) ⊎ (mem k ks ≡ true) → (j : ℕ) × (j < length (x ∷ ks)) × (fact_at (x ∷ ks) j ≡ k)
    go r (inl e) =
        let here : suc (length ks) - suc (length ks) ≡ 0 = omega arith in
        (length ks, omega arith, ap (λ (n : ℕ). get_or (x ∷ ks) n 0) here ∙ sym e)
    go r (inr t) =
        let w : (j : ℕ) × (j < length ks) × (fact_at ks j ≡ k) = r t in
        let l : w.0 < length ks = w.1 in
        let there : suc (length ks) - suc w.0 ≡ suc (length ks - suc w.0) = omega arith in
        (w.0, omega arith, ap (λ (n : ℕ). get_or (x ∷ ks) n 0) there ∙ w.2)

-- Where none repeats, two places have different facts.
get_or-once : (ks : List ℕ) (a b : ℕ) → NoRepeat ks → a < length ks → b < length ks → get_or ks a 0 ≡ get_or ks b 0 → a ≡ b
get_or-once [] a b once l m e = absurd (omega arith)
get_or-once (x ∷ ks) zero zero once l m e = refl
get_or-once (x ∷ ks) zero (suc b) once l m e = never (get_or-mem ks b (omega arith)) (subst (λ (n : ℕ). mem n ks ≡ false) e once.0)
get_or-once (x ∷ ks) (suc a) zero once l m e = never (get_or-mem ks a (omega arith)) (subst (λ (n : ℕ). mem n ks ≡ false) (sym e) once.0)
get_or-once (x ∷ ks) (suc a) (suc b) once l m e = ap suc (get_or-once ks a b once.1 (omega arith) (omega arith) e)

pub fact-once : (ks : List ℕ) (i j : ℕ) → NoRepeat ks → i < length ks → j < length ks → fact_at ks i ≡ fact_at ks j → i ≡ j
fact-once ks i j once l m e =
    let same : length ks - suc i ≡ length ks - suc j = get_or-once ks _ _ once (omega arith) (omega arith) e in
    omega arith

-- More bits give more facts.
pub guess_mono : (ks : List ℕ) (G H : FactSet) (x y : ℕ) → Sub G H → ((j : ℕ) → j < length ks → bit x j ≡ true → bit y j ≡ true) → Sub (guess_at ks G x) (guess_at ks H y)
guess_mono [] G H x y s h = s
guess_mono (k ∷ ks) G H x y s h =
    guess_mono ks (taking G k (bit x (length ks))) (taking H k (bit y (length ks))) x y
    (both (bit x (length ks)) (bit y (length ks)) (h (length ks) (omega arith))) (λ j l. h j (omega arith))
  where
    both : (a b : Bool) → (a ≡ true → b ≡ true) → Sub (taking G k a) (taking H k b)
    both true true q f t = wider (eqb f k) (G f) (H f) (s f) t
      where
        wider : (e u v : Bool) → (u ≡ true → v ≡ true) → e || u ≡ true → e || v ≡ true
        wider true u v w t = refl
        wider false u v w t = w t
    both true false q f t = never (q refl) refl
    both false true q f t = adjoin-above H k f (s f t)
    both false false q f t = s f t

-- What is left out of a guess: the facts of the row that are not in it.
pub none_left_out : (ks : List ℕ) (g k : ℕ) → mem k ks ≡ false → mem k (left_out ks g) ≡ false
none_left_out [] g k t = refl
none_left_out (y ∷ ks) g k t = each (bit g (length ks)) (none_left_out ks g k (or-false_right (eqb k y) _ t))
  where
    each : (b : Bool) → mem k (left_out ks g) ≡ false → mem k (cond b (left_out ks g) (y ∷ left_out ks g)) ≡ false
    each true r = r
    each false r = rw (or-false_left (eqb k y) _ t, r) refl

pub left_out_lem : (ks : List ℕ) (G : FactSet) (g k : ℕ) → NoRepeat ks → ((f : ℕ) → mem f ks ≡ true → G f ≡ false) → mem k ks ≡ true → mem k (left_out ks g) ≡ not (guess_at ks G g k)
left_out_lem [] G g k once free m = never m refl
left_out_lem (x ∷ ks) G g k once free m =
    go (λ b t. left_out_lem ks (taking G x b) g k once.1 (still_free G x ks b once.0 free) t) (bit g (length ks)) refl (mem-cases k x ks m)
  where
    own : (b : Bool) → k ≡ x → guess_at ks (taking G x b) g k ≡ b
    own b e =
        let out : mem k ks ≡ false = ap (λ (n : ℕ). mem n ks) e ∙ once.0 in
        guess_off ks (taking G x b) g k out ∙ ap (taking G x b) e ∙ taking-own G x b (free x (mem-here x ks))

    go : ((b : Bool) → mem k ks ≡ true → mem k (left_out ks g) ≡ not (guess_at ks (taking G x b) g k)) → (b : Bool) → bit g (length ks) ≡ b → (k ≡ x) ⊎ (mem k ks ≡ true) → mem k (cond (bit g (length ks)) (left_out ks g) (x ∷ left_out ks g)) ≡ not (guess_at ks (taking G x (bit g (length ks))) g k)
    go later true e (inl q) = rw e (none_left_out ks g k (ap (λ (n : ℕ). mem n ks) q ∙ once.0) ∙ ap not (sym (own true q)))
    go later true e (inr t) = rw e (later true t)
    go later false e (inl q) = rw e (ap (λ (n : ℕ). mem k (n ∷ left_out ks g)) (sym q) ∙ mem-here k (left_out ks g) ∙ ap not (sym (own false q)))
    go later false e (inr t) =
        let other : eqb k x ≡ false = false_of (eqb k x) (λ w. never (subst (λ (n : ℕ). mem n ks ≡ true) (eqb-true k x w) t) once.0) in
        rw (e, other) (later false t)

-- A number x is in block a of 2 ^ n numbers; the lower half of the block is block 2 a of half the size, the upper half block 2 a + 1.
half_block : (n x : ℕ) → x / 2 ^ suc n ≡ x / 2 ^ n / 2
half_block n x = ap (λ (m : ℕ). x / m) (pow-suc 2 n) ∙ sym (div-div-eq-div-mul x (2 ^ n) 2)

-- the highest bit tells the halves apart
lower_bit : (n x a : ℕ) → x / 2 ^ n ≡ a * 2 → bit x n ≡ false
lower_bit n x a e = bit_shifted n x ∙ ap (λ (m : ℕ). eqb m 1) (ap (λ (m : ℕ). m % 2) e ∙ even a)
  where
    even : (m : ℕ) → m * 2 % 2 ≡ 0
    even m = omega arith

upper_bit : (n x a : ℕ) → x / 2 ^ n ≡ a * 2 + 1 → bit x n ≡ true
upper_bit n x a e = bit_shifted n x ∙ ap (λ (m : ℕ). eqb m 1) (ap (λ (m : ℕ). m % 2) e ∙ odd a)
  where
    odd : (m : ℕ) → (m * 2 + 1) % 2 ≡ 1
    odd m = omega arith

module _ (ok : FactSet → Bool) where
  -- Where no guess of the block passes, nothing is found; ..
  block_none : (ks : List ℕ) (G : FactSet) (a : ℕ) → ((x : ℕ) → x / 2 ^ length ks ≡ a → ok (guess_at ks G x) ≡ false) → ◌≡◌ {A = Option FactSet} (hunt ok ks G) none
  block_none [] G a h = rw (h a (omega arith), hunt) refl
  block_none (k ∷ ks) G a h =
      rw (block_none ks G (a * 2) (λ x e. lower x e), hunt)
      (block_none ks (adjoin G k) (a * 2 + 1) (λ x e. upper x e))
    where
      lower : (x : ℕ) → x / 2 ^ length ks ≡ a * 2 → ok (guess_at ks G x) ≡ false
      lower x e =
          let q : a * 2 / 2 ≡ a = omega arith in
          let r : ok (guess_at (k ∷ ks) G x) ≡ false = h x (half_block (length ks) x ∙ ap (λ (m : ℕ). m / 2) e ∙ q) in
          subst (λ (b : Bool). ok (guess_at ks (taking G k b) x) ≡ false) (lower_bit (length ks) x a e) r

      upper : (x : ℕ) → x / 2 ^ length ks ≡ a * 2 + 1 → ok (guess_at ks (adjoin G k) x) ≡ false
      upper x e =
          let q : (a * 2 + 1) / 2 ≡ a = omega arith in
          let r : ok (guess_at (k ∷ ks) G x) ≡ false = h x (half_block (length ks) x ∙ ap (λ (m : ℕ). m / 2) e ∙ q) in
          subst (λ (b : Bool). ok (guess_at ks (taking G k b) x) ≡ false) (upper_bit (length ks) x a e) r

  -- .. and else the first that passes.
  block_first : (ks : List ℕ) (G : FactSet) (a g : ℕ) → g / 2 ^ length ks ≡ a → ok (guess_at ks G g) ≡ true → ((x : ℕ) → x / 2 ^ length ks ≡ a → x < g → ok (guess_at ks G x) ≡ false) → hunt ok ks G ≡ some (guess_at ks G g)
  block_first [] G a g e t h = rw (t, hunt) refl
  block_first (k ∷ ks) G a g e t h = go (digit-cases (g / 2 ^ length ks % 2) (mod-lt (g / 2 ^ length ks) (zero-lt-suc 1)))
      (λ q. block_first ks G (a * 2) g q) (λ q. block_first ks (adjoin G k) (a * 2 + 1) g q)
    where
      halves : g / 2 ^ length ks ≡ a * 2 + g / 2 ^ length ks % 2
      halves = sym (div-add-mod' (g / 2 ^ length ks) 2) ∙ ap (λ (m : ℕ). m * 2 + g / 2 ^ length ks % 2) (sym (half_block (length ks) g) ∙ e)

      -- the number stands in the block, by its half
      at-half : (x : ℕ) (d : ℕ) → d < 2 → x / 2 ^ length ks ≡ a * 2 + d → x / 2 ^ suc (length ks) ≡ a
      at-half x d l q = let r : (a * 2 + d) / 2 ≡ a = omega arith in half_block (length ks) x ∙ ap (λ (m : ℕ). m / 2) q ∙ r

      no_digit : a * 2 ≡ a * 2 + 0
      no_digit = omega arith

      go : (g / 2 ^ length ks % 2 ≡ 0) ⊎ (g / 2 ^ length ks % 2 ≡ 1)
          → (g / 2 ^ length ks ≡ a * 2 → ok (guess_at ks G g) ≡ true → ((x : ℕ) → x / 2 ^ length ks ≡ a * 2 → x < g → ok (guess_at ks G x) ≡ false) → hunt ok ks G ≡ some (guess_at ks G g))
          → (g / 2 ^ length ks ≡ a * 2 + 1 → ok (guess_at ks (adjoin G k) g) ≡ true → ((x : ℕ) → x / 2 ^ length ks ≡ a * 2 + 1 → x < g → ok (guess_at ks (adjoin G k) x) ≡ false) → hunt ok ks (adjoin G k) ≡ some (guess_at ks (adjoin G k) g))
          → hunt ok (k ∷ ks) G ≡ some (guess_at (k ∷ ks) G g)
      go (inl z) first second =
          let q : g / 2 ^ length ks ≡ a * 2 = halves ∙ ap (λ (m : ℕ). a * 2 + m) z ∙ sym no_digit in
          let b : bit g (length ks) ≡ false = lower_bit (length ks) g a q in
          let t' : ok (guess_at ks G g) ≡ true = subst (λ (c : Bool). ok (guess_at ks (taking G k c) g) ≡ true) b t in
          let r : hunt ok ks G ≡ some (guess_at ks G g) =
          first q t' (λ x p l. subst (λ (c : Bool). ok (guess_at ks (taking G k c) x) ≡ false) (lower_bit (length ks) x a p) (h x (at-half x 0 (omega arith) (p ∙ no_digit)) l)) in
          rw (r, hunt) (ap (λ (c : Bool). some (guess_at ks (taking G k c) g)) (sym b))
      go (inr o) first second =
          let q : g / 2 ^ length ks ≡ a * 2 + 1 = halves ∙ ap (λ (m : ℕ). a * 2 + m) o in
          let b : bit g (length ks) ≡ true = upper_bit (length ks) g a q in
          let t' : ok (guess_at ks (adjoin G k) g) ≡ true = subst (λ (c : Bool). ok (guess_at ks (taking G k c) g) ≡ true) b t in
          let none_lower : ◌≡◌ {A = Option FactSet} (hunt ok ks G) none =
          block_none ks G (a * 2)
          (λ x p. subst (λ (c : Bool). ok (guess_at ks (taking G k c) x) ≡ false) (lower_bit (length ks) x a p) (h x (at-half x 0 (omega arith) (p ∙ no_digit)) (before x (rw p (rw q (omega arith)))))) in
          let r : hunt ok ks (adjoin G k) ≡ some (guess_at ks (adjoin G k) g) =
          second q t' (λ x p l. subst (λ (c : Bool). ok (guess_at ks (taking G k c) x) ≡ false) (upper_bit (length ks) x a p) (h x (at-half x 1 (omega arith) p) l)) in
          rw (none_lower, hunt) (r ∙ ap (λ (c : Bool). some (guess_at ks (taking G k c) g)) (sym b))
        where
          before : (x : ℕ) → x / 2 ^ length ks < g / 2 ^ length ks → x < g
          before x l = by_cases (dec_lt x g) (λ m. m) (λ n. let m : g / 2 ^ length ks ≤ x / 2 ^ length ks = shr_mono (length ks) (omega arith) in absurd (omega arith))

  -- The hunt takes the first guess that passes, in ascending order, where there is one.
  pub hunt-first : (ks : List ℕ) (G : FactSet) (g : ℕ) → ok (guess_at ks G g) ≡ true → ((x : ℕ) → x < g → ok (guess_at ks G x) ≡ false) → hunt ok ks G ≡ some (guess_at ks G g)
  hunt-first ks G g t h = block_first ks G (g / 2 ^ length ks) g refl t (λ x e m. h x m)

  pub hunt-none : (ks : List ℕ) (G : FactSet) → ((x : ℕ) → x < 2 ^ length ks → ok (guess_at ks G x) ≡ false) → ◌≡◌ {A = Option FactSet} (hunt ok ks G) none
  hunt-none ks G h = block_none ks G 0 (λ x e. h x (below x e))
    where
      below : (x : ℕ) → x / 2 ^ length ks ≡ 0 → x < 2 ^ length ks
      below x e =
          let l : x / 2 ^ length ks < 1 = rw e (omega arith) in
          let m : x < 1 * 2 ^ length ks = (div-lt_iff_lt-mul (pow_pos (length ks))).0 l in
          omega arith

module _ (P : Program) (on : Mask) (ks : List ℕ) (G : FactSet) (row : GuessRow P on ks G) where
  -- A guess fits where each fact of the row is derived by it exactly if it is in it.
  pub fits-where : (g : ℕ) → ((j : ℕ) → j < length ks → least_of P on (guess_at ks G g) (fact_at ks j) ≡ bit g j) → fits P on (guess_at ks G g) ≡ true
  unfolding fits
  fits-where g h = all_of (λ k. beq (least_of P on (guess_at ks G g) k) (guess_at ks G g k)) (guessed P on) (λ k m. beq-refl _ _ (go k m (mem k ks) refl))
    where
      go : (k : ℕ) → mem k (guessed P on) ≡ true → (b : Bool) → mem k ks ≡ b → least_of P on (guess_at ks G g) k ≡ guess_at ks G g k
      go k m true e =
          let w : (j : ℕ) × (j < length ks) × (fact_at ks j ≡ k) = bit-of ks k e in
          sym (ap (least_of P on (guess_at ks G g)) w.2) ∙ h w.0 w.1 ∙ sym (guess-at ks G g w.0 row.once row.free w.1) ∙ ap (guess_at ks G g) w.2
      go k m false e = row.sure g k m e ∙ sym (guess_off ks G g k e)

  -- It does not where one is not so.
  pub fits-apart : (g j : ℕ) → j < length ks → least_of P on (guess_at ks G g) (fact_at ks j) ≡ not (bit g j) → fits P on (guess_at ks G g) ≡ false
  unfolding fits
  fits-apart g j l e =
      false_of _
      (λ t. unequal (bit g j)
      (sym e
      ∙ beq-true _ _ (all-elem (λ k. beq (least_of P on (guess_at ks G g) k) (guess_at ks G g k)) (guessed P on) t (fact_at ks j) (row.asked (fact_at ks j) (fact-in ks j l)))
      ∙ guess-at ks G g j row.once row.free l))
    where
      unequal : (b : Bool) → not b ≡ b → ⊥
      unequal true q = never q refl
      unequal false q = never refl q

  -- A fact that is derived though it is not guessed refutes every guess within this one, ..
  pub refutes_within : (s j : ℕ) → j < length ks → bit s j ≡ false → least_of P on (guess_at ks G s) (fact_at ks j) ≡ true → (x : ℕ) → ((i : ℕ) → i < length ks → bit x i ≡ true → bit s i ≡ true) → fits P on (guess_at ks G x) ≡ false
  refutes_within s j l out derived x within =
      let o : bit x j ≡ false = false_of (bit x j) (λ t. never (within j l t) out) in
      fits-apart x j l
      (least_anti P on (guess_at ks G x) (guess_at ks G s) (guess_mono ks G G x s (λ f t. t) within) (fact_at ks j) derived ∙ sym (ap not o))

  -- .. and one that is guessed and not derived every guess that contains this one.
  pub refutes_above : (s j : ℕ) → j < length ks → bit s j ≡ true → least_of P on (guess_at ks G s) (fact_at ks j) ≡ false → (x : ℕ) → ((i : ℕ) → i < length ks → bit s i ≡ true → bit x i ≡ true) → fits P on (guess_at ks G x) ≡ false
  refutes_above s j l inside missing x above =
      let i : bit x j ≡ true = above j l inside in
      fits-apart x j l
      (false_of _ (λ t. never (least_anti P on (guess_at ks G s) (guess_at ks G x) (guess_mono ks G G s x (λ f u. u) above) (fact_at ks j) t) missing) ∙ sym (ap not i))
