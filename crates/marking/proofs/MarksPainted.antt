-- Marks and sets: marks painted by a test, and the sets that marks show.
use Prim.Native.Nat.{ℕ, zero, suc, ◌+◌, ◌≤◌, ◌<◌}
use mathlib.Core.Path.{◌≡◌, refl, sym, ap, ap₂, fun_ext, ◌∙◌}
use mathlib.Core.Bool.{Bool, true, false, cond, not, ◌||◌}
use mathlib.Core.List.{List, [], ◌∷◌}
use mathlib.Core.Logic.{⊎_elim}
use native.Mathlib.Omega.{arith}
use native.Mathlib.Nat.{add-zero, zero-add}
use borrow.Author.Tests.{eq-eqb, ne_eqb, eqb-true, eqb-false, ltb-true, ltb-false}
use lib.ListN.{length, get_or, set, replicate, get_or-replicate, length-replicate, get_or-eq_default}
use lib.Seq.{get_or-set_same, get_or-set_other}
use lib.Dec.{eqb, ltb}
use Rattle.theory.specs.Rule.{FactSet, Sub, nothing, adjoin}
use Rattle.theory.proofs.Bools.{either, never, false_of}
use Rattle.items.specs.Item.{has}
use Rattle.marking.specs.Marks.{barred, barred_in, paint_from, paint_as, paint}

-- Painting with any mark.
module _ (v : ℕ) where
  paint-or : (i : ℕ) (a b : ℕ → Bool) (xs : List ℕ) → paint_from v i (λ k. a k || b k) xs ≡ paint_from v i b (paint_from v i a xs)
  paint-or i a b [] = refl
  paint-or i a b (x ∷ xs) = ap₂ (λ (y : ℕ) (ys : List ℕ). y ∷ ys) (head (a i) (b i)) (paint-or (suc i) a b xs)
    where
      head : (p q : Bool) → cond (p || q) v x ≡ cond q v (cond p v x)
      head true true = refl
      head true false = refl
      head false q = refl

  -- Painting by two tests is painting by one after the other.
  pub both_tests : (a b : ℕ → Bool) (xs : List ℕ) → paint_as v (λ k. a k || b k) xs ≡ paint_as v b (paint_as v a xs)
  both_tests a b xs = paint-or 0 a b xs

  pub no_test : (i : ℕ) (xs : List ℕ) → paint_from v i (λ k. false) xs ≡ xs
  no_test i [] = refl
  no_test i (x ∷ xs) = ap (λ (ys : List ℕ). x ∷ ys) (no_test (suc i) xs)

  pub same_test : (p q : ℕ → Bool) (xs : List ℕ) → ((k : ℕ) → p k ≡ q k) → paint_as v p xs ≡ paint_as v q xs
  same_test p q xs h = ap (λ (t : ℕ → Bool). paint_as v t xs) (fun_ext h)

  passed : (i n : ℕ) (xs : List ℕ) → n < i → paint_from v i (λ k. eqb k n) xs ≡ xs
  passed i n [] h = refl
  passed i n (x ∷ xs) h =
      let off : eqb i n ≡ false = ne_eqb i n (λ e. omega arith) in
      rw off (ap (λ (ys : List ℕ). x ∷ ys) (passed (suc i) n xs (omega arith)))

  one_place : (i n : ℕ) (xs : List ℕ) (j : ℕ) → n ≡ i + j → set xs j v ≡ paint_from v i (λ k. eqb k n) xs
  one_place i n [] j e = refl
  one_place i n (x ∷ xs) zero e =
      let on : eqb i n ≡ true = eq-eqb i n (omega arith) in
      rw on (ap (λ (ys : List ℕ). v ∷ ys) (sym (passed (suc i) n xs (omega arith))))
  one_place i n (x ∷ xs) (suc j) e =
      let off : eqb i n ≡ false = ne_eqb i n (λ q. omega arith) in
      rw off (ap (λ (ys : List ℕ). x ∷ ys) (one_place (suc i) n xs j (omega arith)))

  -- A store of the mark paints one place.
  pub one_mark : (xs : List ℕ) (n : ℕ) → set xs n v ≡ paint_as v (λ k. eqb k n) xs
  one_mark xs n = one_place 0 n xs n (omega arith)

  painted_from : (i : ℕ) (p : ℕ → Bool) (xs : List ℕ) (j : ℕ) → j < length xs → get_or (paint_from v i p xs) j 0 ≡ cond (p (i + j)) v (get_or xs j 0)
  painted_from i p [] j h = absurd (omega arith)
  painted_from i p (x ∷ xs) zero h = rw add-zero
  painted_from i p (x ∷ xs) (suc j) h =
      let next : suc i + j ≡ i + suc j = omega arith in
      painted_from (suc i) p xs j (omega arith) ∙ ap (λ (k : ℕ). cond (p k) v (get_or xs j 0)) next

  painted_length : (i : ℕ) (p : ℕ → Bool) (l : List ℕ) → length (paint_from v i p l) ≡ length l
  painted_length i p [] = refl
  painted_length i p (x ∷ l) = ap suc (painted_length (suc i) p l)

  pub length-paint : (p : ℕ → Bool) (l : List ℕ) → length (paint_as v p l) ≡ length l
  length-paint p l = painted_length 0 p l

  -- What a test of marks says of painted marks: at the places painted what it says of the mark, elsewhere what it said.
  pub tested : (t : ℕ → Bool) → t 0 ≡ false → (p : ℕ → Bool) (l : List ℕ) → ((f : ℕ) → p f ≡ true → f < length l) → (f : ℕ) → t (get_or (paint_as v p l) f 0) ≡ cond (p f) (t v) (t (get_or l f 0))
  tested t z p l low f = ⊎_elim (λ h. inside (ltb-true f _ h)) (λ h. outside (ltb-false f _ h)) (either (ltb f (length l)))
    where
      choice : (b : Bool) (x : ℕ) → t (cond b v x) ≡ cond b (t v) (t x)
      choice true x = refl
      choice false x = refl

      inside : f < length l → t (get_or (paint_as v p l) f 0) ≡ cond (p f) (t v) (t (get_or l f 0))
      inside h =
          let same : 0 + f ≡ f = omega arith in
          ap t (painted_from 0 p l f h ∙ ap (λ (k : ℕ). cond (p k) v (get_or l f 0)) same) ∙ choice (p f) (get_or l f 0)

      outside : length l ≤ f → t (get_or (paint_as v p l) f 0) ≡ cond (p f) (t v) (t (get_or l f 0))
      outside h =
          let past : length (paint_as v p l) ≤ f = rw (length-paint p l) h in
          let out : p f ≡ false = false_of (p f) (λ q. absurd (omega (arith, low f q))) in
          rw (out, get_or-eq_default (paint_as v p l) 0 past, get_or-eq_default l 0 h)

-- A painted table of zeros has 1 exactly where the test passes, and 0 elsewhere.
painted_mark : (n : ℕ) (p : ℕ → Bool) (j : ℕ) → j < n → get_or (paint p (replicate n 0)) j 0 ≡ cond (p j) 1 0
painted_mark n p j h =
    painted_from 1 0 p (replicate n 0) j (simp length-replicate h)
    ∙ ap₂ (λ (k m : ℕ). cond (p k) 1 m) (zero-add j) (get_or-replicate n j 0 0 h)

pub painted : (n : ℕ) (p : ℕ → Bool) (j : ℕ) → j < n → eqb (get_or (paint p (replicate n 0)) j 0) 1 ≡ p j
painted n p j h = rw (painted_mark n p j h) (bit (p j))
  where
    bit : (b : Bool) → eqb (cond b 1 0) 1 ≡ b
    bit true = refl
    bit false = refl

pub unpainted : (n : ℕ) (p : ℕ → Bool) (j : ℕ) → j < n → eqb (get_or (paint p (replicate n 0)) j 0) 0 ≡ not (p j)
unpainted n p j h = rw (painted_mark n p j h) (bit (p j))
  where
    bit : (b : Bool) → eqb (cond b 1 0) 0 ≡ not b
    bit true = refl
    bit false = refl

-- The mark at a place tells whether it is in the set.
module _ (marks : List ℕ) (k : ℕ) where
  pub marked-at : get_or marks k 0 ≡ 1 → has marks k ≡ true
  unfolding has
  marked-at e = rw e refl

  pub unmarked_at : (get_or marks k 0 ≡ 1 → ⊥) → has marks k ≡ false
  unfolding has
  unmarked_at n = ne_eqb (get_or marks k 0) 1 n

-- A place past the end is not in the set.
pub past_end : (l : List ℕ) (f : ℕ) → length l ≤ f → has l f ≡ false
unfolding has
past_end l f h = rw (get_or-eq_default l 0 h)

-- A mark more is a number more.
pub has-set : (l : List ℕ) (n : ℕ) → n < length l → has (set l n 1) ≡ adjoin (has l) n
unfolding has
has-set l n h = fun_ext (λ i. go i (eqb i n) refl)
  where
    go : (i : ℕ) (b : Bool) → eqb i n ≡ b → eqb (get_or (set l n 1) i 0) 1 ≡ eqb i n || eqb (get_or l i 0) 1
    go i true e = let same : i ≡ n = eqb-true i n e in rw (e, same, get_or-set_same l n 1 0 h)
    go i false e = rw (e, get_or-set_other l n i 1 0 (eqb-false i n e))

-- Zeros are the empty set.
pub unmarked : (n : ℕ) → has (replicate n 0) ≡ nothing
unfolding has
unmarked n = fun_ext (λ i. go n i)
  where
    go : (m i : ℕ) → eqb (get_or (replicate m 0) i 0) 1 ≡ false
    go zero i = refl
    go (suc m) zero = refl
    go (suc m) (suc i) = go m i

-- A table of zeros painted by a test that passes only below its length is the set of those that pass.
pub has-paint : (n : ℕ) (p : ℕ → Bool) → ((i : ℕ) → n ≤ i → p i ≡ false) → has (paint p (replicate n 0)) ≡ p
unfolding has
has-paint n p none_past = fun_ext (λ i. ⊎_elim (λ l. painted n p i (ltb-true i n l)) (λ l. outside i (ltb-false i n l)) (either (ltb i n)))
  where
    outside : (i : ℕ) → n ≤ i → has (paint p (replicate n 0)) i ≡ p i
    outside i h =
        past_end (paint p (replicate n 0)) i (rw (length-paint 1 p (replicate n 0), length-replicate {A = ℕ} n 0) h) ∙ sym (none_past i h)

painted_self : (i : ℕ) (p : ℕ → Bool) (xs : List ℕ) → ((j : ℕ) → p (i + j) ≡ eqb (get_or xs j 0) 1) → paint_from 1 i p xs ≡ xs
painted_self i p [] h = refl
painted_self i p (x ∷ xs) h = ap₂ (λ (y : ℕ) (ys : List ℕ). y ∷ ys) (first (p i) (here)) (painted_self (suc i) p xs later)
  where
    here : p i ≡ eqb x 1
    here = ap p (sym (add-zero i)) ∙ h 0

    first : (b : Bool) → b ≡ eqb x 1 → cond b 1 x ≡ x
    first true e = sym (eqb-true x 1 (sym e))
    first false e = refl

    later : (j : ℕ) → p (suc i + j) ≡ eqb (get_or xs j 0) 1
    later j = let next : suc i + j ≡ i + suc j = omega arith in ap p next ∙ h (suc j)

-- A set painted with what it holds is as it was.
pub paint-self : (l : List ℕ) → paint (has l) l ≡ l
unfolding has
paint-self l = painted_self 0 (has l) l (λ j. let same : 0 + j ≡ j = omega arith in ap (has l) same)

-- A fact that is painted anyway may be marked before.
pub paint-marked : (p : ℕ → Bool) (l : List ℕ) (f : ℕ) → p f ≡ true → paint p (set l f 1) ≡ paint p l
paint-marked p l f e =
    ap (paint p) (one_mark 1 l f) ∙ sym (both_tests 1 (λ k. eqb k f) p l) ∙ same_test 1 _ p l (λ k. once k (eqb k f) refl)
  where
    once : (k : ℕ) (b : Bool) → eqb k f ≡ b → b || p k ≡ p k
    once k true q = sym (ap p (eqb-true k f q) ∙ e)
    once k false q = refl

-- A set painted with a larger one that has nothing past its end is that larger one.
pub has-painted : (p : FactSet) (l : List ℕ) → Sub (has l) p → ((f : ℕ) → length l ≤ f → p f ≡ false) → has (paint p l) ≡ p
unfolding has
has-painted p l above past = fun_ext (λ f. tested 1 (λ x. eqb x 1) refl p l low f ∙ mark (p f) (has l f) (above f))
  where
    low : (f : ℕ) → p f ≡ true → f < length l
    low f q = ⊎_elim (λ h. ltb-true f _ h) (λ h. never q (past f (ltb-false f _ h))) (either (ltb f (length l)))

    mark : (b c : Bool) → (c ≡ true → b ≡ true) → cond b true c ≡ b
    mark true c h = refl
    mark false c h = false_of c (λ t. never (h t) refl)

-- Bars leave a set as it is, where none of its facts is barred; a set leaves the bars as they are, where none of them is painted.
pub has-barred : (p : FactSet) (l : List ℕ) → ((f : ℕ) → p f ≡ true → f < length l) → ((f : ℕ) → p f ≡ true → has l f ≡ false) → has (paint_as barred p l) ≡ has l
unfolding has
has-barred p l low out = fun_ext (λ f. tested barred (λ x. eqb x 1) refl p l low f ∙ mark (p f) (has l f) (out f))
  where
    mark : (b c : Bool) → (b ≡ true → c ≡ false) → cond b false c ≡ c
    mark true c h = sym (h refl)
    mark false c h = refl

pub barred-more : (p : FactSet) (l : List ℕ) → ((f : ℕ) → p f ≡ true → f < length l) → (f : ℕ) → barred_in (paint_as barred p l) f ≡ p f || barred_in l f
unfolding barred_in
barred-more p l low f = tested barred (λ x. eqb x barred) refl p l low f ∙ mark (p f) (barred_in l f)
  where
    mark : (b c : Bool) → cond b true c ≡ b || c
    mark true c = refl
    mark false c = refl

pub barred-kept : (p : FactSet) (l : List ℕ) → ((f : ℕ) → p f ≡ true → f < length l) → ((f : ℕ) → p f ≡ true → barred_in l f ≡ false) → barred_in (paint p l) ≡ barred_in l
unfolding barred_in
barred-kept p l low out = fun_ext (λ f. tested 1 (λ x. eqb x barred) refl p l low f ∙ mark (p f) (barred_in l f) (out f))
  where
    mark : (b c : Bool) → (b ≡ true → c ≡ false) → cond b false c ≡ c
    mark true c h = sym (h refl)
    mark false c h = refl

-- A fact has one mark: none is in the set and barred.
pub one_mark_each : (l : List ℕ) (f : ℕ) → has l f ≡ true → barred_in l f ≡ false
unfolding has barred_in
one_mark_each l f t = rw (eqb-true (get_or l f 0) 1 t)

-- A mark more bars as much, where the fact is not barred.
pub bars-kept : (l : List ℕ) (f : ℕ) → f < length l → barred_in l f ≡ false → barred_in (set l f 1) ≡ barred_in l
bars-kept l f h out =
    ap barred_in (one_mark 1 l f)
    ∙ barred-kept (λ k. eqb k f) l (λ k t. let same : k ≡ f = eqb-true k f t in omega arith) (λ k t. let same : k ≡ f = eqb-true k f t in rw same out)
