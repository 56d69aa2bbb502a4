-- Laws of the tests over lists.
use Prim.Native.Nat.{ℕ, zero, suc, ◌+◌, ◌-◌, ◌≤◌, ◌<◌}
use native.Mathlib.Omega.{arith}
use native.Mathlib.Nat.{add-zero, zero-add}
use native.Mathlib.Numerals.{add-one}
use mathlib.Core.Path.{◌≡◌, refl, sym, ◌∙◌, ap, ap₂, subst}
use mathlib.Core.Bool.{Bool, true, false, not, cond, ◌&&◌, ◌||◌}
use mathlib.Core.List.{List, [], ◌∷◌, ◌++◌, map}
use mathlib.Core.Logic.{◌⊎◌, inl, inr, ⊎_elim, ◌≢◌}
use mathlib.Core.Option.{Option, none, some}
use borrow.Author.Tests.{eqb-true, eqb-false, eq-eqb, lt-ltb, le-ltb, ltb-true}
use lib.ListN.{length, get_or, replicate, length-map}
use lib.Dec.{eqb, ltb}
use Rattle.theory.specs.Rule.{all, clear, any, mem, keep, range, up_to, how_many}
use Rattle.theory.specs.Lists.{seek, down_from}
use Rattle.theory.proofs.Bools.{either, never, and_left, and_right, and_both, or_left, or_right, or_cases, or-false_left, or-false_right, not_of_false, false_of_not, false_of, both_ways}

pub eqb-self : (n : ℕ) → eqb n n ≡ true
eqb-self n = eq-eqb n n refl

pub mem-here : (x : ℕ) (xs : List ℕ) → mem x (x ∷ xs) ≡ true
mem-here x xs = or_left _ _ (eqb-self x)

pub mem-there : (x y : ℕ) (xs : List ℕ) → mem x xs ≡ true → mem x (y ∷ xs) ≡ true
mem-there x y xs p = or_right (eqb x y) _ p

pub mem-cases : (x y : ℕ) (xs : List ℕ) → mem x (y ∷ xs) ≡ true → (x ≡ y) ⊎ (mem x xs ≡ true)
mem-cases x y xs p = ⊎_elim (λ e. inl (eqb-true x y e)) (λ e. inr e) (or_cases (eqb x y) _ p)

pub all-elem : (p : ℕ → Bool) (xs : List ℕ) → all p xs ≡ true → (x : ℕ) → mem x xs ≡ true → p x ≡ true
all-elem p [] h x m = never m refl
all-elem p (y ∷ ys) h x m =
    ⊎_elim (λ e. rw e (and_left (p y) _ h)) (λ e. all-elem p ys (and_right (p y) _ h) x e) (mem-cases x y ys m)

pub all_of : (p : ℕ → Bool) (xs : List ℕ) → ((x : ℕ) → mem x xs ≡ true → p x ≡ true) → all p xs ≡ true
all_of p [] h = refl
all_of p (y ∷ ys) h =
    and_both (h y (mem-here y ys)) (all_of p ys (λ x m. h x (mem-there x y ys m)))

pub all-mono : (p q : ℕ → Bool) (xs : List ℕ) → ((x : ℕ) → p x ≡ true → q x ≡ true) → all p xs ≡ true → all q xs ≡ true
all-mono p q xs h a = all_of q xs (λ x m. h x (all-elem p xs a x m))

-- the test fails at some element
pub all-fails : (p : ℕ → Bool) (xs : List ℕ) → all p xs ≡ false → (x : ℕ) × (mem x xs ≡ true) × (p x ≡ false)
all-fails p [] h = never refl h
all-fails p (y ∷ ys) h = go (p y) refl (all-fails p ys)
  where
    go : (b : Bool) → p y ≡ b → (all p ys ≡ false → (x : ℕ) × (mem x ys ≡ true) × (p x ≡ false)) → (x : ℕ) × (mem x (y ∷ ys) ≡ true) × (p x ≡ false)
    go false e r = (y, mem-here y ys, e)
    go true e r =
        let t : (x : ℕ) × (mem x ys ≡ true) × (p x ≡ false) = r (rw e at h) in
        (t.0, mem-there t.0 y ys t.1, t.2)

pub all-ext : (p q : ℕ → Bool) (xs : List ℕ) → ((x : ℕ) → mem x xs ≡ true → p x ≡ q x) → all p xs ≡ all q xs
all-ext p q xs h =
    both_ways _ _
    (λ a. all_of q xs (λ x m. sym (h x m) ∙ all-elem p xs a x m))
    (λ a. all_of p xs (λ x m. h x m ∙ all-elem q xs a x m))

pub clear-elem : (p : ℕ → Bool) (xs : List ℕ) → clear p xs ≡ true → (x : ℕ) → mem x xs ≡ true → p x ≡ false
clear-elem p xs h x m = false_of_not (p x) (all-elem (λ y. not (p y)) xs h x m)

pub clear_of : (p : ℕ → Bool) (xs : List ℕ) → ((x : ℕ) → mem x xs ≡ true → p x ≡ false) → clear p xs ≡ true
clear_of p xs h = all_of (λ y. not (p y)) xs (λ x m. not_of_false (h x m))

-- a smaller set is clear of whatever a larger one is clear of
pub clear-anti : (p q : ℕ → Bool) (xs : List ℕ) → ((x : ℕ) → p x ≡ true → q x ≡ true) → clear q xs ≡ true → clear p xs ≡ true
clear-anti p q xs h c =
    clear_of p xs (λ x m. false_of (p x) (λ t. never (h x t) (clear-elem q xs c x m)))

pub clear-ext : (p q : ℕ → Bool) (xs : List ℕ) → ((x : ℕ) → mem x xs ≡ true → p x ≡ q x) → clear p xs ≡ clear q xs
clear-ext p q xs h = all-ext (λ y. not (p y)) (λ y. not (q y)) xs (λ x m. ap not (h x m))

pub any-witness : (p : ℕ → Bool) (xs : List ℕ) → any p xs ≡ true → (x : ℕ) × (mem x xs ≡ true) × (p x ≡ true)
any-witness p [] h = never h refl
any-witness p (y ∷ ys) h =
    ⊎_elim
    (λ e. (y, mem-here y ys, e))
    (λ e. ((any-witness p ys e).0, mem-there _ y ys (any-witness p ys e).1, (any-witness p ys e).2))
    (or_cases (p y) _ h)

pub any_of : (p : ℕ → Bool) (xs : List ℕ) (x : ℕ) → mem x xs ≡ true → p x ≡ true → any p xs ≡ true
any_of p [] x m h = never m refl
any_of p (y ∷ ys) x m h =
    ⊎_elim
    (λ e. or_left (p y) _ (rw (← e) h))
    (λ e. or_right (p y) _ (any_of p ys x e h))
    (mem-cases x y ys m)

pub all_append : (p : ℕ → Bool) (xs ys : List ℕ) → all p (xs ++ ys) ≡ all p xs && all p ys
all_append p [] ys = refl
all_append p (x ∷ xs) ys = go (p x) (all_append p xs ys)
  where
    go : (b : Bool) → all p (xs ++ ys) ≡ all p xs && all p ys → b && all p (xs ++ ys) ≡ b && all p xs && all p ys
    go true e = e
    go false e = refl

pub any_append : (p : ℕ → Bool) (xs ys : List ℕ) → any p (xs ++ ys) ≡ any p xs || any p ys
any_append p [] ys = refl
any_append p (x ∷ xs) ys = go (p x) (any_append p xs ys)
  where
    go : (b : Bool) → any p (xs ++ ys) ≡ any p xs || any p ys → b || any p (xs ++ ys) ≡ b || any p xs || any p ys
    go true e = refl
    go false e = e

pub mem-append : (x : ℕ) (xs ys : List ℕ) → mem x (xs ++ ys) ≡ mem x xs || mem x ys
mem-append x xs ys = any_append (eqb x) xs ys

-- The same elements pass where the tests agree on each.
pub keep_same : (p q : ℕ → Bool) (xs : List ℕ) → ((x : ℕ) → mem x xs ≡ true → p x ≡ q x) → keep p xs ≡ keep q xs
keep_same p q [] h = refl
keep_same p q (x ∷ xs) h =
    ap₂ (λ (b : Bool) (l : List ℕ). cond b (x ∷ l) l) (h x (mem-here x xs)) (keep_same p q xs (λ y m. h y (mem-there y x xs m)))

pub mem-keep : (p : ℕ → Bool) (xs : List ℕ) (x : ℕ) → mem x (keep p xs) ≡ mem x xs && p x
mem-keep p xs x = both_ways _ _ (into xs) (back xs)
  where
    into : (ys : List ℕ) → mem x (keep p ys) ≡ true → mem x ys && p x ≡ true
    into [] h = never h refl
    into (y ∷ ys) h = go (p y) refl (into ys)
      where
        go : (b : Bool) → p y ≡ b → (mem x (keep p ys) ≡ true → mem x ys && p x ≡ true) → mem x (y ∷ ys) && p x ≡ true
        go true e r =
            let m : mem x (y ∷ keep p ys) ≡ true = rw e at h in
            ⊎_elim
            (λ w. and_both {a = mem x (y ∷ ys)} {b = p x} (subst (λ (z : ℕ). mem z (y ∷ ys) ≡ true) (sym w) (mem-here y ys)) (rw w e))
            (λ w. and_both (mem-there x y ys (and_left _ _ (r w))) (and_right (mem x ys) _ (r w)))
            (mem-cases x y (keep p ys) m)
        go false e r =
            let m : mem x (keep p ys) ≡ true = rw e at h in
            and_both (mem-there x y ys (and_left _ _ (r m))) (and_right (mem x ys) _ (r m))

    back : (ys : List ℕ) → mem x ys && p x ≡ true → mem x (keep p ys) ≡ true
    back [] h = h
    back (y ∷ ys) h = go (p y) refl (back ys) (mem-cases x y ys (and_left _ _ h)) (and_right (mem x (y ∷ ys)) _ h)
      where
        go : (b : Bool) → p y ≡ b → (mem x ys && p x ≡ true → mem x (keep p ys) ≡ true) → (x ≡ y) ⊎ (mem x ys ≡ true) → p x ≡ true → mem x (keep p (y ∷ ys)) ≡ true
        go true e r c t = rw e (⊎_elim (λ w. subst (λ (z : ℕ). mem z (y ∷ keep p ys) ≡ true) (sym w) (mem-here y (keep p ys))) (λ w. mem-there x y (keep p ys) (r (and_both w t))) c)
        go false e r c t = rw e (⊎_elim (λ w. never (rw w at t) e) (λ w. r (and_both w t)) c)

-- what is found passes, is an element, and stands at a place before which nothing passes
pub record Found (p : ℕ → Bool) (xs : List ℕ) (x : ℕ) : Type 0 where
  pub place : ℕ
  pub inside : place < length xs
  pub is : get_or xs place 0 ≡ x
  pub passes : p x ≡ true
  pub element : mem x xs ≡ true
  pub none_before : (j : ℕ) → j < place → p (get_or xs j 0) ≡ false

pub seek-some : (p : ℕ → Bool) (xs : List ℕ) (x : ℕ) → seek p xs ≡ some x → Found p xs x
seek-some p [] x h = let z : ◌≡◌ {A = ℕ} 0 1 = cc in absurd (omega arith)
seek-some p (y ∷ ys) x h = go (p y) refl (seek-some p ys x)
  where
    go : (b : Bool) → p y ≡ b → (seek p ys ≡ some x → Found p ys x) → Found p (y ∷ ys) x
    go true e r =
        let s : some y ≡ some x = rw (e, seek) at h in
        let q : y ≡ x = cc in
        record { place = 0; inside = omega arith; is = q; passes = rw (← q) e; element = subst (λ (z : ℕ). mem z (y ∷ ys) ≡ true) q (mem-here y ys); none_before = λ j l. absurd (omega arith) }
    go false e r =
        let t : Found p ys x = r (rw (e, seek) at h) in
        record {
          place = suc t.place;
          inside = let l : t.place < length ys = t.inside in omega arith;
          is = t.is;
          passes = t.passes;
          element = mem-there x y ys t.element;
          none_before = before t;
        }
      where
        before : (t : Found p ys x) (j : ℕ) → j < suc t.place → p (get_or (y ∷ ys) j 0) ≡ false
        before t zero l = e
        before t (suc j) l = t.none_before j (omega arith)

pub seek-none : (p : ℕ → Bool) (xs : List ℕ) → ◌≡◌ {A = Option ℕ} (seek p xs) none → (x : ℕ) → mem x xs ≡ true → p x ≡ false
seek-none p [] h x m = never m refl
seek-none p (y ∷ ys) h x m = go (p y) refl (seek-none p ys)
  where
    go : (b : Bool) → p y ≡ b → (◌≡◌ {A = Option ℕ} (seek p ys) none → (x : ℕ) → mem x ys ≡ true → p x ≡ false) → p x ≡ false
    go true e r = let s : ◌≡◌ {A = Option ℕ} (some y) none = rw (e, seek) at h in let z : ◌≡◌ {A = ℕ} 0 1 = cc in absurd (omega arith)
    go false e r =
        ⊎_elim (λ w. rw w e) (λ w. r (rw (e, seek) at h) x w) (mem-cases x y ys m)

pub seek-ext : (p q : ℕ → Bool) (xs : List ℕ) → ((x : ℕ) → mem x xs ≡ true → p x ≡ q x) → ◌≡◌ {A = Option ℕ} (seek p xs) (seek q xs)
seek-ext p q [] h = refl
seek-ext p q (y ∷ ys) h = go (p y) (q y) (h y (mem-here y ys)) (seek-ext p q ys (λ x m. h x (mem-there x y ys m)))
  where
    go : (a b : Bool) → a ≡ b → ◌≡◌ {A = Option ℕ} (seek p ys) (seek q ys) → ◌≡◌ {A = Option ℕ} (elim a [ true ↦ some y | false ↦ seek p ys ]) (elim b [ true ↦ some y | false ↦ seek q ys ])
    go true b e r = rw (← e) refl
    go false b e r = rw (← e) r

pub range-mem : (a n x : ℕ) → a ≤ x → x < a + n → mem x (range a n) ≡ true
range-mem a zero x l u = absurd (omega arith)
range-mem a (suc n) x l u =
    ⊎_elim
    (λ e. or_left (eqb x a) _ e)
    (λ e. or_right (eqb x a) _ (range-mem (suc a) n x (more e) (omega arith)))
    (either (eqb x a))
  where
    more : eqb x a ≡ false → suc a ≤ x
    more e = let ne : x ≢ a = λ q. never (eq-eqb x a q) e in omega arith

pub mem-range : (a n x : ℕ) → mem x (range a n) ≡ true → (a ≤ x) × (x < a + n)
mem-range a zero x m = never m refl
mem-range a (suc n) x m =
    ⊎_elim
    (λ e. (omega arith, omega arith))
    (λ e. let t : (suc a ≤ x) × (x < suc a + n) = mem-range (suc a) n x e in (omega arith, omega arith))
    (mem-cases x a (range (suc a) n) m)

pub up_to-mem : (n x : ℕ) → x < n → mem x (up_to n) ≡ true
up_to-mem n x l = range-mem 0 n x (omega arith) (omega arith)

pub mem-up_to : (n x : ℕ) → mem x (up_to n) ≡ true → x < n
mem-up_to n x m = let t : (0 ≤ x) × (x < 0 + n) = mem-range 0 n x m in omega arith

pub get_or-mem : (xs : List ℕ) (k : ℕ) → k < length xs → mem (get_or xs k 0) xs ≡ true
get_or-mem [] k l = absurd (omega arith)
get_or-mem (x ∷ xs) zero l = mem-here x xs
get_or-mem (x ∷ xs) (suc k) l = mem-there _ x xs (get_or-mem xs k (omega arith))

-- an element of a list of which all are below a number
pub element_below : (m : ℕ) (xs : List ℕ) (k : ℕ) → all (λ x. ltb x m) xs ≡ true → k < length xs → get_or xs k 0 < m
element_below m xs k a l = ltb-true (get_or xs k 0) m (all-elem (λ x. ltb x m) xs a (get_or xs k 0) (get_or-mem xs k l))

pub zeros : (n i : ℕ) → ◌≡◌ {A = ℕ} (get_or (replicate n 0) i 0) 0
zeros zero i = refl
zeros (suc n) zero = refl
zeros (suc n) (suc i) = zeros n i

pub length-range : (a n : ℕ) → length (range a n) ≡ n
length-range a zero = refl
length-range a (suc n) = ap suc (length-range (suc a) n)

pub how_many-le : (p : ℕ → Bool) (xs : List ℕ) → how_many p xs ≤ length xs
how_many-le p [] = omega arith
how_many-le p (x ∷ xs) = go (p x) (how_many-le p xs)
  where
    go : (b : Bool) → how_many p xs ≤ length xs → cond b (suc (how_many p xs)) (how_many p xs) ≤ suc (length xs)
    go true l = omega arith
    go false l = omega arith

pub how_many-mono : (p q : ℕ → Bool) (xs : List ℕ) → ((x : ℕ) → q x ≡ true → p x ≡ true) → how_many q xs ≤ how_many p xs
how_many-mono p q [] h = omega arith
how_many-mono p q (x ∷ xs) h = go (q x) (p x) (h x) (how_many-mono p q xs h)
  where
    go : (a b : Bool) → (a ≡ true → b ≡ true) → how_many q xs ≤ how_many p xs → cond a (suc (how_many q xs)) (how_many q xs) ≤ cond b (suc (how_many p xs)) (how_many p xs)
    go true true i l = omega arith
    go true false i l = never (i refl) refl
    go false true i l = omega arith
    go false false i l = l

-- fewer pass a test that fails at one element more
pub how_many-less : (p q : ℕ → Bool) (xs : List ℕ) → ((x : ℕ) → q x ≡ true → p x ≡ true) → (x : ℕ) → mem x xs ≡ true → p x ≡ true → q x ≡ false → how_many q xs < how_many p xs
how_many-less p q [] h x m t f = never m refl
how_many-less p q (y ∷ ys) h x m t f =
    ⊎_elim
    (λ e. here (rw e at t) (rw e at f) (how_many-mono p q ys h))
    (λ e. there (q y) (p y) (h y) (how_many-less p q ys h x e t f))
    (mem-cases x y ys m)
  where
    here : p y ≡ true → q y ≡ false → how_many q ys ≤ how_many p ys → how_many q (y ∷ ys) < how_many p (y ∷ ys)
    here a b l = rw (a, b) (omega arith)

    there : (a b : Bool) → (a ≡ true → b ≡ true) → how_many q ys < how_many p ys → cond a (suc (how_many q ys)) (how_many q ys) < cond b (suc (how_many p ys)) (how_many p ys)
    there true true i l = omega arith
    there true false i l = never (i refl) refl
    there false true i l = omega arith
    there false false i l = l

pub how_many-ext : (p q : ℕ → Bool) (xs : List ℕ) → ((x : ℕ) → mem x xs ≡ true → p x ≡ q x) → how_many p xs ≡ how_many q xs
how_many-ext p q [] h = refl
how_many-ext p q (y ∷ ys) h = rw (h y (mem-here y ys), how_many-ext p q ys (λ x m. h x (mem-there x y ys m)))

pub mem-left : (x : ℕ) (xs ys : List ℕ) → mem x xs ≡ true → mem x (xs ++ ys) ≡ true
mem-left x xs ys m = rw (mem-append x xs ys) (or_left _ _ m)

-- what is found in the front is found
pub seek-append : (p : ℕ → Bool) (xs ys : List ℕ) (x : ℕ) → seek p xs ≡ some x → seek p (xs ++ ys) ≡ some x
seek-append p [] ys x h = let z : ◌≡◌ {A = ℕ} 0 1 = cc in absurd (omega arith)
seek-append p (y ∷ xs) ys x h = go (p y) refl (seek-append p xs ys x)
  where
    go : (b : Bool) → p y ≡ b → (seek p xs ≡ some x → seek p (xs ++ ys) ≡ some x) → seek p (y ∷ (xs ++ ys)) ≡ some x
    go true e r = rw (e, seek) (rw (e, seek) at h)
    go false e r = rw (e, seek) (r (rw (e, seek) at h))

pub down_from-mem : (n x : ℕ) → x < n → mem x (down_from n) ≡ true
down_from-mem zero x l = absurd (omega arith)
down_from-mem (suc n) x l =
    ⊎_elim (λ e. or_left (eqb x n) _ e) (λ e. or_right (eqb x n) _ (down_from-mem n x (less e))) (either (eqb x n))
  where
    less : eqb x n ≡ false → x < n
    less e = let ne : x ≢ n = λ q. never (eq-eqb x n q) e in omega arith

pub mem-down_from : (n x : ℕ) → mem x (down_from n) ≡ true → x < n
mem-down_from zero x m = never m refl
mem-down_from (suc n) x m =
    ⊎_elim
    (λ e. omega arith)
    (λ e. let l : x < n = mem-down_from n x e in omega arith)
    (mem-cases x n (down_from n) m)

-- one more, or not, on one side of a sum
more_left : (b : Bool) (x y z : ℕ) → z ≡ x + y → cond b (suc z) z ≡ cond b (suc x) x + y
more_left true x y z e = omega arith
more_left false x y z e = e

more-right : (b : Bool) (x y z : ℕ) → z ≡ x + y → cond b (suc z) z ≡ x + cond b (suc y) y
more-right true x y z e = omega arith
more-right false x y z e = e

pub how_many-append : (p : ℕ → Bool) (xs ys : List ℕ) → how_many p (xs ++ ys) ≡ how_many p xs + how_many p ys
how_many-append p [] ys = omega arith
how_many-append p (x ∷ xs) ys = more_left (p x) _ _ _ (how_many-append p xs ys)

-- the elements that pass a test and a second, and those that pass it and not the second, are those that pass it
pub how_many-split : (p a b : ℕ → Bool) (xs : List ℕ) → how_many p (keep a xs) ≡ how_many p (keep (λ x. a x && b x) xs ++ keep (λ x. a x && not (b x)) xs)
how_many-split p a b xs = sum xs ∙ sym (how_many-append p (keep (λ x. a x && b x) xs) (keep (λ x. a x && not (b x)) xs))
  where
    sum : (ys : List ℕ) → how_many p (keep a ys) ≡ how_many p (keep (λ x. a x && b x) ys) + how_many p (keep (λ x. a x && not (b x)) ys)
    sum [] = refl
    sum (y ∷ ys) = go (a y) (b y) (keep a ys) (keep (λ x. a x && b x) ys) (keep (λ x. a x && not (b x)) ys) (sum ys)
      where
        go : (c d : Bool) (us vs ws : List ℕ) → how_many p us ≡ how_many p vs + how_many p ws → how_many p (cond c (y ∷ us) us) ≡ how_many p (cond (c && d) (y ∷ vs) vs) + how_many p (cond (c && not d) (y ∷ ws) ws)
        go true true us vs ws e = more_left (p y) _ _ _ e
        go true false us vs ws e = more-right (p y) _ _ _ e
        go false d us vs ws e = e

pub how_many-keep : (p a : ℕ → Bool) (xs : List ℕ) → how_many p (keep a xs) ≡ how_many (λ x. a x && p x) xs
how_many-keep p a [] = refl
how_many-keep p a (y ∷ ys) = go (a y) (how_many-keep p a ys)
  where
    go : (c : Bool) → how_many p (keep a ys) ≡ how_many (λ x. a x && p x) ys → how_many p (cond c (y ∷ keep a ys) (keep a ys)) ≡ cond (c && p y) (suc (how_many (λ x. a x && p x) ys)) (how_many (λ x. a x && p x) ys)
    go true e = ap (λ n. cond (p y) (suc n) n) e
    go false e = e

pub how_many-every : (xs : List ℕ) → how_many (λ _. true) xs ≡ length xs
how_many-every [] = refl
how_many-every (x ∷ xs) = ap suc (how_many-every xs)

pub how_many-none : (p : ℕ → Bool) (xs : List ℕ) → any p xs ≡ false → how_many p xs ≡ 0
how_many-none p [] e = refl
how_many-none p (x ∷ xs) e = rw (or-false_left (p x) _ e) (how_many-none p xs (or-false_right (p x) _ e))

pub how_many-range : (a n x : ℕ) → a ≤ x → x < a + n → how_many (eqb x) (range a n) ≡ 1
how_many-range a zero x l u = absurd (omega arith)
how_many-range a (suc n) x l u = go (eqb x a) refl (how_many-range (suc a) n x)
  where
    go : (b : Bool) → eqb x a ≡ b → (suc a ≤ x → x < suc a + n → how_many (eqb x) (range (suc a) n) ≡ 1) → how_many (eqb x) (range a (suc n)) ≡ 1
    go true e r =
        rw e
        (ap suc (how_many-none (eqb x) (range (suc a) n) (false_of (mem x (range (suc a) n)) (λ m. let q : x ≡ a = eqb-true x a e in let t : (suc a ≤ x) × (x < suc a + n) = mem-range (suc a) n x m in absurd (omega arith)))))
    go false e r = let ne : x ≢ a = λ q. never (eq-eqb x a q) e in rw e (r (omega arith) (omega arith))

pub how_many-up_to : (n x : ℕ) → x < n → how_many (eqb x) (up_to n) ≡ 1
how_many-up_to n x l = how_many-range 0 n x (omega arith) (omega arith)

pub eqb-sym : (x y : ℕ) → eqb x y ≡ eqb y x
eqb-sym x y = both_ways _ _ (λ e. eq-eqb y x (sym (eqb-true x y e))) (λ e. eq-eqb x y (sym (eqb-true y x e)))

pub less_one : (n : ℕ) → suc n - 1 ≡ n
less_one n = omega arith

-- What is left of the numbers below n, from i on.
pub range_all : (n : ℕ) → range 0 n ≡ range 0 (n - 0)
range_all n = let all_left : n ≡ n - 0 = omega arith in ap (range 0) all_left

pub range_cons : (n i : ℕ) → i < n → range i (n - i) ≡ i ∷ range (i + 1) (n - (i + 1))
range_cons n i h =
    let less : n - i ≡ suc (n - (i + 1)) = omega arith in
    rw (less, add-one i)

pub range-end : (n i : ℕ) → n ≤ i → range i (n - i) ≡ []
range-end n i h =
    let none : n - i ≡ 0 = omega arith in
    rw none

-- One number more.
pub range-more : (a n : ℕ) → range a (suc n) ≡ range a n ++ ((a + n) ∷ [])
range-more a zero = ap (λ (x : ℕ). x ∷ []) (sym (add-zero a))
range-more a (suc n) = ap (λ (xs : List ℕ). a ∷ xs) (range-more (suc a) n ∙ ap (λ (x : ℕ). range (suc a) n ++ (x ∷ [])) (omega arith))

-- What a function gives for the numbers below n, one after another.
pub mapped_length : {A : Type 0} (f : ℕ → A) (n : ℕ) → length (map f (up_to n)) ≡ n
mapped_length f n = length-map (up_to n) f ∙ length-range 0 n

pub mapped_at : {A : Type 0} (f : ℕ → A) (d : A) (n i : ℕ) → i < n → get_or (map f (up_to n)) i d ≡ f i
mapped_at f d n i h = from f d 0 n i h ∙ ap f (zero-add i)
  where
    from : {A : Type 0} (f : ℕ → A) (d : A) (a n i : ℕ) → i < n → get_or (map f (range a n)) i d ≡ f (a + i)
    from f d a zero i h = absurd (omega arith)
    from f d a (suc n) zero h = ap f (sym (add-zero a))
    from f d a (suc n) (suc i) h =
        let next : suc a + i ≡ a + suc i = omega arith in
        from f d (suc a) n i (omega arith) ∙ ap f next

-- The first element that passes, by its place; and where none passes.
pub seek-at : (q : ℕ → Bool) (xs : List ℕ) (k : ℕ) → k < length xs → ((j : ℕ) → j < k → q (get_or xs j 0) ≡ false) → q (get_or xs k 0) ≡ true → seek q xs ≡ some (get_or xs k 0)
seek-at q [] k h out t = absurd (omega arith)
seek-at q (x ∷ xs) zero h out t = rw (t, seek)
seek-at q (x ∷ xs) (suc k) h out t = rw (out 0 (omega arith), seek) (seek-at q xs k (omega arith) (λ j l. out (suc j) (omega arith)) t)

pub none_passes : (q : ℕ → Bool) (xs : List ℕ) → ((k : ℕ) → k < length xs → q (get_or xs k 0) ≡ false) → ◌≡◌ {A = Option ℕ} (seek q xs) none
none_passes q [] out = refl
none_passes q (x ∷ xs) out = rw (out 0 (omega arith), seek) (none_passes q xs (λ k l. out (suc k) (omega arith)))

pub get_or-up_to : (n j : ℕ) → j < n → get_or (up_to n) j 0 ≡ j
get_or-up_to n j h = let e : get_or (up_to n) j 0 ≡ 0 + j = go 0 n j h in omega arith
  where
    go : (a n j : ℕ) → j < n → get_or (range a n) j 0 ≡ a + j
    go a zero j h = absurd (omega arith)
    go a (suc n) zero h = omega arith
    go a (suc n) (suc j) h = let e : get_or (range (suc a) n) j 0 ≡ suc a + j = go (suc a) n j (omega arith) in omega arith

-- So among the numbers below n.
pub seek-number : (q : ℕ → Bool) (n i : ℕ) → i < n → ((j : ℕ) → j < i → q j ≡ false) → q i ≡ true → seek q (up_to n) ≡ some i
seek-number q n i h out t =
    seek-at q (up_to n) i (omega (arith, length-range 0 n)) (λ j l. ap q (get_or-up_to n j (omega arith)) ∙ out j l) (ap q (get_or-up_to n i h) ∙ t)
    ∙ ap (λ (m : ℕ). some m) (get_or-up_to n i h)

-- What is found among them is the lowest that passes.
pub seek-lowest : (q : ℕ → Bool) (n i : ℕ) → seek q (up_to n) ≡ some i → (j : ℕ) → j < i → q j ≡ false
seek-lowest q n i e j l =
    let t : Found q (up_to n) i = seek-some q (up_to n) i e in
    let inside : t.place < n = rw (length-range 0 n) at t.inside in
    let here : t.place ≡ i = sym (get_or-up_to n t.place inside) ∙ t.is in
    ap q (sym (get_or-up_to n j (omega arith))) ∙ t.none_before j (omega arith)

pub no_number_lem : (q : ℕ → Bool) (n : ℕ) → ((j : ℕ) → j < n → q j ≡ false) → ◌≡◌ {A = Option ℕ} (seek q (up_to n)) none
no_number_lem q n out = none_passes q (up_to n) (λ k l. let low : k < n = omega (arith, length-range 0 n) in ap q (get_or-up_to n k low) ∙ out k low)

-- A test on the numbers below n, and on one number more.
pub below_more : (n k : ℕ) (t : Bool) → eqb k n ≡ false → ltb k n && t ≡ ltb k (n + 1) && t
below_more n k t e = let ne : k ≡ n → ⊥ = eqb-false k n e in ap (λ (b : Bool). b && t) (both_ways (ltb k n) (ltb k (n + 1)) (λ h. let l : k < n = ltb-true k n h in lt-ltb k (n + 1) (omega arith)) (λ h. let l : k < n + 1 = ltb-true k (n + 1) h in lt-ltb k n (omega arith)))

pub here_not : (n : ℕ) (t : Bool) → ltb n n && t ≡ false
here_not n t = ap (λ (b : Bool). b && t) (le-ltb n n (omega arith))

pub here_now : (n : ℕ) (t : Bool) → ltb n (n + 1) && t ≡ t
here_now n t = ap (λ (b : Bool). b && t) (lt-ltb n (n + 1) (omega arith))
