-- The premises of a rule are marked at its place, one after the other.
use Prim.Native.Nat.{ℕ, ◌+◌, ◌*◌, ◌≤◌, ◌<◌}
use mathlib.Core.Path.{◌≡◌, refl, sym, ap, subst, ◌∙◌, fun_ext}
use mathlib.Core.Bool.{Bool, true, false, not, ◌&&◌, ◌||◌}
use mathlib.Core.List.{List, [], ◌∷◌, ◌++◌, append_assoc, append-nil}
use mathlib.Core.Logic.{⊎_elim}
use native.Mathlib.Omega.{arith}
use native.Mathlib.Nat.{add-zero, zero-add}
use borrow.Author.Tests.{eqb-true}
use lib.Dec.{eqb}
use lib.ListN.{length, get_or, take}
use Rattle.theory.specs.Rule.{mem, how_many, up_to, adjoin}
use Rattle.theory.proofs.Bools.{either, never, or_left, or_right, or-none, and-true}
use Rattle.theory.proofs.Lists.{eqb-self, mem-append, how_many-ext}
use Rattle.theory.proofs.Counted.{none_counted, counted_more}
use Rattle.bits.specs.Flags.{row_words}
use Rattle.bits.specs.Matrix.{Matrix, adjoin_in, SameFrom}
use Rattle.std.proofs.lemmas.List.{take_more, take_all}
use Rattle.premises.specs.Filling.{adjoin_each, Entered}

mem-snoc : (f : ℕ) (xs : List ℕ) (x : ℕ) → mem f (xs ++ (x ∷ [])) ≡ eqb f x || mem f xs
mem-snoc f xs x = mem-append f xs (x ∷ []) ∙ swap (mem f xs) (eqb f x)
  where
    swap : (a b : Bool) → a || (b || false) ≡ b || a
    swap true true = refl
    swap true false = refl
    swap false true = refl
    swap false false = refl

-- the same with an element once more
mem-repeated : (x : ℕ) (xs : List ℕ) → mem x xs ≡ true → (f : ℕ) → mem f xs ≡ mem f (xs ++ (x ∷ []))
mem-repeated x xs m f = ⊎_elim (λ e. let is : f ≡ x = eqb-true f x e in rw is (m ∙ sym (mem-snoc x xs x ∙ or_left _ _ (eqb-self x)))) (λ e. sym (mem-snoc f xs x ∙ ap (λ (b : Bool). b || mem f xs) e)) (either (eqb f x))

-- what marking a number answers and does
abbrev pub Marks : ℕ → ℕ → List ℕ → List ℕ → Bool → Type 0
Marks x place asks asks' new = (keys : ℕ) (q : ℕ → ℕ → Bool) → x < keys → Matrix keys q asks → (new ≡ not (q x place)) × Matrix keys (adjoin_in q x place) asks'

-- the mark of one number more
pub one_entered : {keys bound : ℕ} {q : ℕ → ℕ → Bool} {place : ℕ} {xs asks : List ℕ} {distinct : ℕ} → Entered keys bound q place xs asks distinct → (x : ℕ) → q x place ≡ false → x < bound → bound ≤ keys → (asks' : List ℕ) (new : Bool) → Marks x place asks asks' new → (distinct' : ℕ) → (new ≡ true → distinct' ≡ distinct + 1) → (new ≡ false → distinct' ≡ distinct) → Entered keys bound q place (xs ++ (x ∷ [])) asks' distinct'
one_entered {keys} {bound} {q} {place} {xs} {asks} {distinct} w x out small within asks' new marked distinct' more same =
    record {
      matrix = subst (λ (r : ℕ → ℕ → Bool). Matrix keys r asks') (fun_ext (λ f. fun_ext (λ k. pair f k))) now_marked.1;
      counted = ⊎_elim (λ m. again m) (λ m. first m) (either (mem x xs));
    }
  where
    now_marked : (new ≡ not (adjoin_each q place xs x place)) × Matrix keys (adjoin_in (adjoin_each q place xs) x place) asks'
    now_marked = marked keys (adjoin_each q place xs) (omega arith) w.matrix

    new_is : new ≡ not (mem x xs)
    new_is = now_marked.0 ∙ ap not (ap (λ (b : Bool). mem x xs && eqb place place || b) out ∙ or-none (mem x xs && eqb place place) ∙ ap (λ (b : Bool). mem x xs && b) (eqb-self place) ∙ and-true (mem x xs))

    pair : (f k : ℕ) → adjoin_in (adjoin_each q place xs) x place f k ≡ adjoin_each q place (xs ++ (x ∷ [])) f k
    pair f k = tests (eqb f x) (mem f xs) (eqb k place) (q f k) ∙ sym (ap (λ (b : Bool). b && eqb k place || q f k) (mem-snoc f xs x))
      where
        tests : (a m e r : Bool) → a && e || (m && e || r) ≡ (a || m) && e || r
        tests true true true r = refl
        tests true true false r = refl
        tests true false true r = refl
        tests true false false r = refl
        tests false m e r = refl

    first : mem x xs ≡ false → distinct' ≡ how_many (λ f. mem f (xs ++ (x ∷ []))) (up_to bound)
    first m =
        more (new_is ∙ ap not m) ∙ ap (λ (n : ℕ). n + 1) w.counted
        ∙ sym (counted_more (λ f. mem f xs) bound x small m)
        ∙ how_many-ext (adjoin (λ f. mem f xs) x) (λ f. mem f (xs ++ (x ∷ []))) (up_to bound) (λ f _. sym (mem-snoc f xs x))

    again : mem x xs ≡ true → distinct' ≡ how_many (λ f. mem f (xs ++ (x ∷ []))) (up_to bound)
    again m =
        same (new_is ∙ ap not m) ∙ w.counted
        ∙ how_many-ext (λ f. mem f xs) (λ f. mem f (xs ++ (x ∷ []))) (up_to bound) (λ f _. mem-repeated x xs m f)

-- a number that is marked already, once more
repeat_entered : {keys bound : ℕ} {q : ℕ → ℕ → Bool} {place : ℕ} {xs asks : List ℕ} {distinct : ℕ} → Entered keys bound q place xs asks distinct → (x : ℕ) → mem x xs ≡ true → Entered keys bound q place (xs ++ (x ∷ [])) asks distinct
repeat_entered {keys} {bound} {q} {place} {xs} {asks} w x m =
    record {
      matrix = subst (λ (r : ℕ → ℕ → Bool). Matrix keys r asks) (fun_ext (λ f. fun_ext (λ k. ap (λ (b : Bool). b && eqb k place || q f k) (mem-repeated x xs m f)))) w.matrix;
      counted = w.counted ∙ how_many-ext (λ f. mem f xs) (λ f. mem f (xs ++ (x ∷ []))) (up_to bound) (λ f _. mem-repeated x xs m f);
    }

-- The elements of a list before `at` are marked, beside what was marked before. The words from `behind` on stay.
pub record Entering (most behind : ℕ) (own : List ℕ) (place : ℕ) (asks₀ asks : List ℕ) (distinct at : ℕ) : Type 0 where
  pub few : distinct ≤ at
  pub kept : SameFrom behind asks₀ asks
  pub entered : (keys bound : ℕ) (q : ℕ → ℕ → Bool) (xs : List ℕ) (before : ℕ) → most ≤ bound → bound ≤ keys → ((j : ℕ) → q (get_or own j 0) place ≡ false) → Entered keys bound q place xs asks₀ before → Entered keys bound q place (xs ++ take at own) asks (before + distinct)

pub none_entered : (most behind : ℕ) (own : List ℕ) (place : ℕ) (asks : List ℕ) → Entering most behind own place asks asks 0 0
none_entered most behind own place asks =
    record {
      few = omega arith;
      kept = record { places = refl; words = λ k h. refl };
      entered = λ keys bound q xs before b k out e. rw (append-nil xs, add-zero before) e;
    }

module _ {most behind : ℕ} {own : List ℕ} {place : ℕ} {asks₀ asks : List ℕ} {distinct at : ℕ} (w : Entering most behind own place asks₀ asks distinct at) (h : at < length own) (x : ℕ) (x-is : x ≡ get_or own at 0) where
  -- the elements with the one at the place
  joined : (xs : List ℕ) → xs ++ take at own ++ (x ∷ []) ≡ xs ++ take (at + 1) own
  joined xs = append_assoc xs (take at own) (x ∷ []) ∙ ap (λ (ys : List ℕ). xs ++ ys) (ap (λ (y : ℕ). take at own ++ (y ∷ [])) x-is ∙ sym (take_more own at 0 h))

  pub passed_in : mem x (take (at + 1) own) ≡ true
  passed_in = ap (mem x) (take_more own at 0 h) ∙ mem-snoc x (take at own) (get_or own at 0) ∙ or_left _ _ (ap (eqb x) (sym x-is) ∙ eqb-self x)

  -- It was marked before.
  pub one_repeated : mem x (take at own) ≡ true → Entering most behind own place asks₀ asks distinct (at + 1)
  one_repeated m =
      record {
        few = omega (arith, w.few);
        kept = w.kept;
        entered = λ keys bound q xs before b k out e. subst (λ (ys : List ℕ). Entered keys bound q place ys asks (before + distinct)) (joined xs) (repeat_entered (w.entered keys bound q xs before b k out e) x (mem-append x xs (take at own) ∙ or_right (mem x xs) _ m));
      }

  module _ (small : x < most) (front : x * row_words + row_words ≤ behind) (asks' : List ℕ) (new : Bool) (marked : Marks x place asks asks' new) (stays : SameFrom (x * row_words + row_words) asks asks') where
    next : (distinct' : ℕ) → distinct' ≤ distinct + 1 → (new ≡ true → distinct' ≡ distinct + 1) → (new ≡ false → distinct' ≡ distinct) → Entering most behind own place asks₀ asks' distinct' (at + 1)
    next distinct' most-new more same =
        record {
          few = omega (arith, w.few);
          kept = record { places = stays.places ∙ w.kept.places; words = λ k l. stays.words k (omega arith) ∙ w.kept.words k l };
          entered = λ keys bound q xs before b k out e. grown keys bound q xs before b k out (w.entered keys bound q xs before b k out e);
        }
      where
        grown : (keys bound : ℕ) (q : ℕ → ℕ → Bool) (xs : List ℕ) (before : ℕ) → most ≤ bound → bound ≤ keys → ((j : ℕ) → q (get_or own j 0) place ≡ false) → Entered keys bound q place (xs ++ take at own) asks (before + distinct) → Entered keys bound q place (xs ++ take (at + 1) own) asks' (before + distinct')
        grown keys bound q xs before b k out e =
            subst (λ (ys : List ℕ). Entered keys bound q place ys asks' (before + distinct'))
            (joined xs)
            (one_entered e x (ap (λ (y : ℕ). q y place) x-is ∙ out at) (omega arith) k asks' new marked (before + distinct') (λ t. omega (arith, more t)) (λ f. omega (arith, same f)))

    pub one_new : new ≡ true → Entering most behind own place asks₀ asks' (distinct + 1) (at + 1)
    one_new e = next (distinct + 1) (omega arith) (λ _. refl) (λ f. never e f)

    pub one_again : new ≡ false → Entering most behind own place asks₀ asks' distinct (at + 1)
    one_again e = next distinct (omega arith) (λ t. never t e) (λ _. refl)

-- What is entered is told by the elements alone, whichever comes first.
pub same_entered : {keys bound : ℕ} {q : ℕ → ℕ → Bool} {place : ℕ} {xs ys asks : List ℕ} {distinct : ℕ} → ((f : ℕ) → mem f xs ≡ mem f ys) → Entered keys bound q place xs asks distinct → Entered keys bound q place ys asks distinct
same_entered {keys} {bound} {q} {place} {xs} {ys} {asks} same w =
    record {
      matrix = subst (λ (r : ℕ → ℕ → Bool). Matrix keys r asks) (fun_ext (λ f. fun_ext (λ k. ap (λ (b : Bool). b && eqb k place || q f k) (same f)))) w.matrix;
      counted = w.counted ∙ how_many-ext (λ f. mem f xs) (λ f. mem f ys) (up_to bound) (λ f _. same f);
    }

module _ {most behind : ℕ} {own : List ℕ} {place : ℕ} {asks₀ asks : List ℕ} {distinct at : ℕ} (w : Entering most behind own place asks₀ asks distinct at) where
  pub all-entered : length own ≤ at → (elements : List ℕ) → ((f : ℕ) → mem f own ≡ mem f elements) → (keys bound : ℕ) (q : ℕ → ℕ → Bool) (xs : List ℕ) (before : ℕ) → most ≤ bound → bound ≤ keys → ((j : ℕ) → q (get_or own j 0) place ≡ false) → Entered keys bound q place xs asks₀ before → Entered keys bound q place (xs ++ elements) asks (before + distinct)
  all-entered h elements same keys bound q xs before b k out i =
      same_entered (λ f. mem-append f xs own ∙ ap (λ (c : Bool). mem f xs || c) (same f) ∙ sym (mem-append f xs elements))
      (subst (λ (ys : List ℕ). Entered keys bound q place (xs ++ ys) asks (before + distinct)) (take_all at own h) (w.entered keys bound q xs before b k out i))

-- Nothing is marked at a place yet.
pub first-entered : {keys bound : ℕ} {q : ℕ → ℕ → Bool} {place : ℕ} {xs asks₀ asks : List ℕ} {distinct : ℕ} → Matrix keys q asks₀ → (Entered keys bound q place [] asks₀ 0 → Entered keys bound q place ([] ++ xs) asks (0 + distinct)) → Entered keys bound q place xs asks distinct
first-entered {keys} {bound} {q} {place} {xs} {asks₀} {asks} {distinct} m f =
    subst (λ (d : ℕ). Entered keys bound q place xs asks d) (zero-add distinct) (f (record { matrix = m; counted = sym (none_counted (λ f. false) (up_to bound) (λ x k. refl)) }))
