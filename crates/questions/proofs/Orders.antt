-- An order or a list that is written names what was written, and gets yes where each rule is known and named once.
use Prim.Native.Nat.{ℕ, zero, suc, ◌+◌, ◌*◌, ◌≤◌, ◌<◌}
use native.Mathlib.Omega.{arith}
use mathlib.Core.Path.{◌≡◌, refl, ap, ◌∙◌}
use mathlib.Core.Bool.{Bool, true, false, cond, not, ◌||◌}
use mathlib.Core.List.{List, [], ◌∷◌, ◌++◌}
use mathlib.Core.Logic.{⊎_elim}
use mathlib.Core.Option.{Option, none}
use borrow.Author.Tests.{eqb-true}
use lib.ListN.{length}
use lib.Dec.{eqb}
use Rattle.theory.specs.Rule.{all, mem, NoRepeat, keep, range, up_to, how_many, nothing, adjoin}
use Rattle.theory.proofs.Bools.{either, never, and_left, and_right, false_of, or_cases}
use Rattle.theory.proofs.Lists.{all_of, mem-keep, mem-range, mem-up_to, mem-there, mem-here, eqb-self, how_many-less, how_many-none}
use Rattle.items.specs.declared.refusal.Refusal.{Refusal}
use Rattle.items.specs.Item.{name_width}
use Rattle.items.specs.Question.{first_no}
use Rattle.cursors.specs.Cursor.{items_at, order_start}
use Rattle.items.proofs.FirstNo.{first-yes}
use Rattle.items.specs.Write.{rule_item}
use Rattle.cursors.proofs.ReadBack.{rule-item_first}
use Rattle.questions.specs.Questions.{whole, names_of, named_in, name_questions, names_questions, list_questions, order_questions, order_no, naming}
use Rattle.questions.specs.Parts.{list_no}
use Rattle.questions.proofs.NamesAsked.{first-named}

pub naming-names : (rs : List ℕ) → named_in (naming rs) ≡ rs
unfolding items_at
naming-names [] = refl
naming-names (r ∷ rs) = ap names_of (rule-item_first r (naming rs)) ∙ ap (λ (l : List ℕ). r ∷ l) (naming-names rs)

pub naming-whole : (rs : List ℕ) → whole (items_at (naming rs) order_start) ≡ true
unfolding items_at
naming-whole [] = refl
naming-whole (r ∷ rs) = ap whole (rule-item_first r (naming rs)) ∙ naming-whole rs

-- known rules that were not seen, each once, get yes to 12 and 13
pub names-yes : (known seen : ℕ → Bool) (rs : List ℕ) → all known rs ≡ true → NoRepeat rs → ((r : ℕ) → mem r rs ≡ true → seen r ≡ false) → ◌≡◌ {A = Option Refusal} (first_no (names_questions known seen rs)) none
names-yes known seen [] k n s = refl
names-yes known seen (r ∷ rs) k n s =
    rw (first-yes (name_questions known seen r) (names_questions known (adjoin seen r) rs) (first-named known seen r (and_left (known r) _ k) (s r (mem-here r rs))))
    (names-yes known (adjoin seen r) rs (and_right (known r) _ k) n.1 later)
  where
    later : (x : ℕ) → mem x rs ≡ true → adjoin seen r x ≡ false
    later x m =
        false_of (adjoin seen r x)
        (λ t. ⊎_elim (λ e. never (rw (eqb-true x r e) at m) n.0) (λ e. never e (s x (mem-there x r rs m))) (or_cases (eqb x r) _ t))

-- ascending numbers do not repeat
pub keep-once : (p : ℕ → Bool) (a n : ℕ) → NoRepeat (keep p (range a n))
keep-once p a zero = tt
keep-once p a (suc n) = go (p a) (keep-once p (suc a) n)
  where
    later : mem a (keep p (range (suc a) n)) ≡ false
    later =
        false_of (mem a (keep p (range (suc a) n)))
        (λ m. let t : (suc a ≤ a) × (a < suc a + n) = mem-range (suc a) n a (and_left (mem a (range (suc a) n)) (p a) (rw (mem-keep p (range (suc a) n) a) at m)) in absurd (omega arith))

    go : (b : Bool) → NoRepeat (keep p (range (suc a) n)) → NoRepeat (cond b (a ∷ keep p (range (suc a) n)) (keep p (range (suc a) n)))
    go true r = (later, r)
    go false r = r

pub list_yes : (known : ℕ → Bool) (rs : List ℕ) → all known rs ≡ true → NoRepeat rs → ◌≡◌ {A = Option Refusal} (list_no known (naming rs)) none
unfolding list_questions
list_yes known rs k n =
    rw (naming-whole rs, naming-names rs) (names-yes known nothing rs k n (λ r m. refl))

-- An order that names every known rule below n gets yes to 14 too.
pub order-yes : (known : ℕ → Bool) (n : ℕ) (rs : List ℕ) → all known rs ≡ true → NoRepeat rs → ((i : ℕ) → i < n → known i ≡ true → mem i rs ≡ true) → ◌≡◌ {A = Option Refusal} (order_no known n (naming rs)) none
unfolding order_questions
order-yes known n rs k o every = rw (first-yes (list_questions known (naming rs)) _ (list_yes known rs k o), naming-names rs, names-all)
  where
    named : (a b : Bool) → (a ≡ true → b ≡ true) → not a || b ≡ true
    named true b h = h refl
    named false b h = refl

    names-all : all (λ i. not (known i) || mem i rs) (up_to n) ≡ true
    names-all = all_of (λ i. not (known i) || mem i rs) (up_to n) (λ i m. named (known i) (mem i rs) (every i (mem-up_to n i m)))

-- What is named stands there.
pub named_some : (r : ℕ) (rs : List ℕ) → mem r rs ≡ true → 0 < how_many (eqb r) rs
named_some r rs m =
    let more : how_many (λ _. false) rs < how_many (eqb r) rs = how_many-less (eqb r) (λ _. false) rs (λ x e. never e refl) r m (eqb-self r) refl in
    omega arith

-- Numbers that stand once at most do not repeat.
pub once-each : (rs : List ℕ) → ((r : ℕ) → how_many (eqb r) rs ≤ 1) → NoRepeat rs
once-each [] h = tt
once-each (r ∷ rs) h = (false_of (mem r rs) not-again, once-each rs (λ x. rest x (eqb x r) (h x)))
  where
    not-again : mem r rs ≡ true → ⊥
    not-again m =
        let no_more : suc (how_many (eqb r) rs) ≤ 1 = rw (eqb-self r) at (h r) in
        omega (arith, named_some r rs m)

    rest : (x : ℕ) (b : Bool) → cond b (suc (how_many (eqb x) rs)) (how_many (eqb x) rs) ≤ 1 → how_many (eqb x) rs ≤ 1
    rest x true l = omega arith
    rest x false l = l

-- An order that names each known rule once, and no other, gets yes to 11 to 14.
pub once-yes : (known : ℕ → Bool) (n : ℕ) (rs : List ℕ) → ((r : ℕ) → known r ≡ true → how_many (eqb r) rs ≡ 1) → ((r : ℕ) → known r ≡ false → how_many (eqb r) rs ≡ 0) → ◌≡◌ {A = Option Refusal} (order_no known n (naming rs)) none
once-yes known n rs once only =
    order-yes known n rs
    (all_of known rs (λ r m. ⊎_elim (λ k. k) (λ k. absurd (omega (arith, named_some r rs m, only r k))) (either (known r))))
    (once-each rs (λ r. ⊎_elim (λ k. omega (arith, once r k)) (λ k. omega (arith, only r k)) (either (known r))))
    (λ r _ k. ⊎_elim (λ m. m) (λ m. absurd (omega (arith, how_many-none (eqb r) rs m, once r k))) (either (mem r rs)))

-- Rows written one behind the other, and how long they are.
pub naming-append : (xs ys : List ℕ) → naming (xs ++ ys) ≡ naming xs ++ naming ys
naming-append [] ys = refl
naming-append (x ∷ xs) ys = ap (λ (bytes : List ℕ). rule_item x ++ bytes) (naming-append xs ys)

pub naming-length : (rs : List ℕ) → length (naming rs) ≡ name_width * length rs
naming-length [] = refl
naming-length (r ∷ rs) = omega (arith, naming-length rs)
