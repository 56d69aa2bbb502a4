-- Sets and lists that a caller writes for the judge and the check, read back.
use Prim.Native.Nat.{ℕ, ◌≤◌, ◌<◌}
use native.Mathlib.Omega.{arith}
use native.Mathlib.Decide.{dec_lt}
use mathlib.Core.Path.{◌≡◌, refl, sym, ◌∙◌, ap, fun_ext}
use mathlib.Core.Bool.{Bool, true, false, cond, ◌&&◌}
use mathlib.Core.List.{List, [], ◌∷◌, map}
use mathlib.Core.Option.{Option, none}
use borrow.Author.Tests.{eq-eqb}
use lib.ListN.{length, get_or, get_or-eq_default}
use lib.Dec.{eqb, leb}
use Rattle.theory.specs.Rule.{mem, keep, up_to}
use Rattle.theory.proofs.Bools.{and_right}
use Rattle.theory.proofs.Lists.{all_of, mem-keep, up_to-mem, mapped_length, mapped_at}
use Rattle.items.specs.declared.refusal.Refusal.{Refusal}
use Rattle.items.specs.Item.{has}
use Rattle.questions.specs.Questions.{named_in, zero_or_one, set_questions}
use Rattle.questions.specs.Parts.{set_no, list_no}
use Rattle.questions.proofs.Orders.{naming-names, list_yes, keep-once}
use Rattle.demands.specs.Results.{listed, set_of}

-- a set of n facts as bytes: its length, its bytes, and the set that they give back
pub set-length : (n : ℕ) (S : ℕ → Bool) → length (set_of n S) ≡ n
set-length n S = mapped_length (λ f. cond (S f) 1 0) n

pub set-bits : (n : ℕ) (S : ℕ → Bool) → zero_or_one (set_of n S) ≡ true
set-bits n S = go (up_to n)
  where
    bit : (b : Bool) → leb (cond b 1 0) 1 ≡ true
    bit true = refl
    bit false = refl

    go : (fs : List ℕ) → zero_or_one (map (λ f. cond (S f) 1 0) fs) ≡ true
    go [] = refl
    go (f ∷ fs) = rw (bit (S f)) (go fs)

pub set-yes : (n : ℕ) (S : ℕ → Bool) → ◌≡◌ {A = Option Refusal} (set_no n (set_of n S)) none
unfolding set_questions
set-yes n S = rw (set-length n S, eq-eqb n n refl, set-bits n S)

pub set_back : (n : ℕ) (S : ℕ → Bool) → ((f : ℕ) → n ≤ f → S f ≡ false) → has (set_of n S) ≡ S
unfolding has
set_back n S outside = fun_ext (λ f. go f (dec_lt f n))
  where
    bit : (b : Bool) → eqb (cond b 1 0) 1 ≡ b
    bit true = refl
    bit false = refl

    go : (f : ℕ) → Dec (f < n) → eqb (get_or (set_of n S) f 0) 1 ≡ S f
    go f (yes l) = rw (mapped_at {A = ℕ} (λ g. cond (S g) 1 0) 0 n f l) (bit (S f))
    go f (no h) =
        let l : n ≤ f = omega arith in
        let k : length (set_of n S) ≤ f = rw (set-length n S) l in
        rw (get_or-eq_default (set_of n S) 0 k) (sym (outside f l))

-- the rules that a list of some of n rules names
pub listed_back : (n : ℕ) (p : ℕ → Bool) → ((i : ℕ) → p i ≡ true → i < n) → (λ i. mem i (named_in (listed n p))) ≡ p
listed_back n p below = fun_ext (λ i. ap (mem i) (naming-names (keep p (up_to n))) ∙ (mem-keep p (up_to n) i ∙ here i (p i) refl))
  where
    here : (i : ℕ) (b : Bool) → p i ≡ b → mem i (up_to n) && b ≡ b
    here i true e = rw (up_to-mem n i (below i e)) refl
    here i false e = none_of (mem i (up_to n))
      where
        none_of : (a : Bool) → a && false ≡ false
        none_of true = refl
        none_of false = refl

pub listed-yes : (n : ℕ) (known p : ℕ → Bool) → ((i : ℕ) → p i ≡ true → known i ≡ true) → ◌≡◌ {A = Option Refusal} (list_no known (listed n p)) none
listed-yes n known p k =
    list_yes known (keep p (up_to n))
    (all_of known (keep p (up_to n)) (λ i m. k i (and_right (mem i (up_to n)) (p i) (rw (mem-keep p (up_to n) i) at m))))
    (keep-once p 0 n)
