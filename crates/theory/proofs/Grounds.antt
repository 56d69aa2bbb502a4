-- Rows of steps in which each premise is a fact of an earlier step: what the steps of `derive` and of the run are.
use Prim.Native.Nat.{ℕ, zero, suc, ◌<◌}
use native.Mathlib.Omega.{arith}
use mathlib.Core.Path.{◌≡◌, refl}
use mathlib.Core.Bool.{Bool, true, false, ◌||◌}
use mathlib.Core.List.{List, [], ◌∷◌, ◌++◌, map}
use mathlib.Core.Logic.{⊎_elim}
use lib.ListN.{length, take}
use lib.Dec.{eqb}
use Rattle.theory.specs.Rule.{all, mem, Program, Mask, FactSet, Sub, adjoin, count, rule, Step}
use Rattle.theory.specs.Derive.{step_by, conclude}
use Rattle.theory.specs.Stable.{step_at, facts_of}
use Rattle.theory.proofs.Bools.{never, or_left, or_right, or_cases}
use Rattle.theory.proofs.Lists.{all-mono, mem-cases, mem-here, mem-there}
use Rattle.theory.proofs.Derive.{Trail, union, adjoin-sub}

-- one step is grounded at S, the facts so far: its rule is one of the program, granted, and concludes the fact from premises in S
pub record Grounded (P : Program) (ok : Mask) (S : FactSet) (s : Step) : Type 0 where
  pub known : s.by < count P
  pub granted : ok s.by ≡ true
  pub concludes : (rule P s.by).conclusion ≡ s.fact
  pub founded : all S (rule P s.by).premises ≡ true

-- each step is grounded at S with the facts of the steps before it
abbrev pub Grounds : Program → Mask → FactSet → List Step → Type 0
Grounds P ok S [] = Unit {0}
Grounds P ok S (s ∷ row) = Grounded P ok S s × Grounds P ok (adjoin S s.fact) row

adjoin-mono : (S T : FactSet) (f : ℕ) → Sub S T → Sub (adjoin S f) (adjoin T f)
adjoin-mono S T f s g h = ⊎_elim (λ e. or_left _ _ e) (λ e. or_right (eqb g f) _ (s g e)) (or_cases (eqb g f) _ h)

pub grounded_mono : (P : Program) (ok ok' : Mask) → ((i : ℕ) → ok i ≡ true → ok' i ≡ true) → (S S' : FactSet) → Sub S S' → (x : Step) → Grounded P ok S x → Grounded P ok' S' x
grounded_mono P ok ok' o S S' s x g =
    record {
      known = g.known;
      granted = o x.by g.granted;
      concludes = g.concludes;
      founded = all-mono S S' (rule P x.by).premises s g.founded;
    }

pub grounds_mono : (P : Program) (ok ok' : Mask) → ((i : ℕ) → ok i ≡ true → ok' i ≡ true) → (row : List Step) (S S' : FactSet) → Sub S S' → Grounds P ok S row → Grounds P ok' S' row
grounds_mono P ok ok' o [] S S' s g = tt
grounds_mono P ok ok' o (x ∷ row) S S' s g = (
  grounded_mono P ok ok' o S S' s x g.0,
  grounds_mono P ok ok' o row (adjoin S x.fact) (adjoin S' x.fact) (adjoin-mono S S' x.fact s) g.1,
)

pub grounds_append : (P : Program) (ok : Mask) (xs ys : List Step) (S : FactSet) → Grounds P ok S xs → Grounds P ok (union S (facts_of xs)) ys → Grounds P ok S (xs ++ ys)
grounds_append P ok [] ys S g h =
    grounds_mono P ok ok (λ i t. t) ys (union S (facts_of [])) S (λ f t. ⊎_elim (λ e. e) (λ e. never e refl) (or_cases (S f) _ t)) h
grounds_append P ok (x ∷ xs) ys S g h = (
  g.0,
  grounds_append P ok xs ys (adjoin S x.fact) g.1
      (grounds_mono P ok ok (λ i t. t) ys (union S (facts_of (x ∷ xs))) (union (adjoin S x.fact) (facts_of xs)) (λ f t. sorted f t) h),
)
  where
    sorted : (f : ℕ) → union S (facts_of (x ∷ xs)) f ≡ true → union (adjoin S x.fact) (facts_of xs) f ≡ true
    sorted f t = swap (S f) (eqb f x.fact) (facts_of xs f) t
      where
        swap : (a b c : Bool) → a || (b || c) ≡ true → b || a || c ≡ true
        swap true true c h = refl
        swap true false c h = refl
        swap false true c h = refl
        swap false false c h = h

-- the front of a grounded row is grounded
pub grounds_front : (P : Program) (ok : Mask) (xs ys : List Step) (S : FactSet) → Grounds P ok S (xs ++ ys) → Grounds P ok S xs
grounds_front P ok [] ys S g = tt
grounds_front P ok (x ∷ xs) ys S g = (g.0, grounds_front P ok xs ys (adjoin S x.fact) g.1)

-- the steps of `derive` are grounded
pub trail_grounds : (P : Program) (on : Mask) (is : List ℕ) (S : FactSet) → Trail P on S is → Grounds P on S (map (step_by P) is)
trail_grounds P on [] S t = tt
trail_grounds P on (i ∷ is) S t = (
  record { known = t.0.known; granted = t.0.is_on; concludes = refl; founded = t.0.premises-in },
  trail_grounds P on is (conclude P S i) t.1,
)

-- A set that takes over each granted rule whose conclusion is in D, and holds S, holds the facts of a row whose facts are in D.
pub grounds_below : (P : Program) (ok : Mask) (D N : FactSet) → ((i : ℕ) → i < count P → ok i ≡ true → D (rule P i).conclusion ≡ true → all N (rule P i).premises ≡ true → N (rule P i).conclusion ≡ true) → (row : List Step) (S : FactSet) → Sub S N → Sub (facts_of row) D → Grounds P ok S row → Sub (facts_of row) N
grounds_below P ok D N c [] S s d g f m = never m refl
grounds_below P ok D N c (x ∷ row) S s d g f m =
    ⊎_elim
    (λ e. rw e held)
    (λ e. grounds_below P ok D N c row (adjoin S x.fact) (adjoin-sub S N x.fact s held) (λ h t. d h (mem-there h x.fact (map (λ y. y.fact) row) t)) g.1 f e)
    (mem-cases f x.fact (map (λ y. y.fact) row) m)
  where
    held : N x.fact ≡ true
    held =
        rw (← g.0.concludes)
        (c x.by g.0.known g.0.granted (rw g.0.concludes (d x.fact (mem-here x.fact (map (λ y. y.fact) row))))
        (all-mono S N (rule P x.by).premises s g.0.founded))

-- step k of a grounded row is grounded at S with the facts of the first k steps
pub grounds_at : (P : Program) (ok : Mask) (row : List Step) (S : FactSet) → Grounds P ok S row → (k : ℕ) → k < length row → Grounded P ok (union S (facts_of (take k row))) (step_at row k)
grounds_at P ok [] S g k l = absurd (omega arith)
grounds_at P ok (x ∷ row) S g zero l =
    grounded_mono P ok ok (λ i t. t) S (union S (facts_of [])) (λ f t. or_left _ _ t) x g.0
grounds_at P ok (x ∷ row) S g (suc k) l =
    grounded_mono P ok ok (λ i t. t) (union (adjoin S x.fact) (facts_of (take k row))) (union S (facts_of (x ∷ take k row)))
    (λ f u. sorted (S f) (eqb f x.fact) (facts_of (take k row) f) u) (step_at row k)
    (grounds_at P ok row (adjoin S x.fact) g.1 k (omega arith))
  where
    sorted : (a b c : Bool) → b || a || c ≡ true → a || (b || c) ≡ true
    sorted true b c h = refl
    sorted false true c h = refl
    sorted false false c h = h

pub facts-append : (xs ys : List Step) (f : ℕ) → facts_of (xs ++ ys) f ≡ facts_of xs f || facts_of ys f
facts-append [] ys f = refl
facts-append (x ∷ xs) ys f = go (eqb f x.fact) (facts-append xs ys f)
  where
    go : (b : Bool) → facts_of (xs ++ ys) f ≡ facts_of xs f || facts_of ys f → b || facts_of (xs ++ ys) f ≡ b || facts_of xs f || facts_of ys f
    go true e = refl
    go false e = e

pub facts-of_steps : (P : Program) (is : List ℕ) (f : ℕ) → facts_of (map (step_by P) is) f ≡ mem f (map (λ i. (rule P i).conclusion) is)
facts-of_steps P [] f = refl
facts-of_steps P (i ∷ is) f = rw (facts-of_steps P is f)
