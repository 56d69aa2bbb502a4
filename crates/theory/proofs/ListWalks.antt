-- Walks along a list, element by element: what is to come gives what the whole gives.
use Prim.Native.Nat.{ℕ, ◌+◌, ◌-◌, ◌≤◌, ◌<◌}
use native.Mathlib.Omega.{arith}
use native.Mathlib.Nat.{zero-add}
use mathlib.Core.Path.{◌≡◌, refl, sym, ap, ◌∙◌}
use mathlib.Core.Bool.{Bool, true, false, cond}
use mathlib.Core.List.{List, [], ◌∷◌}
use Rattle.theory.specs.Rule.{all, range, up_to, how_many}
use Rattle.theory.proofs.Lists.{range_all, range_cons, range-end}

-- A walk along a list with a test on each element: what is to come decides what the whole does.
pub record Decides (p : ℕ → Bool) (xs rest : List ℕ) : Type 0 where
  pub same : all p xs ≡ all p rest

module _ {p : ℕ → Bool} {xs rest : List ℕ} (w : Decides p xs rest) where
  pub all_pass : rest ≡ [] → true ≡ all p xs
  all_pass e = sym (w.same ∙ ap (all p) e)

  pub not_tested : (more : List ℕ) → rest ≡ more → Decides p xs more
  not_tested more e = record { same = w.same ∙ ap (all p) e }

  module _ (x : ℕ) (more : List ℕ) (e : rest ≡ x ∷ more) where
    pub one_fails : p x ≡ false → false ≡ all p xs
    one_fails q =
        let here : all p (x ∷ more) ≡ false = rw q in
        sym (w.same ∙ ap (all p) e ∙ here)

    pub one_passes : p x ≡ true → Decides p xs more
    one_passes q =
        let here : all p (x ∷ more) ≡ all p more = rw q in
        record { same = w.same ∙ ap (all p) e ∙ here }

pub whole-decides : (p : ℕ → Bool) (xs : List ℕ) → Decides p xs xs
whole-decides p xs = record { same = refl }

-- Counting the numbers below a bound that pass a test: those counted and those to come from i on are all.
pub record Counting (p : ℕ → Bool) (bound n i : ℕ) : Type 0 where
  pub inside : i ≤ bound
  pub few : n ≤ i
  pub same : how_many p (up_to bound) ≡ n + how_many p (range i (bound - i))

pub none_counted : (p : ℕ → Bool) (bound : ℕ) → Counting p bound 0 0
none_counted p bound =
    record {
      inside = omega arith;
      few = omega arith;
      same = ap (how_many p) (range_all bound) ∙ sym (zero-add (how_many p (range 0 (bound - 0))));
    }

module _ {p : ℕ → Bool} {bound n i : ℕ} (w : Counting p bound n i) where
  pub all-counted : bound ≤ i → n ≡ how_many p (up_to bound)
  all-counted h =
      let none : how_many p (range i (bound - i)) ≡ 0 = ap (how_many p) (range-end bound i h) in
      omega (arith, w.same)

  -- what number i gives, and those behind it
  one_more : i < bound → (b : Bool) → p i ≡ b → how_many p (range i (bound - i)) ≡ cond b 1 0 + how_many p (range (i + 1) (bound - (i + 1)))
  one_more h b e = ap (how_many p) (range_cons bound i h) ∙ bit b e
    where
      bit : (b : Bool) → p i ≡ b → how_many p (i ∷ range (i + 1) (bound - (i + 1))) ≡ cond b 1 0 + how_many p (range (i + 1) (bound - (i + 1)))
      bit true e = rw e (omega arith)
      bit false e = rw e (omega arith)

  pub one_counted : i < bound → p i ≡ true → Counting p bound (n + 1) (i + 1)
  one_counted h e =
      record { inside = omega arith; few = omega (arith, w.few); same = omega (arith, w.same, one_more h true e) }

  pub not-counted : i < bound → p i ≡ false → Counting p bound n (i + 1)
  not-counted h e =
      record { inside = omega arith; few = omega (arith, w.few); same = omega (arith, w.same, one_more h false e) }
