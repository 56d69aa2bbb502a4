-- In the orders that are handed out the rules that are not in force come last, ascending.
use Prim.Native.Nat.{ℕ, suc, ◌+◌, ◌<◌, ◌≤◌}
use native.Mathlib.Omega.{arith}
use mathlib.Core.Path.{◌≡◌, refl, sym, ap, ◌∙◌}
use mathlib.Core.Bool.{Bool, true, false, cond, not, ◌&&◌}
use mathlib.Core.List.{List, [], ◌∷◌, ◌++◌}
use borrow.Author.Tests.{ne_eqb}
use lib.Dec.{eqb}
use Rattle.theory.specs.Rule.{all, keep, up_to, by_key, first_case, Program, Mask, FactSet, count, rule, exception}
use Rattle.theory.specs.Stable.{upheld, group_for, order_for}
use Rattle.theory.specs.Layers.{rank_key}
use Rattle.theory.proofs.Bools.{never, and_left}
use Rattle.theory.proofs.Lists.{all_of, keep_same, eqb-self}
use Rattle.theory.proofs.ByKey.{key_member, keys_last}
use Rattle.theory.proofs.Layered.{order_by_rank}

-- the exception rules that are not in force, ascending
abbrev pub off_rules : Program → Mask → List ℕ
off_rules P on = keep (λ i. exception P i && not (on i)) (up_to (count P))

pub record OffLast (P : Program) (on : Mask) (row : List ℕ) : Type 0 where
  pub front : List ℕ
  pub is : row ≡ front ++ off_rules P on
  pub in-force : all on front ≡ true

module _ (P : Program) (on : Mask) where
  -- a row by key whose last key is that of the rules that are not in force
  by_key_off : (key : ℕ → ℕ) (n : ℕ) → ((i : ℕ) → exception P i ≡ true → eqb (key i) n ≡ not (on i)) → OffLast P on (by_key (exception P) key (count P) 0 (suc n))
  by_key_off key n last =
      record {
        front = by_key (exception P) key (count P) 0 n;
        is = keys_last (exception P) key (count P) 0 n ∙ ap (λ (xs : List ℕ). by_key (exception P) key (count P) 0 n ++ xs) (keep_same _ _ (up_to (count P)) (λ i _. tested i (exception P i) refl));
        in-force = all_of on (by_key (exception P) key (count P) 0 n) (λ i m. first i (key_member (exception P) key (count P) 0 n i m));
      }
    where
      tested : (i : ℕ) (b : Bool) → exception P i ≡ b → b && eqb (key i) (0 + n) ≡ b && not (on i)
      tested i true e = let same : 0 + n ≡ n = omega arith in rw same (last i e)
      tested i false e = refl

      first : (i : ℕ) → (exception P i ≡ true) × (i < count P) × (0 ≤ key i) × (key i < 0 + n) → on i ≡ true
      first i t =
          let low : key i < 0 + n = t.3 in
          go (on i) (sym (ne_eqb (key i) n (λ e. omega arith)) ∙ last i t.0)
        where
          go : (b : Bool) → false ≡ not b → b ≡ true
          go true e = refl
          go false e = never refl (sym e)

  -- the search's order for a set
  pub order-off_last : (M : FactSet) → OffLast P on (order_for P on M)
  unfolding order_for
  order-off_last M = by_key_off (group_for P on M) 2 (λ i _. go (on i) refl (upheld P on M i) refl)
    where
      go : {i : ℕ} (o : Bool) → on i ≡ o → (u : Bool) → upheld P on M i ≡ u → eqb (first_case ((u, 0) ∷ (o, 1) ∷ []) 2) 2 ≡ not o
      go true e true f = refl
      go true e false f = refl
      go {i} false e true f = never (and_left (on i) _ f) e
      go false e false f = refl

  -- the order by rank, where the ranks of conclusions are below the key of the rules that are not in force
  pub rank_off_last : (rank : ℕ → ℕ) → ((i : ℕ) → exception P i ≡ true → on i ≡ true → rank (rule P i).conclusion < P.facts) → OffLast P on (order_by_rank P on rank)
  rank_off_last rank low = by_key_off (rank_key P on rank) P.facts (λ i x. go (on i) refl (low i x))
    where
      go : {i : ℕ} (o : Bool) → on i ≡ o → (on i ≡ true → rank (rule P i).conclusion < P.facts) → eqb (cond o (rank (rule P i).conclusion) P.facts) P.facts ≡ not o
      go {i} true e l = let b : rank (rule P i).conclusion < P.facts = l e in ne_eqb (rank (rule P i).conclusion) P.facts (λ q. omega arith)
      go false e l = eqb-self P.facts
