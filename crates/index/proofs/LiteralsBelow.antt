-- The literals of a rule's body are below the count of literals.
use Prim.Native.Nat.{ℕ, ◌≤◌, ◌<◌}
use mathlib.Core.Path.{◌≡◌, refl, ◌∙◌}
use mathlib.Core.Bool.{true}
use mathlib.Core.List.{List, [], ◌∷◌, map}
use native.Mathlib.Omega.{arith}
use borrow.Author.Tests.{lt-ltb, ltb-true}
use lib.Dec.{ltb}
use Rattle.theory.specs.Rule.{all, mem, Program, count, rule}
use Rattle.theory.specs.Conditions.{Bounded}
use Rattle.theory.proofs.Bools.{and_left, and_right, and_both}
use Rattle.theory.proofs.Lists.{all-elem, all_of, all_append}
use Rattle.items.specs.Item.{narrow, max_facts}
use Rattle.index.specs.Literal.{outside, literals, body}

module _ (P : Program) (b : Bounded P) (few : P.facts ≤ max_facts narrow) (i : ℕ) (h : i < count P) where
  premises_small : all (λ l. ltb l literals) (rule P i).premises ≡ true
  premises_small = all_of (λ l. ltb l literals) (rule P i).premises (λ x m. small x (all-elem (λ f. ltb f P.facts) (rule P i).premises (b.premises_below i h) x m))
    where
      small : (x : ℕ) → ltb x P.facts ≡ true → ltb x literals ≡ true
      small x t = let below : x < P.facts = ltb-true x P.facts t in lt-ltb x literals (omega arith)

  constraints-small : all (λ l. ltb l literals) (map outside (rule P i).constraints) ≡ true
  constraints-small = go (rule P i).constraints (b.constraints_below i h)
    where
      go : (xs : List ℕ) → all (λ f. ltb f P.facts) xs ≡ true → all (λ l. ltb l literals) (map outside xs) ≡ true
      go [] a = refl
      go (x ∷ xs) a =
          let below : x < P.facts = ltb-true x P.facts (and_left _ _ a) in
          and_both (lt-ltb (outside x) literals (omega arith)) (go xs (and_right (ltb x P.facts) _ a))

  body-small : all (λ l. ltb l literals) (body (rule P i)) ≡ true
  body-small = all_append (λ l. ltb l literals) (rule P i).premises (map outside (rule P i).constraints) ∙ and_both premises_small constraints-small

  pub body_below : (l : ℕ) → mem l (body (rule P i)) ≡ true → l < literals
  body_below l m = ltb-true l literals (all-elem (λ x. ltb x literals) (body (rule P i)) body-small l m)
