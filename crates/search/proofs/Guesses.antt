-- The facts to guess, as marked.
use Prim.Native.Nat.{ℕ, ◌≤◌, ◌<◌}
use native.Mathlib.Omega.{arith}
use mathlib.Core.Path.{◌≡◌, ap₂, ◌∙◌}
use mathlib.Core.List.{List}
use lib.ListN.{length, take, replicate, length-take}
use Rattle.theory.specs.Rule.{keep, how_many, up_to, Program, in_force, constraint_fact}
use Rattle.theory.specs.Lists.{down_from}
use Rattle.theory.specs.Search.{guessed}
use Rattle.theory.proofs.Lists.{mem-down_from, keep_same}
use Rattle.items.specs.Item.{narrow, max_facts, has}
use Rattle.reader.specs.Questions.{constraint_facts}
use Rattle.marking.specs.Marks.{paint}
use Rattle.marking.proofs.MarksPainted.{painted}
use Rattle.marking.proofs.RulesMarked.{painted_count}

-- The constraint facts, as marked.
module _ (P : Program) (h : P.facts ≤ max_facts narrow) (marks : List ℕ) (m : marks ≡ paint (constraint_fact P (in_force P)) (replicate (max_facts narrow) 0)) (n : ℕ) (f : n ≡ P.facts) where
  pub guesses-counted : how_many (has marks) (up_to n) ≡ constraint_facts P
  unfolding constraint_facts
  guesses-counted = painted_count (max_facts narrow) (constraint_fact P (in_force P)) n P.facts f h marks m

  pub guesses-listed : keep (has marks) (down_from n) ≡ guessed P (in_force P)
  unfolding has guessed
  guesses-listed =
      ap₂ (λ (l : List ℕ) (k : ℕ). keep (has l) (down_from k)) m f
      ∙ keep_same _ (constraint_fact P (in_force P)) (down_from P.facts) (λ k d. painted (max_facts narrow) (constraint_fact P (in_force P)) k (below (mem-down_from P.facts k d)))
    where
      below : {k : ℕ} → k < P.facts → k < max_facts narrow
      below l = omega arith

-- the first so many elements are at most so many
pub taken-few : (n m : ℕ) (xs : List ℕ) → n ≤ m → length (take n xs) ≤ m
taken-few n m xs l = simp length-take (omega arith)
