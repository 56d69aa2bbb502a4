-- Internal: the search as it is computed; `search-earliest` and `search-none` in proofs/Search say what it finds.
use Rattle.std.specs.Prelude.{ℕ, Bool, cond, List, [], ◌∷◌}
use Rattle.std.specs.Bool.{beq}
use Rattle.std.proofs.Math.Option.{Option, none, some}
use Rattle.theory.specs.Rule.{all, keep, Program, Mask, FactSet, nothing, adjoin, constraint_fact}
use Rattle.theory.specs.Lists.{down_from}
use Rattle.theory.specs.Check.{least_of}

-- Which facts are guessed: the constraint facts, from the highest-numbered down.
unfoldable pub guessed : Program → Mask → List ℕ
guessed P on = keep (constraint_fact P on) (down_from P.facts)

-- Does the guess fit: the least set of the reduct by G has the guessed facts of G and no other guessed fact.
unfoldable pub fits : Program → Mask → FactSet → Bool
fits P on G = all (λ k. beq (least_of P on G k) (G k)) (guessed P on)

-- The first guess that passes the test, over the facts left to guess, each out before in; the facts of G are sure.
abbrev pub hunt : (FactSet → Bool) → List ℕ → FactSet → Option FactSet
hunt ok [] G = cond (ok G) (some G) none
hunt ok (k ∷ ks) G = elim (hunt ok ks G) [ some M ↦ some M | none ↦ hunt ok ks (adjoin G k) ]

-- The set that the search takes, if there is one.
unfoldable pub search : Program → Mask → Option FactSet
search P on = elim (hunt (fits P on) (guessed P on) nothing) [ none ↦ none | some G ↦ some (least_of P on G) ]
