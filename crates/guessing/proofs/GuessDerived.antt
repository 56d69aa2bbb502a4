-- What a guess derives: with the facts of the row that it leaves out held out too, the marks show it.
use Prim.Native.Nat.{ℕ, ◌<◌}
use native.Mathlib.Omega.{arith}
use mathlib.Core.Path.{◌≡◌, refl, ap, ◌∙◌}
use mathlib.Core.Bool.{Bool, true, false, not, ◌||◌}
use mathlib.Core.List.{List}
use mathlib.Core.Logic.{⊎_elim}
use borrow.Author.Tests.{lt-ltb}
use lib.Dec.{ltb}
use lib.ListN.{length, get_or, take, drop}
use lib.Seq.{take-length}
use Rattle.theory.specs.Rule.{all, mem, Program, FactSet, in_force, constraint_fact, count}
use Rattle.theory.specs.Conditions.{Bounded}
use Rattle.theory.specs.Lists.{down_from}
use Rattle.theory.specs.Check.{least_of}
use Rattle.theory.specs.Search.{guessed}
use Rattle.theory.specs.Guesses.{guess_at, left_out}
use Rattle.theory.proofs.Bools.{either, never, and_left, or-none}
use Rattle.theory.proofs.Lists.{all_of, element_below, mem-keep, mem-down_from}
use Rattle.theory.proofs.Stable.{least_of-agrees, least_of-mask}
use Rattle.theory.proofs.Search.{constraint_guessed}
use Rattle.theory.proofs.Guesses.{guess_off, left_out_lem, none_left_out}
use Rattle.items.specs.Item.{narrow, max_facts, has}
use Rattle.tables.specs.Layout.{program_in, WellFormed}
use Rattle.tables.proofs.ProgramHeld.{facts_below}
use Rattle.index.specs.Literal.{outside}
use Rattle.index.specs.Cells.{on_in}
use Rattle.propagation.specs.State.{Settled, HeldToo, not_held_out}
use Rattle.propagation.proofs.Least.{settled_least}
use Rattle.guessing.specs.Guessing.{sure_in, Base, Derived, RowBase}

pub guessed-below : (P : Program) (k : ℕ) → mem k (guessed P (in_force P)) ≡ true → k < P.facts
unfolding guessed
guessed-below P k m =
    mem-down_from P.facts k (and_left (mem k (down_from P.facts)) (constraint_fact P (in_force P) k) (rw (mem-keep (constraint_fact P (in_force P)) (down_from P.facts) k) at m))

-- The marks show the least set of the reduct by a set that agrees with the facts held out.
pub settled_set : (P : Program) → Bounded P → (R marks missing : List ℕ) (G : FactSet) → ((i : ℕ) → i < count P → on_in R i ≡ in_force P i) → Settled P (on_in R) marks missing → ((k : ℕ) → mem k (guessed P (in_force P)) ≡ true → not_held_out (has marks) k ≡ G k) → (f : ℕ) → f < max_facts narrow → has marks f ≡ least_of P (in_force P) G f
settled_set P b R marks missing G on s a f h =
    settled_least P (on_in R) marks missing s f h
    ∙ ap (λ (S : FactSet). S f) (least_of-mask P (on_in R) (in_force P) on (not_held_out (has marks)))
    ∙ ap (λ (S : FactSet). S f) (least_of-agrees P (in_force P) (not_held_out (has marks)) G (λ k c. a k (constraint_guessed P (in_force P) b k c)))

-- what is left out of a guess is of the row
left-in_row : (row : List ℕ) (g k : ℕ) → mem k (left_out row g) ≡ true → mem k row ≡ true
left-in_row row g k m = ⊎_elim (λ t. t) (λ t. never m (none_left_out row g k t)) (either (mem k row))

-- The facts of the row have their places in the marks.
module _ {T row base : List ℕ} (f : WellFormed T) (r : RowBase (program_in T) row base) where
  row_below : (k : ℕ) → mem k row ≡ true → ltb k (max_facts narrow) ≡ true
  row_below k m =
      let l : k < (program_in T).facts = guessed-below (program_in T) k (r.to_guess.asked k m) in
      lt-ltb k (max_facts narrow) (omega (arith, facts_below f))

  pub row-facts : all (λ k. ltb k (max_facts narrow)) row ≡ true
  row-facts = all_of (λ k. ltb k (max_facts narrow)) row row_below

  pub row-fact : (n : ℕ) → n < length row → get_or row n 0 < max_facts narrow
  row-fact n l = element_below (max_facts narrow) row n row-facts l

module _ {T R row base missing : List ℕ} (w : WellFormed T) (b : Base (program_in T) R row base missing) where
  -- Those that a guess leaves out have their places too.
  pub left-facts : (g : ℕ) (outs : List ℕ) → outs ≡ left_out row g → all (λ k. ltb k (max_facts narrow)) outs ≡ true
  left-facts g outs is = all_of (λ k. ltb k (max_facts narrow)) outs (λ k m. row_below w b.row_base k (left-in_row row g k (rw is at m)))

  -- With those held out too the marks show what the guess derives.
  pub guess_derived : (g n : ℕ) (outs marks left : List ℕ) → outs ≡ left_out row g → n ≡ length outs → Settled (program_in T) (on_in R) marks left → HeldToo base (drop 0 (take n outs)) marks → Derived (program_in T) row base g marks
  guess_derived g n outs marks left is whole s held =
      settled_set (program_in T) w.in_bounds R marks left (guess_at row (sure_in (program_in T) row base) g) b.in-force s
      (λ k m. ⊎_elim (of_row k) (beside k m) (either (mem k row)))
    where
      also : (k : ℕ) → has marks (outside k) ≡ has base (outside k) || mem k (left_out row g)
      also k = held k ∙ ap (λ (ks : List ℕ). has base (outside k) || mem k ks) (ap (λ (m : ℕ). take m outs) whole ∙ take-length outs ∙ is)

      twice : (c : Bool) → not (not c) ≡ c
      twice true = refl
      twice false = refl

      of_row : (k : ℕ) → mem k row ≡ true → not_held_out (has marks) k ≡ guess_at row (sure_in (program_in T) row base) g k
      of_row k t =
          rw (also k, b.row_base.undecided k t, left_out_lem row (sure_in (program_in T) row base) g k b.row_base.to_guess.once b.row_base.to_guess.free t)
          (twice (guess_at row (sure_in (program_in T) row base) g k))

      beside : (k : ℕ) → mem k (guessed (program_in T) (in_force (program_in T))) ≡ true → mem k row ≡ false → not_held_out (has marks) k ≡ guess_at row (sure_in (program_in T) row base) g k
      beside k m t =
          rw (also k, none_left_out row g k t, or-none (has base (outside k)), guess_off row (sure_in (program_in T) row base) g k t, m, t) refl
