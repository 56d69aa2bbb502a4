-- The grounds from what a run leaves in memory.
use Prim.Native.Nat.{ℕ, ◌<◌, ◌≤◌}
use mathlib.Core.Path.{◌≡◌, sym, ap, ◌∙◌}
use mathlib.Core.Bool.{true, false}
use mathlib.Core.List.{List}
use mathlib.Core.Logic.{⊎_elim}
use native.Mathlib.Omega.{arith}
use borrow.Author.Tests.{ltb-true, ltb-false}
use lib.ListN.{length, get_or, take, length-map}
use lib.Seq.{length-take-le, get_or-take}
use lib.Dec.{ltb}
use Rattle.theory.specs.Rule.{Program, FactSet, in_force, count}
use Rattle.theory.specs.Derive.{step_by}
use Rattle.theory.specs.Run.{Stand, run, marks_of_facts, marks_of_rules}
use Rattle.theory.specs.Stable.{facts_of}
use Rattle.theory.specs.Keeping.{grounds_of, Traced}
use Rattle.theory.proofs.Bools.{never, either}
use Rattle.theory.proofs.Run.{run_sound}
use Rattle.theory.proofs.Keeping.{run-traced}
use Rattle.items.specs.declared.refusal.Refusal.TheVariants.{NotDerived}
use Rattle.items.specs.Item.{narrow, max_facts, has}
use Rattle.items.specs.Write.{over}
use Rattle.marking.proofs.MarksPainted.{past_end}
use Rattle.closure.specs.Steps.{step_bytes}
use Rattle.stage.specs.Memory.{Holds}
use Rattle.std.specs.Prelude.{Ok}
use Rattle.kept_steps.specs.Keep.{steps_by}
use Rattle.keeping.specs.Outcome.{GroundsOutcome, grounds_written, grounds_refused}
use Rattle.keeping.specs.Told.{grounds_told}

-- a number that is marked is one of the marks' places
pub marked-small : (marks : List ℕ) (f : ℕ) → length marks ≡ max_facts narrow → has marks f ≡ true → f < max_facts narrow
marked-small marks f l t =
    ⊎_elim (λ h. ltb-true f _ h) (λ h. never t (past_end marks f (omega (arith, l, ltb-false f (max_facts narrow) h)))) (either (ltb f (max_facts narrow)))

-- the first numbers of a row of rules are rules
pub front-known : (P : Program) (row : List ℕ) (m : ℕ) → m ≤ length row → ((k : ℕ) → k < m → get_or row k 0 < count P) → (k : ℕ) → k < length (take m row) → get_or (take m row) k 0 < count P
front-known P row m inside known k h =
    let below : k < m = omega (arith, length-take-le m row inside) in
    rw (get_or-take m row k 0 below) (known k below)

-- the memory holds a run
module _ {P : Program} (order : List ℕ) {marks fired : List ℕ} {n : ℕ} (few : P.facts < max_facts narrow) (h : Holds P (run P (in_force P) order) marks fired n) where
  abbrev ran : Stand
  ran = run P (in_force P) order

  pub fired-length : length (take n fired) ≡ n
  fired-length = length-take-le n fired (omega (arith, h.fits, h.fired_places))

  pub fired-traced : Traced P (steps_by P (take n fired))
  fired-traced = rw (← h.traced) (run-traced P (in_force P) order)

  pub marked-derived : (f : ℕ) → has marks f ≡ ran.derived f
  marked-derived f = ap (λ (D : FactSet). D f) h.shows.d

  pub marked-fired : (f : ℕ) → has marks f ≡ true → facts_of (steps_by P (take n fired)) f ≡ true
  marked-fired f t = rw (← h.traced) (sym ((run_sound P (in_force P) order).facts f) ∙ sym (marked-derived f) ∙ t)

  -- the fact was not derived
  pub told-not : (fact : ℕ) (facts rules steps : List ℕ) → has marks fact ≡ false → ◌≡◌ {A = GroundsOutcome} (grounds_refused NotDerived facts rules steps) (grounds_told P ran fact facts rules steps)
  unfolding grounds_told
  told-not fact facts rules steps e = rw (sym (marked-derived fact) ∙ e)

  -- it was, and the rules of a row are those of the steps that are kept for it
  module _ (fact m : ℕ) (row : List ℕ) (t : has marks fact ≡ true) (kept : steps_by P (take m row) ≡ grounds_of P fact (steps_by P (take n fired))) (inside : m ≤ length row) where
    same_steps : steps_by P (take m row) ≡ grounds_of P fact ran.trace
    same_steps = kept ∙ ap (grounds_of P fact) (sym h.traced)

    counted : m ≡ length (grounds_of P fact ran.trace)
    counted = sym (length-take-le m row inside) ∙ sym (length-map (take m row) (step_by P)) ∙ ap length same_steps

    pub told-given : (facts rules steps facts' rules' steps' : List ℕ) → facts' ≡ over (marks_of_facts P ran) facts → rules' ≡ over (marks_of_rules P (in_force P) ran) rules → steps' ≡ over (step_bytes narrow (steps_by P (take m row))) steps → ◌≡◌ {A = GroundsOutcome} (record { answer = Ok m; fact_marks = facts'; rule_marks = rules'; steps = steps' }) (grounds_told P ran fact facts rules steps)
    unfolding grounds_told grounds_written
    told-given facts rules steps facts' rules' steps' a b c =
        let d : ran.derived fact ≡ true = sym (marked-derived fact) ∙ t in
        rw (d, ← counted, ← same_steps, a, b, c)
