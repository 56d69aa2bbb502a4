-- The steps of a row of rules, and the places of the facts in it.
use Prim.Native.Nat.{ℕ, zero, suc, ◌+◌, ◌<◌, ◌≤◌}
use mathlib.Core.Path.{◌≡◌, refl, sym, ap, ◌∙◌}
use mathlib.Core.Bool.{true}
use mathlib.Core.List.{List, [], ◌∷◌}
use mathlib.Core.Logic.{⊎_elim}
use native.Mathlib.Omega.{arith}
use borrow.Author.Tests.{eqb-true, eqb-false}
use lib.ListN.{length, get_or, take, set, length-set, length-map}
use lib.Seq.{get_or-set_same, get_or-set_other}
use lib.Dec.{eqb}
use Rattle.theory.specs.Rule.{mem, Program, count, rule, Step}
use Rattle.theory.specs.Derive.{step_by}
use Rattle.theory.specs.Stable.{step_at, facts_of, used_rule}
use Rattle.theory.specs.Keeping.{Traced}
use Rattle.theory.proofs.Bools.{either}
use Rattle.theory.proofs.Lists.{all-elem, get_or-mem}
use Rattle.theory.proofs.Keeping.{fact-before, fact-place}
use Rattle.items.specs.Item.{narrow, max_facts}
use Rattle.tables.specs.Layout.{program_in, WellFormed}
use Rattle.tables.proofs.ProgramHeld.{facts_below, conclusion_below}
use Rattle.kept_steps.specs.Keep.{steps_by, place_of, Placed}

steps-length : (P : Program) (rules : List ℕ) → length (steps_by P rules) ≡ length rules
steps-length P rules = length-map rules (step_by P)

pub step-at : (P : Program) (rules : List ℕ) (k : ℕ) → k < length rules → step_at (steps_by P rules) k ≡ step_by P (get_or rules k 0)
step-at P [] k l = absurd (omega arith)
step-at P (i ∷ rules) zero l = refl
step-at P (i ∷ rules) (suc k) l = step-at P rules k (omega arith)

pub step-inside : (P : Program) (rules : List ℕ) (k : ℕ) → k < length rules → k < length (steps_by P rules)
step-inside P rules k l = rw (steps-length P rules) l

pub rule_known : (P : Program) (rules : List ℕ) → Traced P (steps_by P rules) → (k : ℕ) → k < length rules → get_or rules k 0 < count P
rule_known P rules r k l = rw (step-at P rules k l) at (r.known k (step-inside P rules k l))

-- The table has a cell for the fact of each step.
pub fact-few : {T : List ℕ} → WellFormed T → (rules : List ℕ) → Traced (program_in T) (steps_by (program_in T) rules) → (k : ℕ) → k < length rules → (rule (program_in T) (get_or rules k 0)).conclusion < max_facts narrow
fact-few {T} w rules r k l = omega (arith, facts_below w, conclusion_below w (rule_known (program_in T) rules r k l))

module _ {P : Program} {row : List Step} {places : List ℕ} (r : Traced P row) (p : Placed row places) where
  place_is : (f j : ℕ) → j < length row → (step_at row j).fact ≡ f → place_of places f ≡ j
  place_is f j inside same = ap (place_of places) (sym same) ∙ p.step_there j inside

  -- The step of a premise stands before the step of the rule.
  pub premise_placed : (k : ℕ) → k < length row → (f : ℕ) → mem f (used_rule P row k).premises ≡ true → (place_of places f < k) × ((step_at row (place_of places f)).fact ≡ f)
  premise_placed k l f m =
      let (j, less, inside, same) = fact-before row k f (all-elem (facts_of (take k row)) (used_rule P row k).premises (r.founded k l) f m) in
      rw (place_is f j inside same) (less, same)

  -- A fact of the row has its step at its place.
  pub fact-placed : (f : ℕ) → facts_of row f ≡ true → (place_of places f < length row) × ((step_at row (place_of places f)).fact ≡ f)
  fact-placed f m =
      let (j, inside, same) = fact-place row f m in
      rw (place_is f j inside same) (inside, same)

-- Over the rules of the row: the table has a cell for a fact of the row, and in it the place of its step.
pub own-few : {T : List ℕ} → WellFormed T → (rules : List ℕ) → Traced (program_in T) (steps_by (program_in T) rules) → (f : ℕ) → facts_of (steps_by (program_in T) rules) f ≡ true → f < max_facts narrow
own-few {T} w rules r f m =
    let (j, inside, same) = fact-place (steps_by (program_in T) rules) f m in
    let low : j < length rules = rw (steps-length (program_in T) rules) at inside in
    rw (← same, step-at (program_in T) rules j low) (fact-few w rules r j low)

pub own-placed : {P : Program} (rules places : List ℕ) (f : ℕ) → Traced P (steps_by P rules) → Placed (steps_by P rules) places → facts_of (steps_by P rules) f ≡ true → place_of places f < length rules
own-placed {P} rules places f r p m = rw (steps-length P rules) at (fact-placed r p f m).0

-- The step of a premise, by its place among the premises, stands before the step of the rule.
pub premise-before : {P : Program} (rules : List ℕ) {places own : List ℕ} (k j : ℕ) → Traced P (steps_by P rules) → Placed (steps_by P rules) places → k < length rules → own ≡ (rule P (get_or rules k 0)).premises → j < length own → place_of places (get_or own j 0) < k
premise-before {P} rules {own = own} k j r p l e h =
    (premise_placed r p k (step-inside P rules k l) (get_or own j 0) (rw (step-at P rules k l, ← e) (get_or-mem own j h))).0

-- The facts of the first k steps have their places.
pub record Placing (P : Program) (rules places : List ℕ) (k : ℕ) : Type 0 where
  pub reached : k ≤ length rules
  pub cells : length places ≡ max_facts narrow
  pub so_far : (j : ℕ) → j < k → place_of places (rule P (get_or rules j 0)).conclusion ≡ j

module _ {P : Program} {rules places : List ℕ} {k : ℕ} (r : Traced P (steps_by P rules)) (w : Placing P rules places k) where
  pub one_placed : k < length rules → (rule P (get_or rules k 0)).conclusion < max_facts narrow → Placing P rules (set places (rule P (get_or rules k 0)).conclusion k) (k + 1)
  one_placed l few =
      record {
        reached = omega arith;
        cells = length-set places _ k ∙ w.cells;
        so_far = λ j h. ⊎_elim (λ e. here j (eqb-true j k e)) (λ e. before j h (eqb-false j k e)) (either (eqb j k));
      }
    where
      own : ℕ
      own = (rule P (get_or rules k 0)).conclusion

      here : (j : ℕ) → j ≡ k → place_of (set places own k) (rule P (get_or rules j 0)).conclusion ≡ j
      here j e = rw e (get_or-set_same places own k 0 (omega (arith, w.cells, few)))

      before : (j : ℕ) → j < k + 1 → (j ≡ k → ⊥) → place_of (set places own k) (rule P (get_or rules j 0)).conclusion ≡ j
      before j h ne =
          let low : j < length rules = omega (arith, w.reached) in
          get_or-set_other places own _ k 0 (λ same. ne (r.once j k (step-inside P rules j low) (step-inside P rules k l) (ap (λ (s : Step). s.fact) (step-at P rules j low) ∙ same ∙ sym (ap (λ (s : Step). s.fact) (step-at P rules k l)))))
          ∙ w.so_far j (omega arith)

  pub all_placed : length rules ≤ k → Placed (steps_by P rules) places
  all_placed l =
      record {
        step_there = λ j h. let low : j < length rules = rw (steps-length P rules) at h in rw (step-at P rules j low) (w.so_far j (omega arith));
      }
