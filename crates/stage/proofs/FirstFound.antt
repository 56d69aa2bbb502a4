-- The look along an order: the places taken so far have no eligible rule, so the first that has one is the first of the order.
use Prim.Native.Nat.{ℕ, ◌<◌}
use mathlib.Core.Path.{◌≡◌, refl, sym, ap, subst, ◌∙◌}
use mathlib.Core.Bool.{Bool, true, false, not, ◌&&◌, ◌||◌}
use mathlib.Core.List.{List}
use mathlib.Core.Logic.{◌⊎◌, inl, inr, ⊎_elim}
use mathlib.Core.Option.{some}
use native.Mathlib.Omega.{arith}
use borrow.Author.Tests.{eqb-true, eq-eqb, ne_eqb}
use lib.ListN.{length, get_or, take, drop}
use lib.Seq.{drop_at, length-take-le}
use lib.Dec.{eqb}
use Rattle.theory.specs.Rule.{all, clear, mem, Program, Mask, FactSet, withheld, in_force, count, rule, exception, plain_rules}
use Rattle.theory.specs.Run.{Stand, rejected, eligible, first_eligible}
use Rattle.theory.proofs.Bools.{never, or_right, and_right, false_of}
use Rattle.theory.proofs.Lists.{get_or-mem, clear-anti, seek-at, none_passes}
use Rattle.theory.proofs.Run.{eligible-parts, exception-known, trial-above}
use Rattle.theory.proofs.Barred.{conclusion_barred}
use Rattle.theory.proofs.Withheld.{withheld-off}
use Rattle.items.specs.Item.{narrow, max_facts, has}
use Rattle.marking.specs.Marks.{barred, barred_in}
use Rattle.closure.specs.Room.{Room}
use Rattle.closure.specs.Deriving.{AtRest}
use Rattle.std.specs.Prelude.{Option, Some, None}
use Rattle.bits.specs.Flags.{Flags, without, lowest_of, Taken as LowestTaken}
use Rattle.bits.proofs.RowTaken.{lowest-is, none_lower, nothing_left}
use Rattle.stage.specs.Memory.{Holds, StandAtRest, Passes}
use Rattle.stage.specs.Look.{Awake, AwakeBut, Looking, Taken, Ended}

-- The memory has room for a trial.
pub held-room : {P : Program} {s : Stand} {marks fired : List ℕ} {n : ℕ} → P.facts < max_facts narrow → Holds P s marks fired n → Room P marks n
held-room few w = record { places = w.marks_places; cells_left = rw w.shows.d (omega (arith, w.fits)) }

-- The counts are those of the marks.
pub resting : {P : Program} {s : Stand} {marks missing fired : List ℕ} {n : ℕ} {on : Mask} → on ≡ plain_rules P (in_force P) → Holds P s marks fired n → StandAtRest P s missing → AtRest P on (has marks) missing
resting {P} {s} {marks} {missing} {fired} {n} {on} p w r = subst (λ (S : FactSet). AtRest P on S missing) (sym w.shows.d) (subst (λ (o : Mask). AtRest P o s.derived missing) (sym p) r)

-- The rule at place k is on its turn.
pub record Turn (P : Program) (order marks missing fired : List ℕ) (n : ℕ) (awake : List ℕ) (s : Stand) (k : ℕ) : Type 0 where
  pub inside : k < length order
  pub known : get_or order k 0 < count P
  pub excepted : exception P (get_or order k 0) ≡ true
  pub premises-in : all s.derived (rule P (get_or order k 0)).premises ≡ true
  pub holds : Holds P s marks fired n
  pub rests : StandAtRest P s missing
  -- where it is refused, the look goes on; where it is not, it is the first
  pub refused : eligible P (in_force P) s (get_or order k 0) ≡ false → (marks' missing' fired' : List ℕ) → Holds P s marks' fired' n → StandAtRest P s missing' → (p : ℕ → Bool) × Looking P order marks' missing' fired' n awake s p
  pub passes : (marks' missing' fired' : List ℕ) (m : ℕ) → Passes P s (get_or order k 0) fired n marks' missing' fired' m → Taken P order s n (get_or order k 0) marks' missing' fired' awake m

module _ {P : Program} {order marks missing fired : List ℕ} {n : ℕ} {awake : List ℕ} {s : Stand} {p : ℕ → Bool} (w : Looking P order marks missing fired n awake s p) where
  pub none_found : {r : Option ℕ} (after : List ℕ) → LowestTaken p r after → r ≡ None → Ended P order s n marks fired
  none_found after t e =
      record {
        none_left = none_passes (eligible P (in_force P) s) order (λ k h. w.waits.asleep k h (nothing_left w.flags (t.none_left e) k));
        holds = w.holds;
      }

  module _ (few : P.facts < max_facts narrow) (k : ℕ) (e : lowest_of p ≡ some k) (awake' : List ℕ) (f : Flags (without p k) awake') where
    here : k < length order
    here = (w.waits.roused k (lowest-is p k e).passes).0

    other : (j : ℕ) → without p k j ≡ true → p j ≡ true
    other j t = and_right (not (eqb j k)) (p j) t

    gone : (j : ℕ) → without p k j ≡ false → (j ≡ k) ⊎ (p j ≡ false)
    gone j t = go (eqb j k) refl t
      where
        go : (b : Bool) → eqb j k ≡ b → not b && p j ≡ false → (j ≡ k) ⊎ (p j ≡ false)
        go true q u = inl (eqb-true j k q)
        go false q u = inr u

    refused-there : eligible P (in_force P) s (get_or order k 0) ≡ false → Awake P order s (without p k)
    refused-there out =
        record {
          roused = λ j t. w.waits.roused j (other j t);
          asleep = λ j h t. ⊎_elim (λ q. ap (λ (i : ℕ). eligible P (in_force P) s (get_or order i 0)) q ∙ out) (λ q. w.waits.asleep j h q) (gone j t);
        }

    taken-there : AwakeBut P order s (get_or order k 0) (without p k)
    taken-there =
        record {
          roused = λ j t. w.waits.roused j (other j t);
          asleep = λ j h t. ⊎_elim (λ q. inr (ap (λ (i : ℕ). get_or order i 0) q)) (λ q. inl (w.waits.asleep j h q)) (gone j t);
        }

    first-there : eligible P (in_force P) s (get_or order k 0) ≡ true → first_eligible P (in_force P) order s ≡ some (get_or order k 0)
    first-there t =
        seek-at (eligible P (in_force P) s) order k here (λ j h. w.waits.asleep j (omega (arith, here)) (none_lower p k e j h)) t

    is_exception : exception P (get_or order k 0) ≡ true
    is_exception = w.names_only (get_or order k 0) (get_or-mem order k here)

    turn_at : Turn P order marks missing fired n awake' s k
    turn_at =
        record {
          inside = here;
          known = exception-known P (in_force P) (get_or order k 0) is_exception;
          excepted = is_exception;
          premises-in = (w.waits.roused k (lowest-is p k e).passes).1;
          holds = w.holds;
          rests = w.rests;
          refused = λ out marks' missing' fired' h r. (without p k, record { names_only = w.names_only; holds = h; rests = r; flags = f; waits = refused-there out });
          passes = λ marks' missing' fired' m t.
              record {
                first = first-there t.is_eligible;
                holds = t.holds;
                rests = t.rests;
                added = ap (drop n) t.added ∙ drop_at (take n fired) _ n (length-take-le n fired (omega (arith, w.holds.fits, w.holds.fired_places, few)));
                places = without p k;
                flags = f;
                waits = taken-there;
              };
        }

  pub turn : P.facts < max_facts narrow → {r : Option ℕ} {k : ℕ} {after : List ℕ} → LowestTaken p r after → r ≡ Some k → Turn P order marks missing fired n after s k
  turn few {r} {k} {after} t e = turn_at few k (t.lowest k e) after (t.rest k e)

-- The look so far: wherever the memory held a stand at entry, it holds that stand still.
abbrev pub Onward : Program → List ℕ → List ℕ → List ℕ → List ℕ → ℕ → List ℕ → List ℕ → List ℕ → List ℕ → List ℕ → Type 0
Onward P order marks₀ missing₀ fired₀ n awake₀ marks missing fired awake = (s : Stand) (p : ℕ → Bool) → Looking P order marks₀ missing₀ fired₀ n awake₀ s p → (q : ℕ → Bool) × Looking P order marks missing fired n awake s q

-- What the mark of a fact tells.
module _ (marks : List ℕ) {f g : ℕ} (e : f ≡ g) where
  pub mark_in : get_or marks f 0 ≡ 1 → has marks g ≡ true
  unfolding has
  mark_in t = eq-eqb _ _ (ap (λ (h : ℕ). get_or marks h 0) (sym e) ∙ t)

  pub mark_out : (get_or marks f 0 ≡ 1 → ⊥) → has marks g ≡ false
  unfolding has
  mark_out t = ne_eqb _ _ (λ u. t (ap (λ (h : ℕ). get_or marks h 0) e ∙ u))

  pub mark_barred : get_or marks f 0 ≡ barred → barred_in marks g ≡ true
  unfolding barred_in
  mark_barred t = eq-eqb _ _ (ap (λ (h : ℕ). get_or marks h 0) (sym e) ∙ t)

-- What refuses a rule before a trial: it is withheld,
pub passed_over : (P : Program) (s : Stand) (i : ℕ) → withheld P i ≡ true → eligible P (in_force P) s i ≡ false
passed_over P s i h = false_of _ (λ u. never (eligible-parts P (in_force P) s i u).in-force (withheld-off P i h))

-- or the memory shows it refused.
module _ {P : Program} {s : Stand} {marks fired : List ℕ} {n : ℕ} (w : Holds P s marks fired n) (i : ℕ) where
  pub concluded : has marks (rule P i).conclusion ≡ true → eligible P (in_force P) s i ≡ false
  concluded t =
      false_of _ (λ u. never (ap (λ (S : FactSet). S (rule P i).conclusion) (sym w.shows.d) ∙ t) (eligible-parts P (in_force P) s i u).conclusion_out)

  pub rejected-already : barred_in marks (rule P i).conclusion ≡ true → eligible P (in_force P) s i ≡ false
  rejected-already t =
      conclusion_barred P (in_force P) s i (λ f. mem f (rule P i).constraints || rejected P s.applied f) (λ f. refl)
      (or_right (mem (rule P i).conclusion (rule P i).constraints) _ (ap (λ (R : FactSet). R (rule P i).conclusion) (sym w.shows.r) ∙ t))

  pub constraint_met : clear (has marks) (rule P i).constraints ≡ false → eligible P (in_force P) s i ≡ false
  constraint_met t =
      false_of _ (λ u. never
      (clear-anti s.derived _ (rule P i).constraints (trial-above P (in_force P) s.derived i) (eligible-parts P (in_force P) s i u).spares_own)
      (ap (λ (S : FactSet). clear S (rule P i).constraints) (sym w.shows.d) ∙ t))
