-- Deriving over lent marks: what is still to come from here gives what the whole gives.
use Prim.Native.Nat.{ℕ, ◌+◌, ◌≤◌, ◌<◌}
use mathlib.Core.Path.{◌≡◌, refl, sym, ap, subst, ◌∙◌}
use mathlib.Core.Bool.{true, false, ◌||◌}
use mathlib.Core.List.{List, [], ◌∷◌}
use mathlib.Core.Option.{Option as Maybe, none, some}
use Rattle.std.specs.Prelude.{Some, None}
use native.Mathlib.Omega.{arith}
use borrow.Author.Tests.{eq-eqb, ne_eqb}
use lib.ListN.{length, get_or, set, length-set}
use lib.Seq.{take-set-le}
use Rattle.theory.specs.Rule.{Program, Mask, FactSet, count, rule}
use Rattle.theory.specs.Conditions.{Bounded}
use Rattle.theory.specs.Walk.{after}
use Rattle.theory.specs.Derive.{lowest, conclude, fired, meets, derive}
use Rattle.theory.proofs.Bools.{or_left, or-false, never}
use Rattle.theory.proofs.Derive.{fires, fired-some, fired-none, adjoin-has, missing, missing-less, derive-above, derive-keeps}
use Rattle.theory.proofs.Barred.{meets-some, meets-none}
use Rattle.items.specs.declared.item.RuleId.{RuleId}
use Rattle.items.specs.Item.{narrow, max_facts, has}
use Rattle.items.specs.Write.{placed}
use Rattle.items.proofs.PlacedBytes.{placed-none, placed_one, placed-more}
use Rattle.marking.specs.Marks.{barred, barred_in, paint}
use Rattle.premises.specs.Premises.{plain_ones, Counted}
use Rattle.premises.specs.Plain.{mask_in, PlainIndexed}
use Rattle.premises.proofs.FactsEntered.{Enters}
use Rattle.marking.proofs.MarksPainted.{past_end, has-set, paint-self, paint-marked, has-painted, bars-kept}
use Rattle.closure.specs.Steps.{found_of}
use Rattle.closure.specs.Room.{Room}
use Rattle.closure.specs.Deriving.{Waits, Poised, Deriving, Derived, Advanced}
use Rattle.closure.proofs.LowestReady.{found_at}
use Rattle.closure.proofs.NextPoised.{fact-poised}

-- One step, and none, of `derive`.
module _ (P : Program) (on : Mask) (S : FactSet) where
  pub derive-some : (i : ℕ) → lowest P on S ≡ some i → derive P on S ≡ derive P on (conclude P S i)
  unfolding derive
  derive-some i e = ap (after (conclude P) S) (fired-some P on S i e)

  pub derive-none : ◌≡◌ {A = Maybe ℕ} (lowest P on S) none → derive P on S ≡ S
  unfolding derive
  derive-none e = ap (after (conclude P) S) (fired-none P on S e)

-- What is derived from facts below n is below n.
pub derive-past : (P : Program) (on : Mask) → Bounded P → (n : ℕ) → P.facts ≤ n → (S : FactSet) → ((f : ℕ) → n ≤ f → S f ≡ false) → (f : ℕ) → n ≤ f → derive P on S f ≡ false
derive-past P on b n h =
    derive-keeps P on (λ T. (f : ℕ) → n ≤ f → T f ≡ false)
    (λ T i past t f l. or-false _ _ (ne_eqb f _ (λ e. absurd (other f (rule P i).conclusion e l (b.conclusion_below i t.known)))) (past f l))
  where
    other : (f g : ℕ) → f ≡ g → n ≤ f → g < P.facts → ⊥
    other f g e l k = omega arith

-- The set of the marks that `derive` leaves is the set derived.
pub has-derived : (P : Program) (on : Mask) → Bounded P → (l : List ℕ) → P.facts ≤ length l → has (paint (derive P on (has l)) l) ≡ derive P on (has l)
has-derived P on b l h =
    has-painted (derive P on (has l)) l (derive-above P on (has l)) (derive-past P on b (length l) h (has l) (past_end l))

pub none_derived : {P : Program} {marks : List ℕ} {at : ℕ} (on : Mask) (fired : List ℕ) → Room P marks at → length fired ≡ max_facts narrow → Deriving P on marks fired at marks fired at
none_derived on fired r l =
    record {
      number = refl;
      facts = refl;
      set = refl;
      row = refl;
      bars = refl;
      met = refl;
      kept = refl;
      reached = omega arith;
      places = r.places;
      cells = l;
      room = r.cells_left;
    }

module _ {P : Program} {on : Mask} {marks₀ fired₀ : List ℕ} {at : ℕ} {marks fired-now : List ℕ} {to : ℕ} (w : Deriving P on marks₀ fired₀ at marks fired-now to) (e : ◌≡◌ {A = Maybe ℕ} (lowest P on (has marks)) none) where
  -- None is left that may fire.
  pub derivation_ends : {missing : List ℕ} → Counted P (plain_ones P) (has marks) missing → Derived P on marks₀ fired₀ at (Some to) marks missing fired-now
  derivation_ends {missing} c =
      record {
        answer = rw (w.met, meets-none P on (barred_in marks₀) (has marks) e) (ap (λ (n : ℕ). Some n) (sym (w.number ∙ rw (fired-none P on (has marks) e) (omega arith))));
        facts = λ _. sym (w.facts ∙ ap (λ (T : FactSet). paint T marks) (derive-none P on (has marks) e) ∙ paint-self marks);
        rules = λ _. sym (w.row ∙ ap (λ (l : List ℕ). placed l to fired-now) (fired-none P on (has marks) e) ∙ placed-none to fired-now);
        counted = λ _. subst (λ (S : FactSet). Counted P (plain_ones P) S missing) (sym (w.set ∙ derive-none P on (has marks) e)) c;
        kept = w.kept;
        cells = w.cells;
      }

-- On its way a derivation has room for what is still to come.
pub on_its_way : {P : Program} {on : Mask} {marks₀ fired₀ : List ℕ} {at : ℕ} {marks fired-now : List ℕ} {to : ℕ} → Deriving P on marks₀ fired₀ at marks fired-now to → Room P marks to × (length fired-now ≡ max_facts narrow)
on_its_way w = (record { places = w.places; cells_left = w.room }, w.cells)

-- Rule i is the next to fire.
module _ {P : Program} (b : Bounded P) (few : P.facts < max_facts narrow) (on : Mask) {marks : List ℕ} {to : ℕ} (room : Room P marks to) (i : ℕ) (e : lowest P on (has marks) ≡ some i) where
  abbrev fact : ℕ
  fact = (rule P i).conclusion

  abbrev next : FactSet
  next = conclude P (has marks) i

  pub out : has marks fact ≡ false
  out = (fires P on (has marks) i e).conclusion_out

  closer : missing P.facts next < missing P.facts (has marks)
  closer = missing-less P P.facts (has marks) i (b.conclusion_below i (fires P on (has marks) i e).known) out

  pub fits : to < max_facts narrow
  fits = omega (arith, closer, room.cells_left)

  pub small : fact < max_facts narrow
  small = omega (arith, few, b.conclusion_below i (fires P on (has marks) i e).known)

  inside : fact < length marks
  inside = omega (arith, room.places, small)

  pub marks_next : has (set marks fact 1) ≡ next
  marks_next = has-set marks fact inside

  module _ {marks₀ fired₀ : List ℕ} {at : ℕ} {fired-now : List ℕ} (w : Deriving P on marks₀ fired₀ at marks fired-now to) where
    meets-here : meets P on (barred_in marks₀) (has marks₀) ≡ barred_in marks fact || meets P on (barred_in marks₀) next
    meets-here = w.met ∙ meets-some P on (barred_in marks₀) (has marks) i e ∙ ap (λ (B : FactSet). B fact || meets P on (barred_in marks₀) next) (sym w.bars)

    -- its conclusion is barred
    pub derivation_stops : barred_in marks fact ≡ true → (missing : List ℕ) → Derived P on marks₀ fired₀ at None marks missing fired-now
    derivation_stops t missing =
        let m : meets P on (barred_in marks₀) (has marks₀) ≡ true = meets-here ∙ or_left _ _ t in
        record { answer = rw m refl; facts = λ n. never m n; rules = λ n. never m n; counted = λ n. never m n; kept = w.kept; cells = w.cells }

    one_derived : barred_in marks fact ≡ false → Deriving P on marks₀ fired₀ at (set marks fact 1) (set fired-now to i) (to + 1)
    one_derived t =
        record {
          number = rw marks_next (w.number ∙ rw (fired-some P on (has marks) i e) (omega arith));
          facts = rw marks_next (w.facts ∙ ap (λ (T : FactSet). paint T marks) (derive-some P on (has marks) i e) ∙ sym (paint-marked (derive P on next) marks fact (derive-above P on next fact (adjoin-has (has marks) fact))));
          set = rw marks_next (w.set ∙ derive-some P on (has marks) i e);
          row = rw (marks_next, ← placed_one i to fired-now (omega (arith, fits, w.cells))) (w.row ∙ ap (λ (l : List ℕ). placed l to fired-now) (fired-some P on (has marks) i e) ∙ placed-more (i ∷ []) fired-now to (omega (arith, fits, w.cells)) (fired P on next));
          bars = bars-kept marks fact inside t ∙ w.bars;
          met = rw marks_next (meets-here ∙ rw t refl);
          kept = take-set-le at fired-now to i w.reached ∙ w.kept;
          reached = omega (arith, w.reached);
          places = length-set marks fact 1 ∙ w.places;
          cells = length-set fired-now to i ∙ w.cells;
          room = rw marks_next (omega (arith, closer, w.room));
        }

    pub derivation_goes : barred_in marks fact ≡ false → {missing ready : List ℕ} → Poised P on next missing ready → Advanced P on marks₀ fired₀ at marks (set marks fact 1) missing ready (set fired-now to i) (to + 1)
    derivation_goes t {missing} {ready} p =
        record {
          further = one_derived t;
          poised = subst (λ (S : FactSet). Poised P on S missing ready) (sym marks_next) p;
          less = rw marks_next closer;
        }

pub found_known : (P : Program) (on : Mask) (S : FactSet) {r : RuleId} → Some r ≡ found_of (lowest P on S) → r.0 < count P
found_known P on S {r} found = (fires P on S r.0 (found_at _ r found)).known

-- Rule r was found, and f is its conclusion: what each way out of the turn leaves.
pub record Firing (P : Program) (index marks missing ready : List ℕ) (to : ℕ) (r : RuleId) (f : ℕ) : Type 0 where
  pub small : f < max_facts narrow
  pub room : to < max_facts narrow
  pub stops : get_or marks f 0 ≡ barred → (marks₀ fired₀ : List ℕ) (at : ℕ) (fired-now : List ℕ) → Deriving P (mask_in index) marks₀ fired₀ at marks fired-now to → Derived P (mask_in index) marks₀ fired₀ at None marks missing fired-now
  pub goes : (get_or marks f 0 ≡ barred → ⊥) → (missing' ready' : List ℕ) → Enters f index missing ready missing' ready' → (marks₀ fired₀ : List ℕ) (at : ℕ) (fired-now : List ℕ) → Deriving P (mask_in index) marks₀ fired₀ at marks fired-now to → Advanced P (mask_in index) marks₀ fired₀ at marks (set marks f 1) missing' ready' (set fired-now to r.0) (to + 1)

pub firing : {P : Program} → Bounded P → P.facts < max_facts narrow → {index : List ℕ} → PlainIndexed P index → {marks : List ℕ} {to : ℕ} → Room P marks to → {missing ready : List ℕ} → Counted P (plain_ones P) (has marks) missing → (r : RuleId) → Some r ≡ found_of (lowest P (mask_in index) (has marks)) → Waits P (mask_in index) (has marks) (conclude P (has marks) r.0) ready → (f : ℕ) → f ≡ (rule P r.0).conclusion → Firing P index marks missing ready to r f
unfolding barred_in
firing {P} b few {index} ix {marks} {to} room {missing} {ready} c r found left f concludes =
    record {
      small = omega (arith, concludes, small b few (mask_in index) room r.0 picked);
      room = fits b few (mask_in index) room r.0 picked;
      stops = λ q marks₀ fired₀ at fired-now w. derivation_stops b few (mask_in index) room r.0 picked w (rw (← concludes) (eq-eqb _ _ q)) missing;
      goes = λ q missing' ready' enters marks₀ fired₀ at fired-now w.
          rw concludes
          (derivation_goes b few (mask_in index) room r.0 picked w (rw (← concludes) (ne_eqb _ _ q))
          (fact-poised b ix (small b few (mask_in index) room r.0 picked) (out b few (mask_in index) room r.0 picked) c left (subst (λ (g : ℕ). Enters g index missing ready missing' ready') concludes enters)));
    }
  where
    picked : lowest P (mask_in index) (has marks) ≡ some r.0
    picked = found_at _ r found
