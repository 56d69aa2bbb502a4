-- What the working memory holds at the outset, and once D is closed for the first time.
use Prim.Native.Nat.{ℕ, zero, suc, ◌+◌, ◌≤◌, ◌<◌}
use mathlib.Core.Path.{◌≡◌, refl, sym, ap, subst, fun_ext, ◌∙◌}
use mathlib.Core.Bool.{Bool, true, false, ◌||◌}
use mathlib.Core.List.{List, [], ◌∷◌, ◌++◌, map}
use mathlib.Core.Logic.{⊎_elim}
use native.Mathlib.Omega.{arith}
use borrow.Author.Tests.{ltb-true, ltb-false}
use lib.ListN.{length, get_or, take, set, replicate, length-replicate}
use lib.Dec.{eqb, ltb}
use Rattle.theory.specs.Rule.{mem, Program, FactSet, nothing, in_force, plain, plain_rules}
use Rattle.theory.specs.Conditions.{Bounded}
use Rattle.theory.specs.Derive.{derive, fired as fired_from, meets, steps, step_by}
use Rattle.theory.specs.Run.{rejected, start}
use Rattle.theory.proofs.Bools.{either, never, or-none}
use Rattle.theory.proofs.Lists.{any_append}
use Rattle.theory.proofs.Derive.{missing, fired-missing, fired-known, derive-closed}
use Rattle.theory.proofs.Barred.{clear-meets}
use Rattle.theory.proofs.Withheld.{plain-rules}
use Rattle.items.specs.Item.{narrow, max_facts, max_rules, has}
use Rattle.items.specs.Write.{placed}
use Rattle.items.proofs.PlacedBytes.{placed-front, placed-length}
use Rattle.marking.specs.Marks.{barred, barred_in}
use Rattle.marking.proofs.MarksPainted.{past_end, has-set, unmarked, length-paint, barred-kept}
use Rattle.std.specs.Prelude.{Option, Some, IsSome}
use Rattle.closure.specs.Room.{Room}
use Rattle.closure.specs.Deriving.{Derived}
use Rattle.closure.proofs.RulesFired.{derive-past, has-derived}
use Rattle.premises.specs.Premises.{plain_ones, Counted}
use Rattle.premises.specs.Plain.{mask_in, PlainIndexed, Masks, OnlyPlain}
use Rattle.stage.specs.Memory.{Holds}
use Rattle.run.specs.Stands.{outset, Began, Held}
use Rattle.run.proofs.FewSteps.{missing-most}

-- Zeros bar no fact.
unbarred : (n : ℕ) → barred_in (replicate n 0) ≡ nothing
unfolding barred_in
unbarred n = fun_ext (λ i. go n i)
  where
    go : (m i : ℕ) → eqb (get_or (replicate m 0) i 0) barred ≡ false
    go zero i = refl
    go (suc m) zero = refl
    go (suc m) (suc i) = go m i

-- Zeros hold the outset.
pub outset-held : (P : Program) → Held P outset (replicate (max_facts narrow) 0) (replicate (max_facts narrow) 0) (replicate max_rules 0) 0
unfolding rejected
outset-held P =
    record {
      holds =
          record {
            shows = record { d = unmarked (max_facts narrow); r = unbarred (max_facts narrow) };
            traced = refl;
            marks_places = length-replicate {A = ℕ} (max_facts narrow) 0;
            fired_places = length-replicate {A = ℕ} (max_facts narrow) 0;
            fits = omega (arith, missing-most P.facts nothing);
            known = λ i m. never m refl;
          };
      applied_shown = unmarked max_rules;
      applied_places = length-replicate {A = ℕ} max_rules 0;
    }

-- The plain rules as a mask.
module _ (P : Program) (mask : List ℕ) (q : has mask ≡ plain_rules P (in_force P)) where
  at_plain : (i : ℕ) → has mask i ≡ plain P i
  at_plain i = ap (λ (on : ℕ → Bool). on i) q ∙ plain-rules P i

  pub only_plain : OnlyPlain P mask
  only_plain i t = sym (at_plain i) ∙ t

  pub mask_plain : (index : List ℕ) → Masks mask index → mask_in index ≡ plain_rules P (in_force P)
  mask_plain index m = fun_ext m ∙ q

-- The first derivation, from the outset.
module _ {P : Program} (b : Bounded P) (few : P.facts < max_facts narrow) {marks fired : List ℕ} (w : Holds P outset marks fired 0) where
  pub outset-room : Room P marks 0
  outset-room = record { places = w.marks_places; cells_left = rw w.shows.d (omega (arith, w.fits)) }

  none_barred : (f : ℕ) → barred_in marks f ≡ false
  unfolding rejected
  none_barred f = ap (λ (R : FactSet). R f) w.shows.r

  module _ (index : List ℕ) (indexed : PlainIndexed P index) (q : mask_in index ≡ plain_rules P (in_force P)) where
    none_met : meets P (mask_in index) (barred_in marks) (has marks) ≡ false
    none_met = clear-meets P (mask_in index) (barred_in marks) (has marks) (λ f t. none_barred f)

    module _ {r : Option ℕ} {marks' missing' fired' : List ℕ} (d : Derived P (mask_in index) marks fired 0 r marks' missing' fired') where
      closes : r ≡ Some (0 + length (fired_from P (mask_in index) (has marks)))
      closes = rw none_met at d.answer

      abbrev rules : List ℕ
      rules = fired_from P (plain_rules P (in_force P)) nothing

      same_rules : fired_from P (mask_in index) (has marks) ≡ rules
      same_rules = rw (q, w.shows.d)

      same_set : derive P (mask_in index) (has marks) ≡ (start P (in_force P)).derived
      same_set = rw (q, w.shows.d)

      few_rules : length rules + missing P.facts (start P (in_force P)).derived ≤ P.facts
      few_rules =
          let l : length rules + missing P.facts (start P (in_force P)).derived ≤ missing P.facts nothing = fired-missing P (plain_rules P (in_force P)) nothing b.conclusion_below in
          omega (arith, missing-most P.facts nothing)

      row-then : fired' ≡ placed rules 0 fired
      row-then = d.rules none_met ∙ ap (λ (l : List ℕ). placed l 0 fired) same_rules

      enough : 0 + length rules ≤ length fired
      enough = omega (arith, few_rules, w.fired_places)

      low : (f : ℕ) → derive P (mask_in index) (has marks) f ≡ true → f < length marks
      low f t =
          ⊎_elim (λ h. ltb-true f _ h)
          (λ h. never t (derive-past P (mask_in index) b (length marks) (omega (arith, w.marks_places)) (has marks) (past_end marks) f (ltb-false f _ h)))
          (either (ltb f (length marks)))

      begun : Began P index marks' missing' fired' (0 + length rules)
      unfolding steps
      begun =
          record {
            indexed = indexed;
            in-force = q;
            rests = record { counted = subst (λ (S : FactSet). Counted P (plain_ones P) S missing') same_set (d.counted none_met); closed = derive-closed P (plain_rules P (in_force P)) nothing };
            holds =
                record {
                  shows =
                      record {
                        d = ap has (d.facts none_met) ∙ has-derived P (mask_in index) b marks (omega (arith, w.marks_places)) ∙ same_set;
                        r = ap barred_in (d.facts none_met) ∙ barred-kept (derive P (mask_in index) (has marks)) marks low (λ f t. none_barred f) ∙ w.shows.r;
                      };
                  traced = ap (map (step_by P)) (sym front);
                  marks_places = ap length (d.facts none_met) ∙ length-paint 1 (derive P (mask_in index) (has marks)) marks ∙ w.marks_places;
                  fired_places = ap length row-then ∙ placed-length rules fired 0 enough ∙ w.fired_places;
                  fits = omega (arith, few_rules);
                  known = λ i m. fired-known P (plain_rules P (in_force P)) nothing i (ap (mem i) (sym front) ∙ m);
                };
            rules = front;
          }
        where
          front : take (0 + length rules) fired' ≡ rules
          front = ap (take (0 + length rules)) row-then ∙ placed-front rules fired 0 enough

      pub began : IsSome r × ((n : ℕ) → r ≡ Some n → Began P index marks' missing' fired' n)
      began = (rw closes refl, λ n e. let same : n ≡ 0 + length (fired_from P (mask_in index) (has marks)) = cc (e, closes) in rw (same, same_rules) begun)

-- A rule more is applied.
swapped : (a b : Bool) → a || b ≡ b || (a || false)
swapped true true = refl
swapped true false = refl
swapped false b = sym (or-none b)

pub more-applied : (applied is : List ℕ) (i : ℕ) → i < length applied → has applied ≡ (λ j. mem j is) → has (set applied i 1) ≡ (λ j. mem j (is ++ (i ∷ [])))
more-applied applied is i h e =
    has-set applied i h
    ∙ fun_ext (λ j. swapped (eqb j i) (has applied j) ∙ ap (λ (A : ℕ → Bool). A j || (eqb j i || false)) e ∙ sym (any_append (eqb j) is (i ∷ [])))
