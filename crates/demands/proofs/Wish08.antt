-- Rules found by fact: the list of each fact, the counts through a closure, and the closure over lent marks.
use Prim.Native.Nat.{ℕ, zero, suc, ◌+◌, ◌<◌, ◌≤◌}
use native.Mathlib.Omega.{arith}
use native.Mathlib.Nat.{zero-add}
use mathlib.Core.Path.{◌≡◌, refl, sym, ap, subst, ◌∙◌}
use mathlib.Core.Bool.{Bool, true, false, cond, ◌&&◌}
use mathlib.Core.List.{List, [], ◌∷◌, map}
use mathlib.Core.Option.{Option, none}
use borrow.Author.Tests.{eqb-true}
use lib.ListN.{length, get_or, take}
use lib.Dec.{eqb}
use Rattle.theory.specs.Rule.{mem, keep, range, up_to, how_many, Program, Mask, FactSet, count, rule, plain, plain_rules, in_force}
use Rattle.std.specs.Prelude as std
use Rattle.theory.specs.Conditions.{Bounded}
use Rattle.theory.specs.Walk.{after}
use Rattle.theory.specs.Derive.{conclude, Fresh, fired, meets, derive, steps, step_by}
use Rattle.theory.proofs.Bools.{never, and_left, and_right, and_both, or-false, false_of, both_ways}
use Rattle.theory.proofs.Lists.{mem-here, mem-keep, mem-range, up_to-mem, how_many-none}
use Rattle.theory.proofs.Derive.{adjoin-above, adjoin-has, fired-fresh, missing, fired-missing}
use Rattle.theory.proofs.Barred.{clear-meets}
use Rattle.items.specs.declared.refusal.Refusal.{Refusal}
use Rattle.items.specs.Item.{narrow, max_facts, has}
use Rattle.items.proofs.PlacedBytes.{placed-front}
use Rattle.marking.specs.Marks.{barred_in}
use Rattle.tables.proofs.ProgramHeld.{facts_below}
use Rattle.reader.specs.Questions.{program_of, file_no}
use Rattle.reader.proofs.Accepted.{accepted_file, bounded}
use Rattle.premises.specs.Premises.{plain_ones, lacking, Counted}
use Rattle.premises.specs.Plain.{plain_with, RowsAre}
use Rattle.premises.proofs.PremisesCounted.{lacks_none, none_lacks, asked-lacking, unasked_lacking}
use Rattle.closure.specs.Room.{Room}
use Rattle.closure.specs.Deriving.{Derived}
use Rattle.premises.proofs.PlainRows.{plain_known}
use Rattle.closure.proofs.RulesFired.{has-derived}
use Rattle.demands.specs.Wish08.{Ascending, concluded, FoundByFact, ClosureIs, DerivesFrom, Wish08}

-- A number below all of an ascending list goes in front of it.
in_front : (x : ℕ) (xs : List ℕ) → ((y : ℕ) → mem y xs ≡ true → x < y) → Ascending xs → Ascending (x ∷ xs)
in_front x [] below s = tt
in_front x (y ∷ ys) below s = (below y (mem-here y ys), s)

-- What is kept of ascending numbers ascends.
keep-ascending : (p : ℕ → Bool) (a n : ℕ) → Ascending (keep p (range a n))
keep-ascending p a zero = tt
keep-ascending p a (suc n) = go (p a) (keep-ascending p (suc a) n)
  where
    later : (x : ℕ) → mem x (keep p (range (suc a) n)) ≡ true → a < x
    later x m =
        let t : (suc a ≤ x) × (x < suc a + n) = mem-range (suc a) n x (and_left (mem x (range (suc a) n)) (p x) (rw (mem-keep p (range (suc a) n) x) at m)) in
        omega arith

    go : (b : Bool) → Ascending (keep p (range (suc a) n)) → Ascending (cond b (a ∷ keep p (range (suc a) n)) (keep p (range (suc a) n)))
    go true s = in_front a (keep p (range (suc a) n)) later s
    go false s = s

-- Every plain rule is below the count of rules, so the list has all with the premise.
with_premise : (P : Program) (f i : ℕ) → mem i (plain_with P f) ≡ plain P i && mem f (rule P i).premises
with_premise P f i =
    mem-keep (λ j. plain P j && mem f (rule P j).premises) (up_to (count P)) i
    ∙ both_ways _ _ (λ t. and_right (mem i (up_to (count P))) _ t) (λ t. and_both (up_to-mem (count P) i (plain_known P i (and_left (plain P i) _ t))) t)

-- Rules fire one after the other, each with a conclusion that is not yet in the set.
module _ (P : Program) where
  all_new : (is : List ℕ) (S : FactSet) → Fresh P S is → (f : ℕ) → S f ≡ true → mem f (concluded P is) ≡ false
  all_new [] S t f h = refl
  all_new (i ∷ is) S t f h =
      or-false (eqb f (rule P i).conclusion) _
      (false_of (eqb f (rule P i).conclusion) (λ e. never (rw (eqb-true f _ e) at h) t.1))
      (all_new is (conclude P S i) t.2 f (adjoin-above S (rule P i).conclusion f h))

  at-most_once : (is : List ℕ) (S : FactSet) → Fresh P S is → (f : ℕ) → how_many (eqb f) (concluded P is) ≤ 1
  at-most_once [] S t f = omega arith
  at-most_once (i ∷ is) S t f = go (eqb f (rule P i).conclusion) refl (at-most_once is (conclude P S i) t.2 f)
    where
      no_more : f ≡ (rule P i).conclusion → how_many (eqb f) (concluded P is) ≡ 0
      no_more e = how_many-none (eqb f) (concluded P is) (all_new is (conclude P S i) t.2 f (rw e (adjoin-has S (rule P i).conclusion)))

      go : (b : Bool) → eqb f (rule P i).conclusion ≡ b → how_many (eqb f) (concluded P is) ≤ 1 → cond b (suc (how_many (eqb f) (concluded P is))) (how_many (eqb f) (concluded P is)) ≤ 1
      go true e l = omega (arith, no_more (eqb-true f _ e))
      go false e l = l

  -- The count of rule k falls by one where a premise of it enters, and stays elsewhere.
  module _ (b : Bounded P) (k : ℕ) where
    abbrev asked : ℕ → Bool
    asked f = mem f (rule P k).premises

    abbrev lacked : FactSet → ℕ
    lacked S = lacking P (plain_ones P) S k

    abbrev entered : List ℕ → ℕ
    entered is = how_many asked (concluded P is)

    each-falls : (is : List ℕ) (S : FactSet) → Fresh P S is → lacked S ≡ lacked (after (conclude P) S is) + entered is
    each-falls [] S t = omega arith
    each-falls (i ∷ is) S t = go (asked (rule P i).conclusion) refl _ (each-falls is (conclude P S i) t.2)
      where
        go : (c : Bool) → asked (rule P i).conclusion ≡ c → (n : ℕ) → lacked (conclude P S i) ≡ n + entered is → lacked S ≡ n + cond c (suc (entered is)) (entered is)
        go true e n r = omega (arith, asked-lacking b (plain_ones P) S (rule P i).conclusion k t.1 e)
        go false e n r = unasked_lacking P (plain_ones P) S (rule P i).conclusion k t.1 e ∙ r

-- For every program whose facts are below its count of facts.
found_by_fact : (P : Program) → Bounded P → FoundByFact P
unfolding derive
found_by_fact P b =
    record {
      exactly = with_premise P;
      ascending = λ f. keep-ascending (λ i. plain P i && mem f (rule P i).premises) 0 (count P);
      one_less = λ S f i out m. asked-lacking b (plain_ones P) S f i out m;
      else_same = λ S f i out m. unasked_lacking P (plain_ones P) S f i out m;
      lacks_none = λ S i. (lacks_none b (plain_ones P) S i, none_lacks P (plain_ones P) S i);
      enters_once = λ on S f. at-most_once P (fired P on S) S (fired-fresh P on S) f;
      enters_new = λ on S f h. all_new P (fired P on S) S (fired-fresh P on S) f h;
      falls = λ on S i. each-falls P b i (fired P on S) S (fired-fresh P on S);
    }

-- A derivation over marks that bar no fact is the closure. The row has room for the rules fired, which are no more than the facts that the set lacks.
module _ {P : Program} (b : Bounded P) (few : P.facts < max_facts narrow) (on : Mask) {marks : List ℕ} (room : Room P marks 0) where
  abbrev rules : List ℕ
  rules = fired P on (has marks)

  few_rules : length rules ≤ max_facts narrow
  few_rules =
      let l : length rules + missing P.facts (derive P on (has marks)) ≤ missing P.facts (has marks) = fired-missing P on (has marks) b.conclusion_below in
      omega (arith, room.cells_left)

  module _ (none_barred : (f : ℕ) → barred_in marks f ≡ false) where
    none_met : meets P on (barred_in marks) (has marks) ≡ false
    none_met = clear-meets P on (barred_in marks) (has marks) (λ f t. none_barred f)

    module _ {fired₀ marks' missing' fired' : List ℕ} {r : std.Option ℕ} (cells : length fired₀ ≡ max_facts narrow) (d : Derived P on marks fired₀ 0 r marks' missing' fired') where
      front : take (length rules) fired' ≡ rules
      front = rw zero-add at (ap (take (0 + length rules)) (d.rules none_met) ∙ placed-front rules fired₀ 0 (omega (arith, few_rules, cells)))

      ended-closure : ClosureIs P on marks marks' missing' fired' r
      unfolding steps
      ended-closure =
          record {
            closes = rw (none_met, zero-add) at d.answer;
            set = ap has (d.facts none_met) ∙ has-derived P on b marks (omega (arith, room.places));
            in_order = ap (map (step_by P)) front;
            missing = d.counted none_met;
            cells_fall = fall;
          }
        where
          fall : (missing₀ : List ℕ) → Counted P (plain_ones P) (has marks) missing₀ → (i : ℕ) → plain P i ≡ true → get_or missing₀ i 0 ≡ get_or missing' i 0 + how_many (λ f. mem f (rule P i).premises) (concluded P rules)
          fall missing₀ c i p =
              c.counts i p
              ∙ ((found_by_fact P b).falls on (has marks) i
              ∙ ap (λ n. n + how_many (λ f. mem f (rule P i).premises) (concluded P rules)) (sym ((d.counted none_met).counts i p)))

-- So for every accepted file, whose program its tables hold.
pub wish_08 : (file : List ℕ) → ◌≡◌ {A = Option Refusal} (file_no file) none → Wish08 file
wish_08 file a =
    record {
      counted = found_by_fact (program_of file) (bounded (accepted_file file a));
      indexed = λ T index s rows. subst (λ (P : Program). RowsAre P index) (s a).program rows;
      closed = closes;
      by_plain = closes (plain_rules (program_of file) (in_force (program_of file)));
    }
  where
    closes : (on : Mask) (marks marks' missing' fired' : List ℕ) (r : std.Option ℕ) → DerivesFrom file on marks marks' missing' fired' r
    closes on marks marks' missing' fired' r T fired₀ s room cells none_barred d =
        subst (λ (P : Program). ClosureIs P on marks marks' missing' fired' r) (s a).program
        (ended-closure (s a).well_formed.in_bounds (facts_below (s a).well_formed) on room none_barred cells d)
