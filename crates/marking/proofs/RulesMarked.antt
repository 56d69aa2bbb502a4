-- Marks set element by element, and rule by rule, and counted.
use Prim.Native.Nat.{ℕ, zero, suc, ◌+◌, ◌-◌, ◌≤◌, ◌<◌}
use mathlib.Core.Path.{◌≡◌, refl, sym, ap, ap₂, ◌∙◌}
use mathlib.Core.Bool.{Bool, true, false, cond, not, ◌&&◌, ◌||◌}
use mathlib.Core.List.{List, [], ◌∷◌}
use mathlib.Core.Logic.{⊎_elim}
use native.Mathlib.Omega.{arith}
use native.Mathlib.Nat.{add-zero}
use borrow.Author.Tests.{lt-ltb, le-ltb, ltb-true, eq-eqb, eqb-true, eqb-false}
use lib.ListN.{length, get_or, drop, take, set, replicate, length-set}
use lib.Dec.{eqb, ltb}
use Rattle.std.specs.List.{count_by}
use Rattle.std.proofs.lemmas.List.Sums.{sum_by-cons}
use Rattle.theory.specs.Rule.{mem, any, range, up_to, how_many, Program, in_force, null, count, rule, plain, exception, constraint_fact, plain_rules}
use Rattle.theory.proofs.Bools.{either, and-true, and-false, and_left, and_right, and_both, both_ways, false_of, or-none}
use Rattle.theory.proofs.Lists.{range_all, range_cons, range-end, how_many-ext, mem-up_to}
use Rattle.theory.proofs.Withheld.{plain-rules}
use Rattle.items.specs.Item.{max_rules, has}
use Rattle.std.proofs.lemmas.List.{drop_more, drop_all}
use Rattle.tables.specs.Layout.{program_in, WellFormed}
use Rattle.marking.specs.Marks.{paint_as, paint}
use Rattle.tables.proofs.ProgramHeld.{rules-below}
use Rattle.marking.proofs.MarksPainted.{both_tests, no_test, same_test, one_mark, painted, has-paint, length-paint}

-- Marking the elements of a list: those from place k on give what all give from the start.
pub record MarkingOwn (own : List ℕ) (v : ℕ) (before now : List ℕ) (k : ℕ) : Type 0 where
  pub places : length now ≡ length before
  pub same : paint_as v (λ x. mem x own) before ≡ paint_as v (λ x. mem x (drop k own)) now

pub none_marked : (own : List ℕ) (v : ℕ) (before : List ℕ) → MarkingOwn own v before before 0
none_marked own v before = record { places = refl; same = refl }

module _ {own : List ℕ} {v : ℕ} {before now : List ℕ} {k : ℕ} (w : MarkingOwn own v before now k) where
  pub all-marked : length own ≤ k → (elements : List ℕ) → ((x : ℕ) → mem x own ≡ mem x elements) → now ≡ paint_as v (λ x. mem x elements) before
  all-marked h elements e =
      sym (w.same ∙ ap (λ (l : List ℕ). paint_as v (λ x. mem x l) now) (drop_all k own h) ∙ no_test v 0 now)
      ∙ same_test v (λ x. mem x own) (λ x. mem x elements) before e

  pub one_marked : k < length own → MarkingOwn own v before (set now (get_or own k 0) v) (k + 1)
  one_marked h =
      record {
        places = length-set now (get_or own k 0) v ∙ w.places;
        same =
            w.same ∙ ap (λ (l : List ℕ). paint_as v (λ x. mem x l) now) (drop_more own k 0 h)
            ∙ both_tests v (λ x. eqb x (get_or own k 0)) (λ x. mem x (drop (k + 1) own)) now
            ∙ ap (paint_as v (λ x. mem x (drop (k + 1) own))) (sym (one_mark v now (get_or own k 0)));
      }

-- the constraints of the rules in force from rule i on
abbrev constrained_from : Program → ℕ → ℕ → Bool
constrained_from P i k = any (λ j. in_force P j && mem k (rule P j).constraints) (range i (count P - i))

-- Marking the constraints of rule after rule.
pub record MarkingRules (P : Program) (before now : List ℕ) (i : ℕ) : Type 0 where
  pub inside : i ≤ count P
  pub places : length now ≡ length before
  pub same : paint (constraint_fact P (in_force P)) before ≡ paint (constrained_from P i) now

pub no-rule_marked : (P : Program) (before : List ℕ) → MarkingRules P before before 0
unfolding constraint_fact
no-rule_marked P before =
    record {
      inside = omega arith;
      places = refl;
      same = same_test 1 _ _ before (λ k. ap (any (λ j. in_force P j && mem k (rule P j).constraints)) (range_all (count P)));
    }

module _ {P : Program} {before now : List ℕ} {i : ℕ} (w : MarkingRules P before now i) where
  pub rules_marked : count P ≤ i → now ≡ paint (constraint_fact P (in_force P)) before
  rules_marked h =
      sym (w.same ∙ same_test 1 _ (λ _. false) now (λ k. ap (any (λ j. in_force P j && mem k (rule P j).constraints)) (range-end (count P) i h)) ∙ no_test 1 0 now)

  -- what rule i gives, where it is in force, and the rules behind it
  rule-more : i < count P → (b : Bool) → in_force P i ≡ b → (k : ℕ) → constrained_from P i k ≡ (b && mem k (rule P i).constraints) || constrained_from P (i + 1) k
  rule-more h b on k =
      ap (any (λ j. in_force P j && mem k (rule P j).constraints)) (range_cons (count P) i h)
      ∙ ap (λ (o : Bool). (o && mem k (rule P i).constraints) || constrained_from P (i + 1) k) on

  pub rule-marked : i < count P → in_force P i ≡ true → (next : List ℕ) → next ≡ paint (λ k. mem k (rule P i).constraints) now → MarkingRules P before next (i + 1)
  rule-marked h on next e =
      record {
        inside = omega arith;
        places = ap length e ∙ length-paint 1 _ now ∙ w.places;
        same =
            w.same
            ∙ same_test 1 _ (λ k. mem k (rule P i).constraints || constrained_from P (i + 1) k) now (rule-more h true on)
            ∙ both_tests 1 (λ k. mem k (rule P i).constraints) (constrained_from P (i + 1)) now
            ∙ ap (paint (constrained_from P (i + 1))) (sym e);
      }

  pub rule-passed : i < count P → in_force P i ≡ false → MarkingRules P before now (i + 1)
  rule-passed h off =
      record {
        inside = omega arith;
        places = w.places;
        same = w.same ∙ same_test 1 _ (constrained_from P (i + 1)) now (rule-more h false off);
      }

-- Of a table of zeros painted by a test as many facts are marked as pass it.
pub painted_count : (places : ℕ) (p : ℕ → Bool) (n facts : ℕ) → n ≡ facts → facts ≤ places → (marks : List ℕ) → marks ≡ paint p (replicate places 0) → how_many (has marks) (up_to n) ≡ how_many p (up_to facts)
unfolding has
painted_count places p n facts s few marks e =
    ap₂ (λ (l : List ℕ) (m : ℕ). how_many (has l) (up_to m)) e s
    ∙ how_many-ext (has (paint p (replicate places 0))) p (up_to facts) (λ f m. painted places p f (omega (arith, mem-up_to facts f m)))

-- The first n rules are painted where they pass a test.
pub record Painting (e : ℕ → Bool) (before now : List ℕ) (n : ℕ) : Type 0 where
  pub painted : now ≡ paint (λ i. ltb i n && e i) before

pub none_painted : (e : ℕ → Bool) (before : List ℕ) → Painting e before before 0
none_painted e before =
    record { painted = sym (same_test 1 _ (λ _. false) before (λ i. ap (λ (b : Bool). b && e i) (le-ltb i 0 (omega arith))) ∙ no_test 1 0 before) }

module _ (e : ℕ → Bool) (before now : List ℕ) (n : ℕ) (w : Painting e before now n) where
  -- one place more
  place_more : (i : ℕ) → (ltb i n && e i) || (eqb i n && e n) ≡ ltb i (n + 1) && e i
  place_more i = ⊎_elim same other (either (eqb i n))
    where
      same : eqb i n ≡ true → (ltb i n && e i) || (eqb i n && e n) ≡ ltb i (n + 1) && e i
      same t =
          let is-n : i ≡ n = eqb-true i n t in
          rw (is-n, lt-ltb n (n + 1) (omega arith), le-ltb n n (omega arith), eq-eqb n n refl)

      other : eqb i n ≡ false → (ltb i n && e i) || (eqb i n && e n) ≡ ltb i (n + 1) && e i
      other t =
          let not-n : i ≡ n → ⊥ = eqb-false i n t in
          let longer : ltb i (n + 1) ≡ ltb i n = both_ways _ _ (λ l. lt-ltb i n (shorter not-n (ltb-true i (n + 1) l))) (λ l. lt-ltb i (n + 1) (omega (arith, ltb-true i n l))) in
          rw (t, longer) (or-none (ltb i n && e i))
        where
          shorter : (i ≡ n → ⊥) → i < n + 1 → i < n
          shorter k l = omega arith

  grown : (b : Bool) → e n ≡ b → paint (λ i. eqb i n && b) now ≡ paint (λ i. ltb i (n + 1) && e i) before
  grown b q =
      ap (paint (λ i. eqb i n && b)) w.painted
      ∙ sym (both_tests 1 (λ i. ltb i n && e i) (λ i. eqb i n && b) before)
      ∙ same_test 1 _ _ before (λ i. ap (λ (x : Bool). (ltb i n && e i) || (eqb i n && x)) (sym q) ∙ place_more i)

  pub one_painted : e n ≡ true → Painting e before (set now n 1) (n + 1)
  one_painted q =
      record { painted = one_mark 1 now n ∙ same_test 1 _ (λ i. eqb i n && true) now (λ i. sym (and-true (eqb i n))) ∙ grown true q }

  pub not-painted : e n ≡ false → Painting e before now (n + 1)
  not-painted q =
      record { painted = sym (sym (grown false q) ∙ same_test 1 _ (λ _. false) now (λ i. and-false (eqb i n)) ∙ no_test 1 0 now) }

  pub all-painted : ((i : ℕ) → e i ≡ true → i < n) → now ≡ paint e before
  all-painted below =
      w.painted
      ∙ same_test 1 _ e before (λ i. both_ways _ _ (λ t. and_right (ltb i n) _ t) (λ t. and_both (lt-ltb i n (below i t)) t))

-- A rule of the program is plain where it is no exception rule.
pub plain_at : (P : Program) (i : ℕ) → i < count P → plain_rules P (in_force P) i ≡ not (exception P i)
unfolding plain exception
plain_at P i h = plain-rules P i ∙ rw (lt-ltb i (count P) h) (twice (null (rule P i).constraints))
  where
    twice : (x : Bool) → x ≡ not (not x)
    twice true = refl
    twice false = refl

pub plain_known : (P : Program) (i : ℕ) → plain_rules P (in_force P) i ≡ true → i < count P
unfolding plain
plain_known P i t = ltb-true i (count P) (and_left (ltb i (count P)) _ (sym (plain-rules P i) ∙ t))

-- The marks of the plain rules show them.
pub plain-mask : {T : List ℕ} → WellFormed T → has (paint (plain_rules (program_in T) (in_force (program_in T))) (replicate max_rules 0)) ≡ plain_rules (program_in T) (in_force (program_in T))
plain-mask {T} w =
    has-paint max_rules (plain_rules (program_in T) (in_force (program_in T)))
    (λ i h. false_of (plain_rules (program_in T) (in_force (program_in T)) i) (λ t. beyond h (plain_known (program_in T) i t) (rules-below w)))
  where
    beyond : {i n : ℕ} → max_rules ≤ i → i < n → n ≤ max_rules → ⊥
    beyond a b c = omega arith

-- As many of the first marks show a fact in as there are such facts.
counted_from : (p q : ℕ → Bool) (i n : ℕ) (xs : List ℕ) → n ≤ length xs → ((j : ℕ) → p (i + j) ≡ q (get_or xs j 0)) → count_by q (take n xs) ≡ how_many p (range i n)
counted_from p q i zero xs few h = refl
counted_from p q i (suc n) [] few h = absurd (omega arith)
counted_from p q i (suc n) (x ∷ xs) few h = sum_by-cons _ x (take n xs) ∙ first (p i) (q x) (ap p (sym (add-zero i)) ∙ h 0) (counted_from p q (suc i) n xs (omega arith) later)
  where
    first : (b d : Bool) → b ≡ d → {k m : ℕ} → k ≡ m → cond d 1 0 + k ≡ cond b (suc m) m
    first true d e s = rw (← e) (omega arith)
    first false d e s = rw (← e) (omega arith)

    later : (j : ℕ) → p (suc i + j) ≡ q (get_or xs j 0)
    later j = let next : suc i + j ≡ i + suc j = omega arith in ap p next ∙ h (suc j)

pub counted : (marks : List ℕ) (n : ℕ) → n ≤ length marks → count_by (λ x. eqb x 1) (take n marks) ≡ how_many (has marks) (up_to n)
unfolding has
counted marks n few = counted_from (has marks) (λ x. eqb x 1) 0 n marks few (λ j. let same : 0 + j ≡ j = omega arith in ap (has marks) same)
