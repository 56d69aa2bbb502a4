-- Facts are held out one after another, or none at first.
use Prim.Native.Nat.{ℕ, suc, ◌+◌, ◌-◌, ◌<◌, ◌≤◌}
use native.Mathlib.Omega.{arith}
use native.Mathlib.Numerals.{add-one}
use mathlib.Core.Path.{◌≡◌, refl, sym, ap, subst, ◌∙◌, fun_ext}
use mathlib.Core.Bool.{Bool, true, false, not, cond, ◌||◌}
use mathlib.Core.List.{List, [], ◌∷◌}
use mathlib.Core.Logic.{⊎_elim}
use borrow.Author.Tests.{eqb-true, eqb-false, eq-eqb, ne_eqb, lt-ltb, ltb-true}
use lib.ListN.{length, get_or, take, drop, replicate, length-replicate}
use lib.Seq.{drop-cons, get_or-take, length-take-le}
use lib.Dec.{eqb, ltb}
use Rattle.theory.specs.Rule.{all, mem, keep, range, up_to, nothing, Program, Mask, count}
use Rattle.theory.specs.Conditions.{every_rule}
use Rattle.theory.proofs.Bools.{either, never, or-none, or_cases, both_ways}
use Rattle.theory.proofs.Lists.{zeros, all-elem, get_or-mem, range_all, range_cons, range-end}
use Rattle.items.specs.Item.{narrow, max_facts, has}
use Rattle.index.specs.Literal.{outside, literals, lacking}
use Rattle.index.specs.Cells.{on_in}
use Rattle.index.specs.Index.{Sized}
use Rattle.propagation.specs.State.{told, Spreading, Between, Waited, Concluded, Settled, HeldToo}
use Rattle.propagation.proofs.LiteralsStacked.{untold}
use Rattle.propagation.proofs.LiteralsTold.{asked-for, one_told, one_concluded, concluded-onward, told-true, settled_between}

-- These facts are held out, the rest of them still to come.
pub record Holding (P : Program) (on : Mask) (marks₀ facts rest marks missing stack : List ℕ) (top : ℕ) : Type 0 where
  pub between : Between P on marks missing stack top
  pub held : (k : ℕ) → has marks₀ (outside k) || mem k facts ≡ told marks (outside k) || mem k rest

pub none_held : {P : Program} {on : Mask} {marks missing : List ℕ} (facts stack : List ℕ) → length stack ≡ literals → Settled P on marks missing → Holding P on marks facts facts marks missing stack 0
none_held {P} {on} {marks} {missing} facts stack size w =
    record {
      between = settled_between stack size w;
      held = λ k. ap (λ (p : ℕ → Bool). p (outside k) || mem k facts) (told-true marks w.literal_places w.bits);
    }

-- a row up to a place
module _ (facts : List ℕ) (to : ℕ) (l : to ≤ length facts) (small : all (λ k. ltb k (max_facts narrow)) facts ≡ true) (n : ℕ) (h : n < to) where
  pub fact_small : get_or facts n 0 < max_facts narrow
  fact_small = ltb-true (get_or facts n 0) (max_facts narrow) (all-elem (λ k. ltb k (max_facts narrow)) facts small (get_or facts n 0) (get_or-mem facts n (omega arith)))

  pub next-fact : drop n (take to facts) ≡ get_or facts n 0 ∷ drop (n + 1) (take to facts)
  next-fact =
      let inside : n < length (take to facts) = omega (arith, length-take-le to facts l) in
      drop-cons (take to facts) n 0 inside
      ∙ ap (λ (x : ℕ). x ∷ drop (suc n) (take to facts)) (get_or-take to facts n 0 h)
      ∙ ap (λ (m : ℕ). get_or facts n 0 ∷ drop m (take to facts)) (sym (add-one n))

module _ {P : Program} {on : Mask} {marks₀ facts rest marks missing stack : List ℕ} {top : ℕ} (w : Holding P on marks₀ facts rest marks missing stack top) where
  -- none of the rest, read in another way
  pub as_left : (rest' : List ℕ) → rest ≡ rest' → Holding P on marks₀ facts rest' marks missing stack top
  as_left rest' e = subst (λ (r : List ℕ). Holding P on marks₀ facts r marks missing stack top) e w

  pub one_held : (f : ℕ) (rest' : List ℕ) → rest ≡ f ∷ rest' → {marks' stack' : List ℕ} {top' : ℕ} → Waited (outside f) marks top marks' stack' top' → Holding P on marks₀ facts rest' marks' missing stack' top'
  one_held f rest' e {marks'} {stack'} {top'} v =
      record {
        between = one_told w.between (outside f) v (λ h. absurd (omega arith));
        held = λ k. w.held k ∙ ap (λ (fs : List ℕ). told marks (outside k) || mem k fs) e ∙ moved (told marks (outside k)) (eqb k f) (mem k rest') ∙ ap (λ (b : Bool). b || mem k rest') (sym (v.tells (outside k) ∙ ap (λ (b : Bool). b || told marks (outside k)) (same k)));
      }
    where
      moved : (a b c : Bool) → a || (b || c) ≡ b || a || c
      moved true true c = refl
      moved true false c = refl
      moved false true c = refl
      moved false false c = refl

      same : (k : ℕ) → eqb (outside k) (outside f) ≡ eqb k f
      same k =
          both_ways _ _
          (λ t. eq-eqb k f (omega (arith, eqb-true (outside k) (outside f) t)))
          (λ t. eq-eqb (outside k) (outside f) (ap outside (eqb-true k f t)))

  pub all_held : rest ≡ [] → (marks' : List ℕ) → ((k : ℕ) → has marks' (outside k) ≡ told marks (outside k)) → HeldToo marks₀ facts marks'
  all_held e marks' q k =
      q k ∙ sym (w.held k ∙ ap (λ (fs : List ℕ). told marks (outside k) || mem k fs) e ∙ or-none (told marks (outside k)))

-- The facts from f on that are not in a set.
abbrev pub absent_from : List ℕ → ℕ → ℕ → List ℕ
absent_from set n f = keep (λ k. not (has set k)) (range f (n - f))

module _ (set : List ℕ) (n f : ℕ) (h : f < n) where
  next : absent_from set n f ≡ cond (not (has set f)) (f ∷ absent_from set n (f + 1)) (absent_from set n (f + 1))
  next = ap (keep (λ k. not (has set k))) (range_cons n f h)

  pub present : get_or set f 0 ≡ 1 → absent_from set n f ≡ absent_from set n (f + 1)
  unfolding has
  present e = next ∙ ap (λ (b : Bool). cond (not b) (f ∷ absent_from set n (f + 1)) (absent_from set n (f + 1))) (eq-eqb (get_or set f 0) 1 e)

  pub absent : (get_or set f 0 ≡ 1 → ⊥) → absent_from set n f ≡ f ∷ absent_from set n (f + 1)
  unfolding has
  absent e = next ∙ ap (λ (b : Bool). cond (not b) (f ∷ absent_from set n (f + 1)) (absent_from set n (f + 1))) (ne_eqb (get_or set f 0) 1 e)

pub no_more : (set : List ℕ) (n f : ℕ) → n ≤ f → absent_from set n f ≡ []
no_more set n f h = ap (keep (λ k. not (has set k))) (range-end n f h)

pub all-absent : (set : List ℕ) (n : ℕ) → absent_from set n 0 ≡ keep (λ k. not (has set k)) (up_to n)
all-absent set n = ap (keep (λ k. not (has set k))) (sym (range_all n))

-- Of the rules below n, those that ask nothing have their conclusions, and no fact is held out.
pub record Starting (P : Program) (on : Mask) (n : ℕ) (marks missing stack : List ℕ) (top : ℕ) : Type 0 where
  pub spreading : Spreading P on (λ i. ltb i n) [] marks missing stack top
  pub none_out : (k : ℕ) → told marks (outside k) ≡ false

module _ {marks : List ℕ} (e : ◌≡◌ {A = List ℕ} marks (replicate literals 0)) where
  blank : (l : ℕ) → get_or marks l 0 ≡ 0
  blank l = ap (λ (s : List ℕ). get_or s l 0) e ∙ zeros literals l

  blank-has : (l : ℕ) → has marks l ≡ false
  unfolding has
  blank-has l = rw (blank l) refl

  pub none_started : {P : Program} {R missing : List ℕ} (stack : List ℕ) → length stack ≡ literals → Sized P R missing → Starting P (on_in R) 0 marks missing stack 0
  none_started {P} {R} stack size s =
      record {
        spreading =
            record {
              on_stack =
                  record {
                    literal_places = ap length e ∙ length-replicate {A = ℕ} literals 0;
                    stack_places = size;
                    stacked = refl;
                    room = omega arith;
                    waits = λ l _ t. absurd (omega (arith, blank l));
                    bytes = λ l _. omega (arith, blank l);
                  };
              rule_places = s.rule_places;
              missed = λ i h o. omega (arith, s.sizes i h o, whole i);
              unused = s.unused;
              fires = λ i h a _. absurd (omega (arith, ltb-true i 0 a));
              sound = λ f _ t. never t (untold marks f (blank f));
            };
        none_out = λ k. untold marks (outside k) (blank (outside k));
      }
    where
      whole : (i : ℕ) → lacking P (has marks) i ≡ lacking P nothing i
      whole i = ap (λ (p : ℕ → Bool). lacking P p i) (fun_ext blank-has)

  pub still_none : (marks' marks'' : List ℕ) → ((k : ℕ) → told marks' (outside k) ≡ false) → ((k : ℕ) → has marks'' (outside k) ≡ told marks' (outside k)) → HeldToo marks [] marks''
  still_none marks' marks'' n f k = f k ∙ n k ∙ sym (or-none (has marks (outside k)) ∙ blank-has (outside k))

module _ {P : Program} {on : Mask} {n : ℕ} {marks missing stack : List ℕ} {top : ℕ} (w : Starting P on n marks missing stack top) where
  pub all-started : count P ≤ n → Between P on marks missing stack top
  all-started h = asked-for w.spreading every_rule (λ i k _ z. w.spreading.fires i k (lt-ltb i n (omega arith)) z)

  below-or_at : (i : ℕ) → ltb i (n + 1) ≡ true → eqb i n || ltb i n ≡ true
  below-or_at i t = ⊎_elim (λ e. rw e refl) (λ e. rw e (lt-ltb i n (before (ltb-true i (n + 1) t) (eqb-false i n e)))) (either (eqb i n))
    where
      before : i < n + 1 → (i ≡ n → ⊥) → i < n
      before a b = omega arith

  pub rule-asks : (get_or missing n 0 ≡ 0 → ⊥) → Starting P on (n + 1) marks missing stack top
  rule-asks z =
      record {
        spreading = asked-for w.spreading (λ i. ltb i (n + 1)) (λ i h a y. ⊎_elim (λ e. absurd (z (sym (ap (λ (j : ℕ). get_or missing j 0) (eqb-true i n e)) ∙ y))) (λ e. w.spreading.fires i h e y) (or_cases (eqb i n) _ (below-or_at i a)));
        none_out = w.none_out;
      }

  pub rule-asks_nothing : n < count P → get_or missing n 0 ≡ 0 → {marks' stack' : List ℕ} {top' : ℕ} → Concluded P n marks top marks' stack' top' → Starting P on (n + 1) marks' missing stack' top'
  rule-asks_nothing h z {marks'} {stack'} {top'} v =
      let x : Spreading P on (λ i. eqb i n || ltb i n) [] marks' missing stack' top' = one_concluded w.spreading n h z v in
      record {
        spreading = asked-for x (λ i. ltb i (n + 1)) (λ i k a y. x.fires i k (below-or_at i a) y);
        none_out = λ k. (concluded-onward v h).outside_kept k ∙ w.none_out k;
      }

  -- by both ways through the loop
  pub on_asking : (get_or missing n 0 ≡ 0 → ⊥) → (marks' stack' : List ℕ) (top' : ℕ) → marks' ≡ marks → stack' ≡ stack → top' ≡ top → Starting P on (n + 1) marks' missing stack' top'
  on_asking z marks' stack' top' a b c = rw (a, b, c) (rule-asks z)

  pub on_asking_nothing : n < count P → get_or missing n 0 ≡ 0 → (marks'' stack'' : List ℕ) (top'' : ℕ) → Concluded P n marks top marks'' stack'' top'' → (marks' stack' : List ℕ) (top' : ℕ) → marks' ≡ marks'' → stack' ≡ stack'' → top' ≡ top'' → Starting P on (n + 1) marks' missing stack' top'
  on_asking_nothing h z marks'' stack'' top'' v marks' stack' top' a b c = rw (a, b, c) (rule-asks_nothing h z v)
