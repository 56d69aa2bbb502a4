-- Marks written one after another, and the mark of each rule.
use Prim.Native.Nat.{ℕ, ◌+◌, ◌≤◌, ◌<◌}
use mathlib.Core.Path.{◌≡◌, refl, sym, ap, ap₂, ◌∙◌}
use mathlib.Core.Bool.{Bool, true, false, cond, not, ◌&&◌}
use mathlib.Core.List.{List, map}
use native.Mathlib.Omega.{arith}
use native.Mathlib.Nat.{zero-add}
use native.Mathlib.Numerals.{add-one}
use borrow.Author.Tests.{lt-ltb, eq-eqb, ne_eqb}
use lib.ListN.{length, get_or, set, length-set}
use lib.Seq.{paste, paste-zero, paste-suc, take_all}
use Rattle.theory.specs.Rule.{all, clear, mem, up_to, Program, FactSet, in_force, null, count, rule, plain, exception}
use Rattle.theory.specs.Run.{Stand, rejected, set_aside, fact_mark, rule_mark, marks_of_facts}
use Rattle.theory.proofs.Bools.{never, false_of}
use Rattle.theory.proofs.Lists.{mapped_length, mapped_at}
use Rattle.theory.proofs.Withheld.{aside_on}
use Rattle.items.specs.Item.{has}
use Rattle.items.specs.Write.{over}
use Rattle.marking.specs.Marks.{barred, barred_in}

-- The first i of the marks that f gives to the numbers below n are written.
pub record Marking (f : ℕ → ℕ) (n : ℕ) (before now : List ℕ) (i : ℕ) : Type 0 where
  pub inside : i ≤ n
  pub length_kept : length now ≡ length before
  pub front_is : now ≡ paste before 0 (map f (up_to n)) i

pub none_written : (f : ℕ → ℕ) (n : ℕ) (before : List ℕ) → Marking f n before before 0
none_written f n before =
    record { inside = omega arith; length_kept = refl; front_is = paste-zero before 0 (map f (up_to n)) }

module _ (f : ℕ → ℕ) (n : ℕ) (before now : List ℕ) (i : ℕ) (w : Marking f n before now i) where
  pub one_written : n ≤ length before → i < n → (v : ℕ) → v ≡ f i → Marking f n before (set now i v) (i + 1)
  one_written room h v e =
      record {
        inside = omega arith;
        length_kept = length-set now i v ∙ w.length_kept;
        front_is =
            ap₂ (λ (l : List ℕ) (x : ℕ). set l i x) w.front_is (e ∙ sym (mapped_at f 0 n i h))
            ∙ ap (λ (k : ℕ). set (paste before 0 (map f (up_to n)) i) k (get_or (map f (up_to n)) i 0)) (sym (zero-add i))
            ∙ paste-suc before 0 (map f (up_to n)) i 0 (omega arith) (omega (arith, mapped_length f n))
            ∙ ap (paste before 0 (map f (up_to n))) (sym (add-one i));
      }

  pub all-written : n ≤ i → now ≡ over (map f (up_to n)) before
  all-written h =
      let last : i ≡ n = omega (arith, w.inside) in
      w.front_is
      ∙ rw (last, take_all n (map f (up_to n)) (omega (arith, mapped_length f n)), zero-add n, mapped_length f n)

-- Fact marks by the sets that the memory shows.
abbrev pub fact_mark_by : FactSet → FactSet → ℕ → ℕ
fact_mark_by D R f = cond (D f) 1 (cond (R f) 2 0)

pub fact_marks : (P : Program) (s : Stand) (n : ℕ) (D R : FactSet) (out : List ℕ) → n ≡ P.facts → D ≡ s.derived → R ≡ rejected P s.applied → over (map (fact_mark_by D R) (up_to n)) out ≡ over (marks_of_facts P s) out
unfolding fact_mark
fact_marks P s n D R out e d r = rw (e, d, r)

-- The ways to the mark of one fact.
module _ (marks : List ℕ) (f : ℕ) where
  pub a_derived : get_or marks f 0 ≡ 1 → 1 ≡ fact_mark_by (has marks) (barred_in marks) f
  unfolding has
  a_derived e = rw (eq-eqb _ 1 e)

  module _ (o : get_or marks f 0 ≡ 1 → ⊥) where
    pub a_rejected : get_or marks f 0 ≡ barred → 2 ≡ fact_mark_by (has marks) (barred_in marks) f
    unfolding has barred_in
    a_rejected e = rw (ne_eqb _ 1 o, eq-eqb _ barred e)

    pub an_open : (get_or marks f 0 ≡ barred → ⊥) → 0 ≡ fact_mark_by (has marks) (barred_in marks) f
    unfolding has barred_in
    an_open e = rw (ne_eqb _ 1 o, ne_eqb _ barred e)

-- The ways to the test whether a rule in force is set aside.
module _ (P : Program) (i : ℕ) (h : i < count P) (o : in_force P i ≡ true) (D : FactSet) where
  tested : (p k f : Bool) → all D (rule P i).premises ≡ p → clear D (rule P i).constraints ≡ k → D (rule P i).conclusion ≡ f → p && k && not f ≡ set_aside P (in_force P) D i
  unfolding set_aside
  tested p k f a b c = rw (lt-ltb i (count P) h, o, a, b, c) refl

  pub a_premise_out : all D (rule P i).premises ≡ false → false ≡ set_aside P (in_force P) D i
  a_premise_out a = tested false _ _ a refl refl

  module _ (a : all D (rule P i).premises ≡ true) where
    pub a_constraint_in : clear D (rule P i).constraints ≡ false → false ≡ set_aside P (in_force P) D i
    a_constraint_in b = tested true false _ a b refl

    pub a_test_left : clear D (rule P i).constraints ≡ true → (f : Bool) → f ≡ D (rule P i).conclusion → not f ≡ set_aside P (in_force P) D i
    a_test_left b f c = tested true true f a b (sym c)

-- The ways to the mark of one rule.
module _ (P : Program) (s : Stand) (i : ℕ) (h : i < count P) (a : Bool) (q : a ≡ mem i s.applied) (D : FactSet) (d : D ≡ s.derived) where
  rule-mark : cond (exception P i) (cond a 1 (cond (set_aside P (in_force P) D i) 2 (cond (in_force P i) 3 4))) 0 ≡ rule_mark P (in_force P) s i
  unfolding rule_mark plain exception
  rule-mark = rw (q, d, lt-ltb i (count P) h) (go (null (rule P i).constraints) _)
    where
      go : (b : Bool) (x : ℕ) → cond (not b) x 0 ≡ cond b 0 x
      go true x = refl
      go false x = refl

  pub a_plain : exception P i ≡ false → 0 ≡ rule_mark P (in_force P) s i
  a_plain e = rw e at rule-mark

  module _ (e : exception P i ≡ true) where
    pub an_applied : a ≡ true → 1 ≡ rule_mark P (in_force P) s i
    an_applied t = rw (e, t) at rule-mark

    module _ (t : a ≡ false) where
      -- a rule that is set aside is in force
      pub a_withheld : in_force P i ≡ false → 4 ≡ rule_mark P (in_force P) s i
      a_withheld o = rw (e, t, false_of (set_aside P (in_force P) D i) (λ u. never (aside_on P (in_force P) D i u) o), o) at rule-mark

      pub an_aside : set_aside P (in_force P) D i ≡ true → 2 ≡ rule_mark P (in_force P) s i
      an_aside u = rw (e, t, u) at rule-mark

      pub an_other : in_force P i ≡ true → set_aside P (in_force P) D i ≡ false → 3 ≡ rule_mark P (in_force P) s i
      an_other o u = rw (e, t, u, o) at rule-mark
