-- The marks that a run writes, read back: D, R, the plain rules, the rules applied, those set aside and those withheld.
use Prim.Native.Nat.{ℕ, ◌≤◌, ◌<◌}
use native.Mathlib.Omega.{arith}
use native.Mathlib.Decide.{dec_lt}
use mathlib.Core.Path.{◌≡◌, refl, sym, ◌∙◌, ap, fun_ext}
use mathlib.Core.Bool.{Bool, true, false, cond, not, ◌&&◌}
use mathlib.Core.List.{List, map}
use borrow.Author.Tests.{lt-ltb, le-ltb, ltb-true}
use lib.ListN.{length, get_or, take, drop, get_or-append}
use lib.Seq.{take_at, drop_at}
use lib.Dec.{eqb, ltb}
use Rattle.theory.specs.Rule.{mem, up_to, Program, withheld, in_force, count, rule, plain}
use Rattle.theory.specs.Conditions.{Bounded}
use Rattle.theory.specs.Run.{rejected, run, set_aside, fact_mark, rule_mark, marks_of_facts, marks_of_rules}
use Rattle.theory.proofs.Bools.{never, and_left, false_of}
use Rattle.theory.proofs.Lists.{mapped_length, mapped_at, all-elem, any-witness}
use Rattle.theory.proofs.Run.{run_sound, run-disjoint, not-both, exception-known}
use Rattle.theory.proofs.Absent.{run-absent}
use Rattle.theory.proofs.Marks.{aside_supported, mark_aside}
use Rattle.theory.proofs.Withheld.{withheld_exception, plain_in_force, mark_off}
use Rattle.items.specs.Write.{over}
use Rattle.items.specs.Item.{marked}

-- a mark in front is the mark of its number
pub mark_at : (f : ℕ → ℕ) (n : ℕ) (room : List ℕ) (i : ℕ) → i < n → get_or (over (map f (up_to n)) room) i 0 ≡ f i
mark_at f n room i l =
    get_or-append (map f (up_to n)) (drop (length (map f (up_to n))) room) 0 i (rw (mapped_length f n) l)
    ∙ mapped_at f 0 n i l

pub marks_front : (f : ℕ → ℕ) (n : ℕ) (room : List ℕ) → take n (over (map f (up_to n)) room) ≡ map f (up_to n)
marks_front f n room = take_at (map f (up_to n)) (drop (length (map f (up_to n))) room) n (mapped_length f n)

pub marked-past : (n mark : ℕ) (bytes : List ℕ) (i : ℕ) → n ≤ i → marked n mark bytes i ≡ false
unfolding marked
marked-past n mark bytes i l = rw (le-ltb i n l) refl

-- a set that holds no number past the last is read off its marks
pub read_marks : (f : ℕ → ℕ) (n mark : ℕ) (room : List ℕ) (S : ℕ → Bool) → ((i : ℕ) → i < n → eqb (f i) mark ≡ S i) → ((i : ℕ) → n ≤ i → S i ≡ false) → marked n mark (over (map f (up_to n)) room) ≡ S
unfolding marked
read_marks f n mark room S inside outside = fun_ext (λ i. go i (dec_lt i n))
  where
    go : (i : ℕ) → Dec (i < n) → ltb i n && eqb (get_or (over (map f (up_to n)) room) i 0) mark ≡ S i
    go i (yes l) = rw (lt-ltb i n l, mark_at f n room i l) (inside i l)
    go i (no h) = let l : n ≤ i = omega arith in rw (le-ltb i n l) (sym (outside i l))

module _ (P : Program) (b : Bounded P) (order : List ℕ) where
  pub read_derived : (room : List ℕ) → marked P.facts 1 (over (marks_of_facts P (run P (in_force P) order)) room) ≡ (run P (in_force P) order).derived
  unfolding fact_mark
  read_derived room =
      read_marks (fact_mark P (run P (in_force P) order)) P.facts 1 room (run P (in_force P) order).derived
      (λ f _. one ((run P (in_force P) order).derived f) (rejected P (run P (in_force P) order).applied f))
      (λ f l. run-absent P (in_force P) order f (λ i k _ e. let c : (rule P i).conclusion < P.facts = b.conclusion_below i k in absurd (omega arith)))
    where
      one : (d r : Bool) → eqb (cond d 1 (cond r 2 0)) 1 ≡ d
      one true r = refl
      one false true = refl
      one false false = refl

  pub read_rejected : (room : List ℕ) → marked P.facts 2 (over (marks_of_facts P (run P (in_force P) order)) room) ≡ rejected P (run P (in_force P) order).applied
  unfolding fact_mark rejected
  read_rejected room =
      read_marks (fact_mark P (run P (in_force P) order)) P.facts 2 room (rejected P (run P (in_force P) order).applied)
      (λ f _. two ((run P (in_force P) order).derived f) (rejected P (run P (in_force P) order).applied f) (run-disjoint P (in_force P) order f))
      outside
    where
      two : (d r : Bool) → (d ≡ true → r ≡ true → ⊥) → eqb (cond d 1 (cond r 2 0)) 2 ≡ r
      two true true n = absurd (n refl refl)
      two true false n = refl
      two false true n = refl
      two false false n = refl

      outside : (f : ℕ) → P.facts ≤ f → rejected P (run P (in_force P) order).applied f ≡ false
      outside f l = false_of (rejected P (run P (in_force P) order).applied f) clash
        where
          clash : rejected P (run P (in_force P) order).applied f ≡ true → ⊥
          clash t =
              let w = any-witness (λ i. mem f (rule P i).constraints) (run P (in_force P) order).applied t in
              let e = (run_sound P (in_force P) order).excepted w.0 w.1 in
              never (all-elem (λ g. ltb g P.facts) (rule P w.0).constraints (b.constraints_below w.0 (exception-known P (in_force P) w.0 e)) f w.2) (le-ltb f P.facts l)

  pub read_aside : (room : List ℕ) → marked (count P) 2 (over (marks_of_rules P (in_force P) (run P (in_force P) order)) room) ≡ set_aside P (in_force P) (run P (in_force P) order).derived
  read_aside room =
      read_marks (rule_mark P (in_force P) (run P (in_force P) order)) (count P) 2 room (set_aside P (in_force P) (run P (in_force P) order).derived)
      (λ i _. mark_aside P (in_force P) (run P (in_force P) order) (run_sound P (in_force P) order) i)
      (λ i l. false_of (set_aside P (in_force P) (run P (in_force P) order).derived i) (λ a. let k : i < count P = (aside_supported P (in_force P) (run P (in_force P) order).derived i a).known in absurd (omega arith)))

  pub read_plain : (room : List ℕ) → marked (count P) 0 (over (marks_of_rules P (in_force P) (run P (in_force P) order)) room) ≡ plain P
  unfolding rule_mark plain
  read_plain room =
      read_marks (rule_mark P (in_force P) (run P (in_force P) order)) (count P) 0 room (plain P)
      (λ i _. zero_mark (plain P i) (mem i (run P (in_force P) order).applied) (set_aside P (in_force P) (run P (in_force P) order).derived i) (in_force P i))
      (λ i l. false_of (plain P i) (λ a. let k : i < count P = ltb-true i (count P) (and_left (ltb i (count P)) _ a) in absurd (omega arith)))
    where
      zero_mark : (p a s o : Bool) → eqb (cond p 0 (cond a 1 (cond s 2 (cond o 3 4)))) 0 ≡ p
      zero_mark true a s o = refl
      zero_mark false true s o = refl
      zero_mark false false true o = refl
      zero_mark false false false true = refl
      zero_mark false false false false = refl

  pub read_applied : (room : List ℕ) → marked (count P) 1 (over (marks_of_rules P (in_force P) (run P (in_force P) order)) room) ≡ (λ i. mem i (run P (in_force P) order).applied)
  unfolding rule_mark
  read_applied room =
      read_marks (rule_mark P (in_force P) (run P (in_force P) order)) (count P) 1 room (λ i. mem i (run P (in_force P) order).applied)
      (λ i _. one (plain P i) (mem i (run P (in_force P) order).applied) (set_aside P (in_force P) (run P (in_force P) order).derived i) (in_force P i)
      (λ p m. not-both P (in_force P) i p ((run_sound P (in_force P) order).excepted i m)))
      (λ i l. false_of (mem i (run P (in_force P) order).applied) (λ m. let k : i < count P = exception-known P (in_force P) i ((run_sound P (in_force P) order).excepted i m) in absurd (omega arith)))
    where
      one : (p a s o : Bool) → (p ≡ true → a ≡ true → ⊥) → eqb (cond p 0 (cond a 1 (cond s 2 (cond o 3 4)))) 1 ≡ a
      one true true s o n = absurd (n refl refl)
      one true false s o n = refl
      one false true s o n = refl
      one false false true o n = refl
      one false false false true n = refl
      one false false false false n = refl

  pub read_withheld : (room : List ℕ) → marked (count P) 4 (over (marks_of_rules P (in_force P) (run P (in_force P) order)) room) ≡ withheld P
  unfolding in_force
  read_withheld room =
      read_marks (rule_mark P (in_force P) (run P (in_force P) order)) (count P) 4 room (withheld P)
      (λ i _. mark_off P (in_force P) order i (λ o. false_of (plain P i) (λ p. never (plain_in_force P i p) o)) ∙ twice (withheld P i))
      (λ i l. false_of (withheld P i) (λ w. let k : i < count P = exception-known P (in_force P) i (withheld_exception P i w) in absurd (omega arith)))
    where
      twice : (b : Bool) → not (not b) ≡ b
      twice true = refl
      twice false = refl

-- what is past the front of a buffer keeps its contents
pub over-kept : (xs ys : List ℕ) (n : ℕ) → length xs ≡ n → drop n (over xs ys) ≡ drop n ys
over-kept xs ys n e = drop_at xs (drop (length xs) ys) n e ∙ ap (λ (m : ℕ). drop m ys) e
