-- Wish 7.
use Prim.Native.Nat.{ℕ, ◌<◌}
use native.Mathlib.Omega.{arith}
use mathlib.Core.Path.{◌≡◌, refl, sym, ap, ◌∙◌}
use mathlib.Core.List.{List}
use mathlib.Core.Logic.{⊎_elim}
use mathlib.Core.Option.{Option, none, some}
use lib.Dec.{eqb}
use lib.ListN.{take}
use Rattle.theory.specs.Rule.{how_many, count, plain, exception, plain_rules, withheld, in_force, Program}
use Rattle.theory.specs.Derive.{fired, derive, steps}
use Rattle.theory.specs.Run.{rejected, spares, eligible, run, set_aside, rule_mark}
use Rattle.theory.specs.Better.{aside_count, second_preferred, better}
use Rattle.theory.proofs.Better.{run-asides, cost_total, better-first, better-second, better-one_of, better-fewest, better-left, better-pairs}
use Rattle.items.specs.declared.refusal.Refusal.{Refusal}
use Rattle.items.specs.Item.{body_length, item_of}
use Rattle.items.specs.Question.{number, no_number}
use Rattle.items.proofs.FirstNo.{first-no, first-yes}
use Rattle.cursors.specs.Cursor.{front, items_at}
use Rattle.reader.specs.Questions.{program_of, file_questions, file_no, exceptions}
use Rattle.questions.specs.Questions.{named_in, list_questions, order_questions, order_no, both_questions, better_questions, better_no, run_of}
use Rattle.run.specs.Outcome.{run_written, run_outcome, run_number}
use Rattle.run.proofs.ReadMarks.{marks_front}
use Rattle.better.specs.Outcome.{aside_of, choice_of, which, better_of}
use Rattle.better.proofs.BetterAsked.{both_right, right_both}
use Rattle.better.proofs.Chosen.{choice-means, choice-refused, better-handed, none_handed}
use Rattle.demands.specs.Wish07.{Questioned, BetterIs, ByPairs, Wish07, BetterExample}
use Rattle.demands.proofs.Outcomes.{answered, run-answered, run-written}
use Rattle.demands.proofs.Wish06.{wish_06}

module _ (file : List ℕ) where
  abbrev P : Program
  P = program_of file

  -- The questions of the operation, by those of the file and of each order.
  module _ (first second : List ℕ) where
    zero_asked : no_number (better_no file first second) ≡ 0 → ◌≡◌ {A = Option Refusal} (better_no file first second) none
    zero_asked e = answered (better_no file first second) _ (λ r q. ap no_number q) e

    some_asked : 0 < no_number (better_no file first second) → (r : Refusal) × (better_no file first second ≡ some r)
    some_asked l = go (better_no file first second) refl
      where
        go : (o : Option Refusal) → better_no file first second ≡ o → (r : Refusal) × (better_no file first second ≡ some r)
        go none e = absurd (omega (arith, ap no_number e))
        go (some r) e = (r, e)

    both_questioned : ◌≡◌ {A = Option Refusal} (better_no file first second) none → Questioned file first × Questioned file second
    both_questioned e =
        let b = both_right file first second e in
        (record { accepted = b.accepted; order_right = b.first_right }, record { accepted = b.accepted; order_right = b.second_right })

    asked-both : Questioned file first → Questioned file second → ◌≡◌ {A = Option Refusal} (better_no file first second) none
    asked-both p q = right_both file first second (record { accepted = p.accepted; first_right = p.order_right; second_right = q.order_right })

    file_number : (r : Refusal) → file_no file ≡ some r → no_number (better_no file first second) ≡ number r
    unfolding better_questions
    file_number r e = ap no_number (first-no (file_questions file) _ r e)

    first-number : (r : Refusal) → ◌≡◌ {A = Option Refusal} (file_no file) none → order_no (exception P) (count P) first ≡ some r → no_number (better_no file first second) ≡ number r
    unfolding better_questions both_questions
    first-number r a e = ap no_number (first-yes (file_questions file) _ a ∙ first-no (order_questions (exception P) (count P) first) _ r e)

    second-number : Questioned file first → no_number (better_no file first second) ≡ no_number (order_no (exception P) (count P) second)
    unfolding better_questions both_questions
    second-number p = ap no_number (first-yes (file_questions file) _ p.accepted ∙ first-yes (order_questions (exception P) (count P) first) _ p.order_right)

    better-is : ◌≡◌ {A = Option Refusal} (better_no file first second) none → BetterIs file first second
    better-is e =
        let h = better-handed file first second e in
        let m = choice-means file first second in
        record {
          first_fewer = λ l. h ∙ better-first (aside_of file) first second (omega arith);
          second_fewer = λ l. h ∙ better-second (aside_of file) first second l;
          equal_first = λ l. h ∙ better-first (aside_of file) first second (omega (arith, l));
          one_of = rw h (better-one_of (aside_of file) first second);
          no_worse = rw h (better-fewest (aside_of file) first second);
          which_first = m.first_chosen e;
          which_second = m.second_chosen e;
        }

  -- What is handed back of two orders is one of them, so it is questioned as they are.
  handed-questioned : (x y : List ℕ) → Questioned file x → Questioned file y → Questioned file (better (aside_of file) x y)
  handed-questioned x y p q = ⊎_elim (λ e. rw e p) (λ e. rw e q) (better-one_of (aside_of file) x y)

  by_pairs : (x y z : List ℕ) → Questioned file x → Questioned file y → Questioned file z → ByPairs file x y z
  by_pairs x y z p q r =
      record {
        first_two = rw first-bytes (better-left (aside_of file) x y z);
        last_two = rw (last-bytes, ← better-pairs (aside_of file) x y z) (better-left (aside_of file) x y z);
        same = first-bytes ∙ (better-pairs (aside_of file) x y z ∙ sym last-bytes);
        questioned = (rw one_two (handed-questioned x y p q), rw two-three (handed-questioned y z q r));
      }
    where
      one_two : better_of file x y ≡ better (aside_of file) x y
      one_two = better-handed file x y (asked-both x y p q)

      two-three : better_of file y z ≡ better (aside_of file) y z
      two-three = better-handed file y z (asked-both y z q r)

      first-bytes : better_of file (better_of file x y) z ≡ better (aside_of file) (better (aside_of file) x y) z
      first-bytes =
          ap (λ (w : List ℕ). better_of file w z) one_two
          ∙ better-handed file (better (aside_of file) x y) z (asked-both _ _ (handed-questioned x y p q) r)

      last-bytes : better_of file x (better_of file y z) ≡ better (aside_of file) x (better (aside_of file) y z)
      last-bytes =
          ap (λ (w : List ℕ). better_of file x w) two-three
          ∙ better-handed file x (better (aside_of file) y z) (asked-both _ _ p (handed-questioned y z q r))

  marks_counted : (order facts rules steps : List ℕ) → run_number (run_outcome file order facts rules steps).answer ≡ 0 → aside_of file order ≡ how_many (λ m. eqb m 2) (take (count P) (run_outcome file order facts rules steps).rule_marks)
  unfolding run_written
  marks_counted order facts rules steps e =
      rw (run-written file order facts rules steps (run-answered file order facts rules steps e))
      (sym (run-asides P (in_force P) (named_in order))
      ∙ ap (how_many (λ m. eqb m 2)) (sym (marks_front (rule_mark P (in_force P) (run_of file order)) (count P) rules)))

  pub wish_07 : Wish07 file
  wish_07 =
      record {
        result = λ first second e. better-is first second (zero_asked first second e);
        counted = marks_counted;
        withheld_not = (wish_06 file).never_aside;
        total = cost_total (aside_of file);
        transitive = λ x y z l m. omega arith;
        by_pairs = by_pairs;
        file-asked = file_number;
        first_asked = first-number;
        second_asked = second-number;
        refused_empty = λ first second l. let n = some_asked first second l in none_handed file first second n.0 n.1;
        refused_neither = λ first second l. let n = some_asked first second l in ap which (sym (choice-refused file first second n.0 n.1));
        zero_exactly = λ first second. ((λ e. both_questioned first second (zero_asked first second e)), λ q. ap no_number (asked-both first second q.0 q.1));
      }

pub better-example : BetterExample
unfolding choice_of better_questions both_questions aside_count second_preferred exceptions list_questions order_questions file_questions items_at front body_length item_of run eligible rejected spares set_aside fired derive steps plain_rules plain exception in_force withheld
better-example =
    record {
      first_sets = refl;
      second_sets = refl;
      takes_second = refl;
      takes_first = refl;
      hands_back = refl;
      equal = refl;
      refuses = refl;
      hands_nothing = refl;
    }
