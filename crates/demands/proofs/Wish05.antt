-- Wish 5.
use Prim.Native.Nat.{ℕ, ◌+◌, ◌*◌, ◌<◌, ◌≤◌}
use native.Mathlib.Omega.{arith}
use mathlib.Core.Path.{◌≡◌, refl, sym, ap, ◌∙◌}
use mathlib.Core.Bool.{Bool, true, false, not, ◌||◌}
use mathlib.Core.List.{List, [], ◌∷◌, ◌++◌}
use mathlib.Core.Option.{Option, none}
use mathlib.Core.Logic.{◌↔◌, ◌⊎◌, inl, inr, ⊎_elim}
use borrow.Author.Tests.{leb-true, leb-false, ltb-true, eq-eqb}
use lib.Dec.{leb, ltb}
use lib.ListN.{length}
use Rattle.theory.specs.Rule as theory
use Rattle.theory.specs.Rule.{all, mem, up_to, nothing, adjoin, Program, withheld, in_force, rule, blank, plain, exception, plain_rules}
use Rattle.theory.proofs.Bools.{either, never, and_left}
use Rattle.items.specs.declared.refusal.Refusal.{Refusal}
use Rattle.items.specs.declared.refusal.Refusal.TheVariants.{NotAllNamed}
use Rattle.items.specs.Question.{ask, first_no}
use Rattle.reader.proofs.Accepted.{all_asked}
use Rattle.theory.proofs.Lists.{mapped_length, mapped_at}
use Rattle.theory.specs.Derive.{fired, derive, steps}
use Rattle.theory.specs.Run.{rejected, spares, eligible, run, set_aside, fact_mark, rule_mark}
use Rattle.items.specs.Item.{body_length, item_of}
use Rattle.cursors.specs.Cursor.{front, items_at, order_start}
use Rattle.reader.specs.Questions.{program_of, file_no, file_questions, exceptions}
use Rattle.questions.specs.Questions.{list_questions, order_questions, buffer_questions, run_questions, naming, named_in, names_questions, order_no, whole}
use Rattle.run.specs.Outcome.{RunOutcome, run_written, run_outcome, run_number}
use Rattle.run.proofs.ReadMarks.{over-kept}
use Rattle.generator.specs.Draws.{state_after, taken}
use Rattle.generator.specs.Load.{rule_items, load_bytes, rule_drawn, load_program}
use Rattle.generator.specs.Outcome.{LoadOutcome, load_outcome, load_written, load_number, load_count, file_in}
use Rattle.generator.proofs.Sums.{state_sum}
use Rattle.generator.proofs.Quotients.{draw-below}
use Rattle.generator.proofs.LoadRead.{load-length, load_accepted, program-back}
use Rattle.generator.proofs.LoadAnswers.{AllYesses, all_yes, load_is, no-facts, too_many_facts, too_many_rules, too_short, passed, no-refusal, file_is}
use Rattle.demands.specs.Starred.{fact_room, rule_room, step_room}
use Rattle.demands.specs.Wish05.{Outside, LoadIs, LoadExample, Wish05}
use Rattle.demands.proofs.Outcomes.{run-written, run-answered}
use Rattle.demands.proofs.RunIs.{yeses, run_is}

module _ (start n m : ℕ) (out : List ℕ) where
  abbrev o : LoadOutcome
  o = load_outcome start n m out

  -- the number by each way that the questions can go
  data Way : Type 0 where
    facts_outside : Outside n → load_number o.answer ≡ 53 → Way
    rules_outside : 1 ≤ n → n ≤ 255 → 512 < m → load_number o.answer ≡ 54 → Way
    room_short : 1 ≤ n → n ≤ 255 → m ≤ 512 → length out < 5 + 6 * m → load_number o.answer ≡ 55 → Way
    all_well : 1 ≤ n → n ≤ 255 → m ≤ 512 → 5 + 6 * m ≤ length out → load_number o.answer ≡ 0 → Way

  way : Way
  unfolding load_written
  way = ⊎_elim none_at_all (λ some. ⊎_elim (λ few. rules few some) many (at_most n 255)) (at_most n 0)
    where
      at_most : (a b : ℕ) → (a ≤ b) ⊎ (b < a)
      at_most a b = ⊎_elim (λ t. inl (leb-true a b t)) (λ f. inr (leb-false a b f)) (either (leb a b))

      numbered : (x : LoadOutcome) → o ≡ x → load_number o.answer ≡ load_number x.answer
      numbered x e = ap (λ (y : LoadOutcome). load_number y.answer) e

      none_at_all : n ≤ 0 → Way
      none_at_all z = let e : n ≡ 0 = omega arith in facts_outside (inl e) (numbered _ (no-facts start n m out e))

      many : 255 < n → Way
      many h = facts_outside (inr h) (numbered _ (too_many_facts start n m out h))

      room : n ≤ 255 → 0 < n → m ≤ 512 → Way
      room few some r =
          ⊎_elim
          (λ l. all_well some few r l (numbered _ (load_is start n m out (passed start n m out some few r l))))
          (λ l. room_short some few r l (numbered _ (too_short start n m out some few r l)))
          (at_most (5 + 6 * m) (length out))

      rules : n ≤ 255 → 0 < n → Way
      rules few some = ⊎_elim (room few some) (λ h. rules_outside some few h (numbered _ (too_many_rules start n m out some few h))) (at_most m 512)

  -- Each number says which way they went.
  record Numbered : Type 0 where
    fifty_three : (load_number o.answer ≡ 53) ↔ Outside n
    fifty_four : (load_number o.answer ≡ 54) ↔ ((1 ≤ n) × (n ≤ 255) × (512 < m))
    fifty_five : (load_number o.answer ≡ 55) ↔ ((1 ≤ n) × (n ≤ 255) × (m ≤ 512) × (length out < 5 + 6 * m))

  never_outside : 1 ≤ n → n ≤ 255 → Outside n → ⊥
  never_outside a b (inl z) = omega arith
  never_outside a b (inr h) = omega arith

  numbers : Way → Numbered
  numbers (facts_outside u e) =
      record {
        fifty_three = (λ z. u, λ v. e);
        fifty_four = (λ z. absurd (omega arith), λ v. absurd (never_outside v.0 v.1 u));
        fifty_five = (λ z. absurd (omega arith), λ v. absurd (never_outside v.0 v.1 u));
      }
  numbers (rules_outside a b c e) =
      record {
        fifty_three = (λ z. absurd (omega arith), λ v. absurd (never_outside a b v));
        fifty_four = (λ z. (a, b, c), λ v. e);
        fifty_five = (λ z. absurd (omega arith), λ v. absurd (omega (arith, v.2)));
      }
  numbers (room_short a b c d e) =
      record {
        fifty_three = (λ z. absurd (omega arith), λ v. absurd (never_outside a b v));
        fifty_four = (λ z. absurd (omega arith), λ v. absurd (omega (arith, v.2)));
        fifty_five = (λ z. (a, b, c, d), λ v. e);
      }
  numbers (all_well a b c d e) =
      record {
        fifty_three = (λ z. absurd (omega arith), λ v. absurd (never_outside a b v));
        fifty_four = (λ z. absurd (omega arith), λ v. absurd (omega (arith, v.2)));
        fifty_five = (λ z. absurd (omega arith), λ v. absurd (omega (arith, v.3)));
      }

  module _ (z : load_number o.answer ≡ 0) where
    answered_yes : AllYesses n m (length out)
    answered_yes = all_yes n m (length out) (no-refusal start n m out z)

    written : o ≡ load_written (load_bytes start n m) out
    written = load_is start n m out (no-refusal start n m out z)

    counts : load_count o.answer ≡ 5 + 6 * m
    unfolding load_written
    counts = ap (λ (x : LoadOutcome). load_count x.answer) written ∙ load-length start n m

    read : program_of (file_in o) ≡ load_program start n m
    read = rw (file_is start n m out z) (program-back start n m)

    load_is_so : LoadIs start n m out o
    unfolding load_written
    load_is_so =
        record {
          counted = counts;
          bytes = file_is start n m out z;
          out_kept = rw written (over-kept (load_bytes start n m) out (length (load_bytes start n m)) refl);
          accepted = ap file_no (file_is start n m out z) ∙ load_accepted start n answered_yes.some_facts m answered_yes.few_rules;
          facts = ap (λ (P : Program). P.facts) read;
          rules = ap theory.count read ∙ mapped_length (rule_drawn start n) m;
          drawn = λ i h. ap (λ (P : Program). rule P i) read ∙ mapped_at (rule_drawn start n) blank m i h;
        }

  pub wish_05 : Wish05 start n m out
  unfolding load_written
  wish_05 =
      record {
        result = load_is_so;
        sum = λ l k. state_sum start l k;
        is_fact = draw-below start n;
        equal_bytes = λ other y z. file_is start n m out y ∙ sym (file_is start n m other z);
        fifty_three = (numbers way).fifty_three;
        fifty_four = (numbers way).fifty_four;
        fifty_five = (numbers way).fifty_five;
        else_written = λ a b c d. ap (λ (x : LoadOutcome). load_number x.answer) (load_is start n m out (passed start n m out a b c d));
      }

-- Where rule 0 is the one exception rule, the orders that the run takes name it and nothing else.
module _ (known : ℕ → Bool) (zero-known : known 0 ≡ true) (only_zero : (r : ℕ) → known r ≡ true → r ≡ 0) where
  names-zero : (rs : List ℕ) → ◌≡◌ {A = Option Refusal} (first_no (names_questions known nothing rs ++ (ask NotAllNamed (all (λ i. not (known i) || mem i rs) (up_to 1)) ∷ []))) none → rs ≡ 0 ∷ []
  names-zero [] e =
      let unnamed : all (λ i. not (known i) || mem i []) (up_to 1) ≡ false = rw zero-known refl in
      never (all_asked _ (all (λ i. not (known i) || mem i []) (up_to 1)) _ e).0 unnamed
  names-zero (r ∷ []) e = ap (λ (x : ℕ). x ∷ []) (only_zero r (all_asked _ (known r) _ e).0)
  names-zero (r ∷ q ∷ rs) e =
      let first = all_asked _ (known r) _ e in
      let second = all_asked _ (known q) _ first.1 in
      let twice = all_asked _ (not (adjoin nothing r q)) _ second.1 in
      let same : q ≡ r = only_zero q second.0 ∙ sym (only_zero r first.0) in
      let seen : not (adjoin nothing r q) ≡ false = rw (eq-eqb q r same) refl in
      never twice.0 seen

  order-zero : (order : List ℕ) → ◌≡◌ {A = Option Refusal} (order_no known 1 order) none → named_in order ≡ 0 ∷ []
  unfolding order_questions list_questions
  order-zero order e = names-zero (named_in order) (all_asked _ (whole (items_at order order_start)) _ e).1

-- The program of the document's example.
abbrev example : Program
example = program_of (load_bytes 0 4 1)

the_order : (order facts rules steps : List ℕ) → run_number (run_outcome (load_bytes 0 4 1) order facts rules steps).answer ≡ 0 → named_in order ≡ 0 ∷ []
unfolding load_bytes rule_items state_after taken items_at front body_length item_of exception
the_order order facts rules steps z =
    order-zero (exception example) refl only order (yeses (load_bytes 0 4 1) order facts rules steps (run-answered (load_bytes 0 4 1) order facts rules steps z)).1.0
  where
    only : (r : ℕ) → exception example r ≡ true → r ≡ 0
    only r e = omega (arith, ltb-true r 1 (and_left (ltb r 1) _ e))

-- The example of the document, by computing; that its run is the chaining along the order is by the theorem on the run.
pub load_example : LoadExample
unfolding load_bytes rule_items state_after taken run_outcome run_written run_questions buffer_questions order_questions list_questions file_questions exceptions items_at front body_length item_of run eligible rejected spares set_aside fact_mark rule_mark fired derive steps plain_rules plain exception in_force withheld
load_example =
    record {
      bytes = refl;
      one_stage = λ order facts rules steps z. ap (λ (x : RunOutcome). x.answer) (run-written (load_bytes 0 4 1) order facts rules steps (run-answered (load_bytes 0 4 1) order facts rules steps z)) ∙ ap (λ (names : List ℕ). (run_written example (run example (in_force example) names) facts rules steps).answer) (the_order order facts rules steps z);
      runs = record { leaves = refl; is = run_is (load_bytes 0 4 1) (naming (0 ∷ [])) (fact_room (load_bytes 0 4 1)) (rule_room (load_bytes 0 4 1)) (step_room (load_bytes 0 4 1)) refl };
    }
