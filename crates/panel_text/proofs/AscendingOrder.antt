-- The ascending order: what is written, and that it gets yes to the questions on an order.
use Prim.Native.Nat.{ℕ, ◌*◌, ◌≤◌, ◌<◌}
use native.Mathlib.Omega.{arith}
use mathlib.Core.Path.{◌≡◌, refl, ap, ap₂, ◌∙◌}
use mathlib.Core.Bool.{Bool, true, false, not}
use mathlib.Core.List.{List}
use mathlib.Core.Option.{Option, none}
use borrow.Author.Tests.{le-leb}
use lib.ListN.{get_or, replicate}
use lib.Dec.{eqb}
use Rattle.theory.specs.Rule.{mem, keep, up_to, Program, in_force, count, exception, plain_rules}
use Rattle.theory.proofs.Bools.{and_right, and_both}
use Rattle.theory.proofs.Lists.{all_of, mem-keep, mem-up_to, up_to-mem, keep_same}
use Rattle.items.specs.declared.refusal.Refusal.{Refusal}
use Rattle.items.specs.Item.{narrow, step_width, max_facts, max_rules}
use Rattle.tables.specs.Layout.{program_in, WellFormed}
use Rattle.marking.specs.Marks.{paint}
use Rattle.tables.proofs.ProgramHeld.{rules-below}
use Rattle.marking.proofs.MarksPainted.{unpainted}
use Rattle.marking.proofs.RulesMarked.{plain_at}
use Rattle.questions.specs.Questions.{order_questions, order_no, buffer_questions, buffers_no, naming}
use Rattle.questions.specs.Parts.{tabled_no}
use Rattle.items.proofs.FirstNo.{all_yes}
use Rattle.questions.proofs.Orders.{keep-once, order-yes}
use Rattle.panel_lines.specs.Text.{ascending}
use Rattle.theory.specs.Places.{places_marked}

-- The rules that are not marked as plain are the exception rules, ascending.
pub unmarked_ascending : {T : List ℕ} → WellFormed T → (marks : List ℕ) → marks ≡ paint (plain_rules (program_in T) (in_force (program_in T))) (replicate max_rules 0) → (n : ℕ) → n ≡ count (program_in T) → places_marked 0 marks n ≡ ascending (program_in T)
unfolding places_marked
unmarked_ascending {T} w marks m n e =
    ap₂ (λ (l : List ℕ) (k : ℕ). keep (λ i. eqb (get_or l i 0) 0) (up_to k)) m e
    ∙ keep_same _ (exception (program_in T)) (up_to (count (program_in T))) (λ i d. unmarked i (mem-up_to (count (program_in T)) i d))
  where
    twice : (b : Bool) → not (not b) ≡ b
    twice true = refl
    twice false = refl

    unmarked : (i : ℕ) → i < count (program_in T) → eqb (get_or (paint (plain_rules (program_in T) (in_force (program_in T))) (replicate max_rules 0)) i 0) 0 ≡ exception (program_in T) i
    unmarked i h =
        unpainted max_rules (plain_rules (program_in T) (in_force (program_in T))) i (omega (arith, h, rules-below w))
        ∙ ap not (plain_at (program_in T) i h) ∙ twice (exception (program_in T) i)

pub ascending-yes : (known : ℕ → Bool) (n : ℕ) → ◌≡◌ {A = Option Refusal} (order_no known n (naming (keep known (up_to n)))) none
ascending-yes known n =
    order-yes known n (keep known (up_to n))
    (all_of known (keep known (up_to n)) (λ i m. and_right (mem i (up_to n)) (known i) (rw (mem-keep known (up_to n) i) at m)))
    (keep-once known 0 n)
    (λ i h k. rw (mem-keep known (up_to n) i) (and_both (up_to-mem n i h) k))

-- Working memory for every fact and every rule is large enough.
buffers_yes : (P : Program) → P.facts ≤ max_facts narrow → count P ≤ max_rules → ◌≡◌ {A = Option Refusal} (buffers_no narrow P (max_facts narrow) max_rules (max_facts narrow * step_width narrow)) none
unfolding buffer_questions
buffers_yes P f r =
    rw (le-leb P.facts (max_facts narrow) f, le-leb (count P) max_rules r, le-leb (step_width narrow * P.facts) (max_facts narrow * step_width narrow) (omega arith))

-- So nothing of a run in ascending order is refused.
pub ascending-runs : (P : Program) → P.facts ≤ max_facts narrow → count P ≤ max_rules → ◌≡◌ {A = Option Refusal} (tabled_no P (naming (ascending P)) (max_facts narrow) max_rules (max_facts narrow * step_width narrow)) none
ascending-runs P f r =
    all_yes (order_questions (exception P) (count P) (naming (ascending P))) (buffer_questions narrow P (max_facts narrow) max_rules (max_facts narrow * step_width narrow))
    (ascending-yes (exception P) (count P))
    (buffers_yes P f r)
