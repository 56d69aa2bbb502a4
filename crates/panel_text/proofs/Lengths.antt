-- How long the lines, the text and the order are.
use Prim.Native.Nat.{ℕ, zero, suc, ◌+◌, ◌*◌, ◌≤◌, ◌<◌}
use native.Mathlib.Omega.{arith}
use native.Mathlib.Nat.{add-zero, suc-mul}
use mathlib.Core.Path.{◌≡◌, ◌∙◌}
use mathlib.Core.Bool.{Bool, true, false, cond}
use mathlib.Core.List.{List, [], ◌∷◌}
use borrow.Author.Tests.{eq-eqb, ne_eqb}
use lib.ListN.{length, replicate, length-append, length-replicate}
use lib.Dec.{eqb}
use Rattle.theory.specs.Rule.{keep, range, up_to, Program, Mask, FactSet, in_force, null, adjoin, nothing, count, rule, exception, Step}
use Rattle.theory.specs.Conditions.{Bounded}
use Rattle.theory.specs.Run.{Stand, run, stage_count, step_count}
use Rattle.theory.proofs.Grounds.{Grounds}
use Rattle.theory.proofs.Run.{granted, run_sound}
use Rattle.items.specs.Item.{narrow, name_width, max_facts, max_rules}
use Rattle.tables.specs.Layout.{program_in, WellFormed}
use Rattle.tables.proofs.ProgramHeld.{facts_below, rules-below}
use Rattle.items.specs.Write.{rule_item}
use Rattle.run.proofs.FewSteps.{Paced, run-paced}
use Rattle.questions.specs.Questions.{each, naming}
use Rattle.panel_lines.specs.Text.{newline, spaced, field, line, head_line, step_line, rejected_facts, aside_rules, run_text, ascending, most_spaced, most_field, most_line, most_step, most_head, text_room}
use Rattle.questions.specs.Put.{Fits, Put}
use Rattle.panel_lines.proofs.Decimal.{few_digits}

-- A number of at most three digits.
abbrev Small : ℕ → Type 0
Small n = n < 1000

spaced-length : (n : ℕ) → Small n → length (spaced n) ≤ most_spaced narrow
unfolding spaced
spaced-length n h = omega (arith, few_digits 2 n h)

field-length : (l n : ℕ) → Small n → length (field l n) ≤ most_field narrow
unfolding field
field-length l n h = omega (arith, spaced-length n h)

pub line-length : (l n : ℕ) → Small n → length (line l n) ≤ most_line narrow
unfolding line
line-length l n h = omega (arith, field-length l n h, length-append (field l n) newline)

head_length : (f r s : ℕ) → Small f → Small r → Small s → length (head_line f r s) ≤ most_head narrow
unfolding head_line
head_length f r s hf hr hs =
    simp length-append (omega (arith, field-length 0x46 f hf, field-length 0x52 r hr, field-length 0x53 s hs))

step-length : (s : Step) → Small s.fact → Small s.by → length (step_line s) ≤ most_step narrow
unfolding step_line
step-length s hf hb =
    simp length-append (omega (arith, field-length 0x44 s.fact hf, spaced-length s.by hb))

-- Bytes for some of the numbers of a range, at most k for each.
kept-length : (g : ℕ → List ℕ) (k : ℕ) (p : ℕ → Bool) (a n : ℕ) → ((i : ℕ) → i < a + n → length (g i) ≤ k) → length (each g (keep p (range a n))) ≤ n * k
kept-length g k p a zero h = omega arith
kept-length g k p a (suc n) h =
    rw (suc-mul n k) (go (p a) (kept-length g k p (suc a) n (λ i l. h i (omega arith))))
  where
    go : (b : Bool) → length (each g (keep p (range (suc a) n))) ≤ n * k → length (each g (cond b (a ∷ keep p (range (suc a) n)) (keep p (range (suc a) n)))) ≤ n * k + k
    go true r = omega (arith, length-append (g a) (each g (keep p (range (suc a) n))), h a (omega arith))
    go false r = omega arith

-- A line was written where the place has moved.
pub none_written : (l : ℕ) (ns : List ℕ) (at : ℕ) (before : List ℕ) (next : ℕ) (after : List ℕ) → Put (each (line l) ns) at before next after → eqb next at ≡ null ns
unfolding line field
none_written l [] at before next after p = eq-eqb next at (p.behind ∙ add-zero at)
none_written l (n ∷ ns) at before next after p =
    ne_eqb next at (λ e. absurd (omega (arith, p.behind, length-append (line l n) (each (line l) ns), length-append (field l n) newline)))

-- The items of an order of some of n rules.
pub order-length : (p : ℕ → Bool) (n : ℕ) → length (naming (keep p (up_to n))) ≤ n * name_width
order-length p n = kept-length rule_item name_width p 0 n (λ i l. omega arith)

-- The ascending order has room where there is room for a name of each rule.
pub ascending-fits : (P : Program) → count P ≤ max_rules → Fits (naming (ascending P)) 0 (replicate (max_rules * name_width) 0)
ascending-fits P r =
    record {
      inside = omega (arith, order-length (exception P) (count P), r, length-replicate {A = ℕ} (max_rules * name_width) 0);
    }

-- The lines of steps that a run may take.
module _ (P : Program) (b : Bounded P) (f : P.facts < max_facts narrow) (r : count P ≤ max_rules) where
  steps-length : (ok : Mask) (row : List Step) (S : FactSet) → Grounds P ok S row → length (each step_line row) ≤ length row * most_step narrow
  steps-length ok [] S g = omega arith
  steps-length ok (s ∷ row) S g =
      let by-known : s.by < count P = g.0.known in
      let below : (rule P s.by).conclusion < P.facts = b.conclusion_below s.by by-known in
      let fact_small : Small s.fact = omega (arith, g.0.concludes) in
      omega (arith, length-append (step_line s) (each step_line row), step-length s fact_small (omega arith), steps-length ok row (adjoin S s.fact) g.1)

  -- A run takes no more steps than there are facts.
  pub trace_length : (order : List ℕ) → length (each step_line (run P (in_force P) order).trace) ≤ P.facts * most_step narrow
  trace_length order =
      let s : Stand = run P (in_force P) order in
      let pace : Paced P s = run-paced P b (in_force P) order in
      let taken : step_count s ≤ P.facts = omega (arith, pace.room) in
      let steps : length (each step_line s.trace) ≤ length s.trace * most_step narrow = steps-length (granted P (in_force P) s.applied) s.trace nothing (run_sound P (in_force P) order).grounds in
      omega (arith, steps, taken)

  text_length : (order : List ℕ) → length (run_text P (run P (in_force P) order)) ≤ text_room narrow
  unfolding run_text
  text_length order =
      let s : Stand = run P (in_force P) order in
      let pace : Paced P s = run-paced P b (in_force P) order in
      let head : length (head_line P.facts (count P) (stage_count s)) ≤ most_head narrow = head_length P.facts (count P) (stage_count s) (omega arith) (omega arith) (omega (arith, pace.staged, pace.room)) in
      let steps : length (each step_line s.trace) ≤ P.facts * most_step narrow = trace_length order in
      let facts : length (each (line 0x58) (rejected_facts P s)) ≤ P.facts * most_line narrow = kept-length (line 0x58) (most_line narrow) _ 0 P.facts (λ i l. line-length 0x58 i (omega arith)) in
      let rules : length (each (line 0x41) (aside_rules P s)) ≤ count P * most_line narrow = kept-length (line 0x41) (most_line narrow) _ 0 (count P) (λ i l. line-length 0x41 i (omega arith)) in
      simp length-append (omega (arith, head, steps, facts, rules))

-- The text of a program in the tables has room.
pub text_fits : {T : List ℕ} → WellFormed T → (order : List ℕ) → length (run_text (program_in T) (run (program_in T) (in_force (program_in T)) order)) ≤ text_room narrow
text_fits {T} w order = text_length (program_in T) w.in_bounds (facts_below w) (rules-below w) order
