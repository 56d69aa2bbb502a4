-- A rule read item after item through its view: what is to come of the rule decides, its constraints so far are barred, and the range still ends
-- with the rule.
use Prim.Native.Nat.{ℕ, ◌<◌}
use mathlib.Core.Path.{◌≡◌, refl, sym, ap, ap₂, fun_ext, ◌∙◌}
use mathlib.Core.Bool.{Bool, true, false, ◌&&◌}
use mathlib.Core.List.{List, [], ◌∷◌}
use native.Mathlib.Omega.{arith}
use borrow.Author.Tests.{lt-ltb, ltb-true}
use lib.ListN.{length, set, length-set}
use lib.Dec.{ltb}
use Rattle.theory.specs.Rule.{all, clear, count, rule, Rule, Program, FactSet}
use Rattle.theory.proofs.Bools.{and_left, and_right, and-false, or-none}
use Rattle.theory.proofs.Lists.{all-mono}
use Rattle.items.specs.declared.item.FactId.{FactId}
use Rattle.items.specs.Item.{narrow, asks_in, asks_out, max_facts, has}
use Rattle.cursors.specs.Cursor.{items_at, body_at}
use Rattle.tables.specs.Layout.{program_in}
use Rattle.tables.proofs.ProgramHeld.{facts_below}
use Rattle.reader.specs.Questions.{premises_of, constraints_of, program_of}
use Rattle.reader.specs.Scanned.{Tabled}
use Rattle.view.specs.declared.range.Taken.{Taken}
use Rattle.view.specs.declared.range.Range.{Range}
use Rattle.view.specs.View.{end_at}
use Rattle.view.proofs.RangeItems.{Gives, NoneOwn}
use Rattle.view.proofs.RuleRanges.{InFile}
use Rattle.marking.specs.Marks.{barred, barred_in}
use Rattle.proofcheck.specs.Steps.{joined, rule_fits, RuleMarked}
use Rattle.proofcheck.specs.Viewed.{rule_ahead, marks_fit, MayView, Fitted}
use Rattle.proofcheck.proofs.JoinedSets.{joined-first}
use Rattle.proofcheck.proofs.BarMarks.{bar_set, bar_keeps_facts}

-- a rule of the file is one of the tables
pub in_tables : {s T : List ℕ} {i : ℕ} → Tabled s T → i < count (program_of s) → i < count (program_in T)
in_tables t h = omega (arith, ap count t.program, h)

constraints-fit : {s T : List ℕ} {i : ℕ} → Tabled s T → i < count (program_of s) → marks_fit (rule (program_of s) i).constraints ≡ true
constraints-fit {s} {T} {i} t h =
    all-mono (λ f. ltb f (program_in T).facts) (λ f. ltb f (max_facts narrow)) (rule (program_of s) i).constraints wider
    (ap (λ (P : Program). all (λ f. ltb f (program_in T).facts) (rule P i).constraints) (sym t.program) ∙ t.well_formed.in_bounds.constraints_below i (in_tables t h))
  where
    wider : (f : ℕ) → ltb f (program_in T).facts ≡ true → ltb f (max_facts narrow) ≡ true
    wider f e = lt-ltb f (max_facts narrow) (omega (arith, ltb-true f (program_in T).facts e, facts_below t.well_formed))

-- what some premises and constraints ask of S and M, as those of a rule do
abbrev fits : FactSet → FactSet → List ℕ → List ℕ → Bool
fits M S ps ks = all S ps && (clear S ks && clear M ks)

-- What is to come of a rule R from place `at` on.
pub record Viewing (M : FactSet) (R : Rule) (before marks : List ℕ) (s : List ℕ) (end at : ℕ) : Type 0 where
  pub size : length marks ≡ max_facts narrow
  pub ends : end ≡ end_at s at
  pub same : rule_fits M (has before) R ≡ fits M (has before) (premises_of (items_at s (body_at at))) (constraints_of (items_at s (body_at at)))
  pub below : marks_fit (constraints_of (items_at s (body_at at))) ≡ true
  pub facts : has marks ≡ has before
  pub bars : joined (barred_in marks) (constraints_of (items_at s (body_at at))) ≡ joined (barred_in before) R.constraints

pub all-ahead : (M : FactSet) {s : List ℕ} {at end : ℕ} {marks : List ℕ} → MayView s at end marks → Viewing M (rule_ahead s at) marks marks s end at
all-ahead M v = record { size = v.size; ends = v.ends; same = refl; below = v.below; facts = refl; bars = refl }

-- the range of a rule of the file may be viewed, and what is ahead of it is the rule
module _ {s T : List ℕ} {i : ℕ} {r : Range} (t : Tabled s T) (h : i < count (program_of s)) (o : InFile s (rule (program_of s) i) r) where
  pub may_view : (marks : List ℕ) → length marks ≡ max_facts narrow → MayView s r.at r.end marks
  may_view marks l = record { size = l; ends = o.ends; below = ap marks_fit o.own.constraints ∙ constraints-fit t h }

  pub rule-fitted : (M : FactSet) (marks after : List ℕ) (fitted : Bool) → Fitted M (rule_ahead s r.at) marks fitted after → Fitted M (rule (program_of s) i) marks fitted after
  rule-fitted M marks after fitted q = (
    q.0 ∙ ap₂ (fits M (has marks)) o.own.premises o.own.constraints,
    λ y. record { size = (q.1 y).size; facts = (q.1 y).facts; bars = (q.1 y).bars ∙ ap (joined (barred_in marks)) o.own.constraints },
  )

module _ {M : FactSet} {R : Rule} {before marks s : List ℕ} {end at : ℕ} (w : Viewing M R before marks s end at) where
  pub none_left_lem : NoneOwn (items_at s (body_at at)) → (true ≡ rule_fits M (has before) R) × (true ≡ true → RuleMarked R before marks)
  none_left_lem e = (
    sym (w.same ∙ ap (λ (ps : List ℕ). fits M (has before) ps (constraints_of (items_at s (body_at at)))) (e asks_in) ∙ ap (fits M (has before) []) (e asks_out)),
    λ y. record { size = w.size; facts = w.facts; bars = sym (fun_ext (λ f. or-none (barred_in marks f))) ∙ ap (joined (barred_in marks)) (sym (e asks_out)) ∙ w.bars },
  )

  module _ {t : Taken} (f : FactId) (g : Gives s at end t asks_in f) where
    abbrev ps : List ℕ
    ps = premises_of (items_at s (body_at t.rest))

    abbrev ks : List ℕ
    ks = constraints_of (items_at s (body_at t.rest))

    premise_first : rule_fits M (has before) R ≡ fits M (has before) (f.0 ∷ ps) ks
    premise_first = w.same ∙ ap₂ (fits M (has before)) (g.own asks_in) (g.own asks_out)

    pub premise_missing : has marks f.0 ≡ false → false ≡ rule_fits M (has before) R
    premise_missing q =
        let out : has before f.0 ≡ false = sym (ap (λ (S : FactSet). S f.0) w.facts) ∙ q in
        let here : fits M (has before) (f.0 ∷ ps) ks ≡ false = rw out in
        sym (premise_first ∙ here)

    pub premise_there : has marks f.0 ≡ true → Viewing M R before marks s end t.rest
    premise_there q =
        let in-before : has before f.0 ≡ true = sym (ap (λ (S : FactSet). S f.0) w.facts) ∙ q in
        let here : fits M (has before) (f.0 ∷ ps) ks ≡ fits M (has before) ps ks = rw in-before in
        record {
          size = w.size;
          ends = g.ends w.ends;
          same = premise_first ∙ here;
          below = ap marks_fit (sym (g.own asks_out)) ∙ w.below;
          facts = w.facts;
          bars = ap (joined (barred_in marks)) (sym (g.own asks_out)) ∙ w.bars;
        }

  module _ {t : Taken} (f : FactId) (g : Gives s at end t asks_out f) where
    abbrev ps' : List ℕ
    ps' = premises_of (items_at s (body_at t.rest))

    abbrev ks' : List ℕ
    ks' = constraints_of (items_at s (body_at t.rest))

    constraint_first : rule_fits M (has before) R ≡ fits M (has before) ps' (f.0 ∷ ks')
    constraint_first = w.same ∙ ap₂ (fits M (has before)) (g.own asks_in) (g.own asks_out)

    first_below : marks_fit (f.0 ∷ ks') ≡ true
    first_below = ap marks_fit (sym (g.own asks_out)) ∙ w.below

    pub constraint_below : f.0 < max_facts narrow
    constraint_below = ltb-true f.0 (max_facts narrow) (and_left _ (marks_fit ks') first_below)

    -- the facts are those before the rule
    before_too : {b : Bool} → has marks f.0 ≡ b → has before f.0 ≡ b
    before_too q = sym (ap (λ (S : FactSet). S f.0) w.facts) ∙ q

    pub among_facts : has marks f.0 ≡ true → false ≡ rule_fits M (has before) R
    among_facts q =
        let in-before : has before f.0 ≡ true = before_too q in
        let here : fits M (has before) ps' (f.0 ∷ ks') ≡ false = rw in-before (and-false (all (has before) ps')) in
        sym (constraint_first ∙ here)

    pub in_the_set : M f.0 ≡ true → false ≡ rule_fits M (has before) R
    in_the_set q =
        let here : fits M (has before) ps' (f.0 ∷ ks') ≡ false = rw q (ap (λ (b : Bool). all (has before) ps' && b) (and-false (clear (has before) (f.0 ∷ ks'))) ∙ and-false (all (has before) ps')) in
        sym (constraint_first ∙ here)

    pub outside-both : has marks f.0 ≡ false → M f.0 ≡ false → Viewing M R before (set marks f.0 barred) s end t.rest
    outside-both q m =
        let here : fits M (has before) ps' (f.0 ∷ ks') ≡ fits M (has before) ps' ks' = rw (before_too q, m) in
        let inside : f.0 < length marks = omega (arith, constraint_below, w.size) in
        record {
          size = length-set marks f.0 barred ∙ w.size;
          ends = g.ends w.ends;
          same = constraint_first ∙ here;
          below = and_right (ltb f.0 (max_facts narrow)) (marks_fit ks') first_below;
          facts = bar_keeps_facts marks f.0 inside q ∙ w.facts;
          bars = ap (λ (B : FactSet). joined B ks') (bar_set marks f.0 inside) ∙ joined-first (barred_in marks) f.0 ks' ∙ ap (joined (barred_in marks)) (sym (g.own asks_out)) ∙ w.bars;
        }
