-- The ways of the test on one step, by the tables of the file.
use Prim.Native.Nat.{ℕ, ◌≤◌, ◌<◌}
use mathlib.Core.Path.{◌≡◌, sym, ap, ◌∙◌}
use mathlib.Core.Bool.{Bool, true, false, not, ◌&&◌}
use mathlib.Core.List.{List}
use native.Mathlib.Omega.{arith}
use borrow.Author.Tests.{lt-ltb, le-ltb, eq-eqb, ne_eqb}
use lib.ListN.{length, get_or, set, length-set}
use Rattle.theory.specs.Rule.{Program, FactSet, adjoin, count, rule, withheld, in_force, Step}
use Rattle.theory.specs.Check.{step_holds}
use Rattle.theory.proofs.Withheld.{withheld-off, read_on}
use Rattle.items.specs.declared.item.FactId.{FactId}
use Rattle.items.specs.declared.item.RuleId.{RuleId}
use Rattle.items.specs.Item.{narrow, max_facts, fact_id}
use Rattle.tables.specs.Layout.{program_in}
use Rattle.tables.proofs.ProgramHeld.{facts_below, conclusion_below}
use Rattle.marking.proofs.MarksPainted.{has-set}
use Rattle.reader.specs.Questions.{program_of}
use Rattle.reader.specs.Scanned.{Tabled}
use Rattle.questions.specs.Questions.{step_of}
use Rattle.marking.specs.Marks.{barred, barred_in}
use Rattle.proofcheck.specs.Steps.{joined, rule_fits, step_fits, RuleMarked, StepMarked}
use Rattle.marking.proofs.MarksPainted.{bars-kept}

-- a rule of the tables is one of the file
pub rule-below : {file T : List ℕ} {i : ℕ} → Tabled file T → i < count (program_in T) → i < count (program_of file)
rule-below t h = omega (arith, ap count t.program, h)

module _ {file T : List ℕ} (t : Tabled file T) (f : FactId) (r : RuleId) where
  pub unknown_rule : (M S B : FactSet) → count (program_in T) ≤ r.0 → false ≡ step_fits (program_of file) M S B (step_of f r)
  unfolding step_fits step_holds
  unknown_rule M S B h =
      let past : count (program_of file) ≤ r.0 = omega (arith, ap count t.program, h) in
      sym (rw (le-ltb r.0 (count (program_of file)) past))

  module _ (h : r.0 < count (program_in T)) where
    pub by_withheld : (M S B : FactSet) → withheld (program_in T) r.0 ≡ true → false ≡ step_fits (program_of file) M S B (step_of f r)
    unfolding step_fits step_holds
    by_withheld M S B e =
        let off : in_force (program_of file) r.0 ≡ false = withheld-off (program_of file) r.0 (ap (λ (P : Program). withheld P r.0) (sym t.program) ∙ e) in
        sym (rw (lt-ltb r.0 (count (program_of file)) (rule-below t h), off))

    module _ {g : FactId} (c : g ≡ fact_id (rule (program_in T) r.0).conclusion) where
      concludes : g.0 ≡ (rule (program_of file) r.0).conclusion
      concludes = ap (λ (x : FactId). x.0) c ∙ ap (λ (P : Program). (rule P r.0).conclusion) t.program

      -- the fact of a step whose rule concludes it is one of the file
      pub fact-few : g.0 ≡ f.0 → f.0 < max_facts narrow
      fact-few q = omega (arith, conclusion_below t.well_formed h, facts_below t.well_formed, ap (λ (x : FactId). x.0) c, q)

      -- By a rule that is not withheld.
      module _ (read : withheld (program_in T) r.0 ≡ false) where
        on : in_force (program_of file) r.0 ≡ true
        on = read_on (program_of file) r.0 (ap (λ (P : Program). withheld P r.0) (sym t.program) ∙ read)

        pub other_conclusion : (M S B : FactSet) → (g.0 ≡ f.0 → ⊥) → false ≡ step_fits (program_of file) M S B (step_of f r)
        unfolding step_fits step_holds
        other_conclusion M S B n = sym (rw (lt-ltb r.0 (count (program_of file)) (rule-below t h), on, ← concludes, ne_eqb g.0 f.0 n))

        module _ (q : g.0 ≡ f.0) (M S B : FactSet) where
          rule-decides : step_fits (program_of file) M S B (step_of f r) ≡ rule_fits M S (rule (program_of file) r.0) && not (joined B (rule (program_of file) r.0).constraints f.0)
          unfolding step_fits step_holds
          rule-decides = rw (lt-ltb r.0 (count (program_of file)) (rule-below t h), on, ← concludes, eq-eqb g.0 f.0 q)

          by_rule : (b : Bool) → b ≡ rule_fits M S (rule (program_of file) r.0) → step_fits (program_of file) M S B (step_of f r) ≡ b && not (joined B (rule (program_of file) r.0).constraints f.0)
          by_rule b e = rule-decides ∙ ap (λ (x : Bool). x && not (joined B (rule (program_of file) r.0).constraints f.0)) (sym e)

          pub rule-unfit : false ≡ rule_fits M S (rule (program_of file) r.0) → false ≡ step_fits (program_of file) M S B (step_of f r)
          rule-unfit e = sym (by_rule false e)

          pub bars-decide : true ≡ rule_fits M S (rule (program_of file) r.0) → (b : Bool) → joined B (rule (program_of file) r.0).constraints f.0 ≡ b → not b ≡ step_fits (program_of file) M S B (step_of f r)
          bars-decide e b q = sym (by_rule true e ∙ ap not q)

-- The mark at the fact of the step, once the constraints of its rule are barred.
module _ (P : Program) (s : Step) {before now : List ℕ} (m : RuleMarked (rule P s.by) before now) where
  bars-there : joined (barred_in before) (rule P s.by).constraints s.fact ≡ barred_in now s.fact
  bars-there = sym (ap (λ (B : FactSet). B s.fact) m.bars)

  pub fact-barred : get_or now s.fact 0 ≡ barred → joined (barred_in before) (rule P s.by).constraints s.fact ≡ true
  unfolding barred_in
  fact-barred e = bars-there ∙ eq-eqb _ _ e

  not-barred : (get_or now s.fact 0 ≡ barred → ⊥) → barred_in now s.fact ≡ false
  unfolding barred_in
  not-barred n = ne_eqb _ _ n

  pub fact-free : (get_or now s.fact 0 ≡ barred → ⊥) → joined (barred_in before) (rule P s.by).constraints s.fact ≡ false
  fact-free n = bars-there ∙ not-barred n

  pub fact-marked : s.fact < max_facts narrow → (get_or now s.fact 0 ≡ barred → ⊥) → StepMarked P s before (set now s.fact 1)
  fact-marked h n =
      let inside : s.fact < length now = omega (arith, h, m.size) in
      record {
        size = length-set now s.fact 1 ∙ m.size;
        facts = has-set now s.fact inside ∙ ap (λ (S : FactSet). adjoin S s.fact) m.facts;
        bars = bars-kept now s.fact inside (not-barred n) ∙ m.bars;
      }
