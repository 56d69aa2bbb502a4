-- `step_fits`: each way through the tests is a law of `StepTested`.
use Prim.Native.Nat.{ℕ, ◌<◌}
use mathlib.Core.Path.{◌≡◌, refl, sym, ◌∙◌}
use mathlib.Core.Bool.{Bool, true, false, not}
use borrow.Author.Tests.{eqb-true, eqb-false}
use lib.Dec.{eqb}
use native.Mathlib.Omega.{arith}
use Rattle.tables.specs.Held.{held}
use Rattle.theory.specs.Rule.{count, withheld, rule as rule_of}
use Rattle.theory.proofs.Bools.{never, false_of_not}
use Rattle.items.specs.Item.{narrow, max_facts}
use Rattle.reader.specs.Questions.{program_of}
use Rattle.questions.specs.Questions.{step_of}
use Rattle.proofcheck.specs.Steps.{RuleMarked}
use Rattle.proofcheck.proofs.StepTested.{rule-below, unknown_rule, by_withheld, other_conclusion, fact-few, rule-unfit, bars-decide, fact-barred, fact-free, fact-marked}
use Rattle.proofcheck.proofs.steps.step_fits.Goals as goal
use Rattle.proofcheck.proofs.steps.step_fits.Goals.{Else-ne, Else-is_withheld, Else-not-rule_fits, Else-rules-rule}

-- what the comparison of two facts tells
equals : {a b : ℕ} {r : Bool} → r ≡ not (eqb a b) → r ≡ false → a ≡ b
equals {a} {b} e f = eqb-true a b (decided (eqb a b) (sym e ∙ f))
  where
    decided : (t : Bool) → not t ≡ false → t ≡ true
    decided true q = refl
    decided false q = sym q

differs : {a b : ℕ} {r : Bool} → r ≡ not (eqb a b) → r ≡ true → a ≡ b → ⊥
differs {a} {b} e t = eqb-false a b (false_of_not (eqb a b) (sym e ∙ t))

known : (c : Else-rules-rule) → c.args.rule.0 < count (held c.args.tables.now)
known c = omega (arith, c.rules.ensures, c.if-rules-rule.false)

-- past the second test
unread : (c : Else-is_withheld) → withheld (held c.args.tables.now) c.args.rule.0 ≡ false
unread c = sym c.is_withheld.ensures ∙ c.if-is_withheld.false

-- once the rule concludes the fact
in_table : (c : Else-ne) → c.args.fact.0 < max_facts narrow
in_table c = fact-few c.requires.tabled c.args.fact c.args.rule (omega (arith, c.rules.ensures, c.if-rules-rule.false)) c.conclusion-concluded.ensures (equals c.ne.ensures c.if-ne.false)

-- once the rule fits
constraints-barred : (c : Else-not-rule_fits) → RuleMarked (rule_of (program_of c.args.file.now) c.args.rule.0) c.args.marks.now c.rule_fits.new.marks
constraints-barred c = c.rule_fits.ensures.rule_marked c.if-not-rule_fits.false

pub returns-then-rules-rule : goal.returns-then-rules-rule
returns-then-rules-rule c = record {
  value = unknown_rule c.requires.tabled c.args.fact c.args.rule _ _ _ (omega (arith, c.rules.ensures, c.if-rules-rule.true));
  step_marked = λ e. never e refl;
}

pub returns-then-is_withheld : goal.returns-then-is_withheld
returns-then-is_withheld c = record {
  value = by_withheld c.requires.tabled c.args.fact c.args.rule (known (goal.at.returns-then-is_withheld c).Else-rules-rule) _ _ _ (sym c.is_withheld.ensures ∙ c.if-is_withheld.true);
  step_marked = λ e. never e refl;
}

pub returns-then-ne : goal.returns-then-ne
returns-then-ne c = record {
  value = other_conclusion c.requires.tabled c.args.fact c.args.rule (known (goal.at.returns-then-ne c).Else-rules-rule) c.conclusion-concluded.ensures (unread (goal.at.returns-then-ne c).Else-is_withheld) _ _ _ (differs c.ne.ensures c.if-ne.true);
  step_marked = λ e. never e refl;
}

pub rule_fits-requires : goal.rule_fits-requires
rule_fits-requires c = record {
  tabled = (c.requires.tabled, rule-below c.requires.tabled (known (goal.at.rule_fits-requires c).Else-rules-rule));
  marks_len = c.requires.marks_len;
}

pub returns-then-not-rule_fits : goal.returns-then-not-rule_fits
returns-then-not-rule_fits c = record {
  value = rule-unfit c.requires.tabled c.args.fact c.args.rule (known (goal.at.returns-then-not-rule_fits c).Else-rules-rule) c.conclusion-concluded.ensures (unread (goal.at.returns-then-not-rule_fits c).Else-is_withheld) (equals c.ne.ensures c.if-ne.false) _ _ _ (sym c.if-not-rule_fits.true ∙ c.rule_fits.ensures.value);
  step_marked = λ e. never e refl;
}

pub bounds-marks-number : goal.bounds-marks-number
bounds-marks-number c = in_table (goal.at.bounds-marks-number c).Else-ne

pub returns-then-marks-number-eq-BARRED : goal.returns-then-marks-number-eq-BARRED
returns-then-marks-number-eq-BARRED c = record {
  value = bars-decide c.requires.tabled c.args.fact c.args.rule (known (goal.at.returns-then-marks-number-eq-BARRED c).Else-rules-rule) c.conclusion-concluded.ensures (unread (goal.at.returns-then-marks-number-eq-BARRED c).Else-is_withheld) (equals c.ne.ensures c.if-ne.false) _ _ _ (sym c.if-not-rule_fits.false ∙ c.rule_fits.ensures.value) true (fact-barred (program_of c.args.file.now) (step_of c.args.fact c.args.rule) (constraints-barred (goal.at.returns-then-marks-number-eq-BARRED c).Else-not-rule_fits) c.if-marks-number-eq-BARRED.true);
  step_marked = λ e. never e refl;
}

pub bounds-marks-number-2 : goal.bounds-marks-number-2
bounds-marks-number-2 c = in_table (goal.at.bounds-marks-number-2 c).Else-ne

pub returns : goal.returns
returns c = record {
  value = bars-decide c.requires.tabled c.args.fact c.args.rule (known (goal.at.returns c).Else-rules-rule) c.conclusion-concluded.ensures (unread (goal.at.returns c).Else-is_withheld) (equals c.ne.ensures c.if-ne.false) _ _ _ (sym c.if-not-rule_fits.false ∙ c.rule_fits.ensures.value) false (fact-free (program_of c.args.file.now) (step_of c.args.fact c.args.rule) (constraints-barred (goal.at.returns c).Else-not-rule_fits) c.if-marks-number-eq-BARRED.false);
  step_marked = λ e. fact-marked (program_of c.args.file.now) (step_of c.args.fact c.args.rule) (constraints-barred (goal.at.returns c).Else-not-rule_fits) (in_table (goal.at.returns c).Else-ne) c.if-marks-number-eq-BARRED.false;
}
