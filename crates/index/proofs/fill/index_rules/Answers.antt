-- `index_rules`: the rules before a place are in the rows of their literals.
use Prim.Native.Nat.{◌<◌, ◌≤◌}
use mathlib.Core.Path.{sym, ◌∙◌}
use native.Mathlib.Omega.{arith}
use borrow.Author.Tests.{not-true, not-false}
use Rattle.tables.specs.Held.{held}
use Rattle.theory.specs.Rule.{count}
use Rattle.tables.proofs.ProgramHeld.{facts_below, rules-below}
use Rattle.index.specs.Literal.{literals}
use Rattle.index.proofs.RulesIndexed.{none_passed, none_there, rule-off, rule-on, all-left_out, all-indexed, all-sized}
use Rattle.index.proofs.fill.index_rules.Goals as goal
use Rattle.index.proofs.fill.index_rules.Goals.{After-loop-i, In-loop-i}

-- the rule is one of the program
known : (c : In-loop-i) → c.loop-i.i < count (held c.args.tables.now)
known c = omega (arith, c.loop-i-test.true, c.loop-i.invariant.end_is)

all-passed : (c : After-loop-i) → count (held c.args.tables.now) ≤ c.loop-i.i
all-passed c = omega (arith, c.loop-i-test.false, c.loop-i.invariant.end_is)

pub loop-i-init : goal.loop-i-init
loop-i-init c = record {
  end_is = c.rules-i-end.ensures;
  few = omega (arith, c.rules-i-end.ensures, rules-below c.args.tables.now.well_formed);
  passed = none_passed _ _ c.requires;
}

pub loop-i-preserved-then-is_left_out : goal.loop-i-preserved-then-is_left_out
loop-i-preserved-then-is_left_out c = record {
  end_is = c.loop-i.invariant.end_is;
  few = c.loop-i.invariant.few;
  passed = rule-off (rules-below c.args.tables.now.well_formed) c.loop-i.invariant.passed (known (goal.at.loop-i-preserved-then-is_left_out c).In-loop-i) (not-true _ (sym c.is_left_out.ensures ∙ c.if-is_left_out.true));
}

pub loop-i-preserved : goal.loop-i-preserved
loop-i-preserved c = let well_formed = c.args.tables.now.well_formed in
    let few = rules-below well_formed in
    let w = c.loop-i.invariant.passed in
    let free = none_there few w (known (goal.at.loop-i-preserved c).In-loop-i) in
    let premises = c.index_rule-inside.ensures in
    let constraints = c.index_constraints-outside.ensures in
    record {
      end_is = c.loop-i.invariant.end_is;
      few = c.loop-i.invariant.few;
      passed = rule-on few w (known (goal.at.loop-i-preserved c).In-loop-i) (not-false _ (sym c.is_left_out.ensures ∙ c.if-is_left_out.false)) _ _ premises.same_from constraints.same_from _
          (constraints.by_index _ _ _ free (premises.by_index literals literals _ (omega (arith, facts_below well_formed)) (omega arith) w.rows free));
    }

pub returns : goal.returns
returns c = let off = c.args.off.now in
    let w = c.loop-i.invariant.passed in
    let passed = all-passed c in
    record {
      indexed = all-indexed off w passed (rules-below c.args.tables.now.well_formed);
      left_out = all-left_out off w passed;
      sized = all-sized off w passed;
    }
