-- `list_ready`: the rules before a place are passed, and listed where they were ready.
use Prim.Native.Nat.{◌<◌}
use mathlib.Core.Path.{sym}
use native.Mathlib.Omega.{arith}
use Rattle.tables.specs.Held.{held}
use Rattle.theory.specs.Rule.{count}
use Rattle.items.specs.Item.{max_rules}
use Rattle.tables.proofs.ProgramHeld.{facts_below, rules-below}
use Rattle.blocks.proofs.RulesPlaced.{fact_below, none_passed, over-marked, over-withheld, over-lacking, place_free, rule-listed}
use Rattle.blocks.proofs.order.list_ready.Goals as goal
use Rattle.blocks.proofs.order.list_ready.Goals.{In-loop-i, Else-listed-i-eq1, then-listed-i-eq1-via-then-listed-i-eq1, then-listed-i-eq1-via-else-listed-i-eq1+then-is_withheld, then-listed-i-eq1-via-else-listed-i-eq1+else-is_withheld+then-not-premises_in}

-- the rule is one of the program
known : (c : In-loop-i) → c.loop-i.i < count (held c.args.tables.now)
known c = omega (arith, c.loop-i-test.true, c.loop-i.invariant.end_is)

-- a rule that is not listed yet has a place in the order
free : (c : Else-listed-i-eq1) → c.loop-i.n < max_rules
free c = place_free c.loop-i.invariant.passed (rules-below c.args.tables.now.well_formed) (omega (arith, c.loop-i-test.true, c.loop-i.invariant.end_is)) c.if-listed-i-eq1.false

pub loop-i-init : goal.loop-i-init
loop-i-init c = record {
  end_is = c.rules-i-end.ensures;
  few = omega (arith, c.rules-i-end.ensures, rules-below c.args.tables.now.well_formed);
  passed = none_passed c.requires.0 c.requires.1;
}

pub premises_in-requires-clause-set_len : goal.premises_in-requires-clause-set_len
premises_in-requires-clause-set_len c = omega (arith, facts_below c.args.tables.now.well_formed)

pub loop-i-preserved-then-listed-i-eq1 : goal.loop-i-preserved-then-listed-i-eq1
loop-i-preserved-then-listed-i-eq1 c =
    let w = c.loop-i.invariant.passed in
    record {
      end_is = c.loop-i.invariant.end_is;
      few = c.loop-i.invariant.few;
      passed = elim c.then-listed-i-eq1.branch [
        | then-listed-i-eq1-via-then-listed-i-eq1 t ↦ over-marked w t.if-listed-i-eq1.true
        | then-listed-i-eq1-via-else-listed-i-eq1+then-is_withheld t ↦ over-withheld w (sym t.if-is_withheld.ensures)
        | then-listed-i-eq1-via-else-listed-i-eq1+else-is_withheld+then-not-premises_in t ↦ over-lacking w (sym t.if-not-premises_in.ensures)
      ];
    }

pub bounds-set-fact : goal.bounds-set-fact
bounds-set-fact c = fact_below c.args.tables.now.well_formed (known (goal.at.bounds-set-fact c).In-loop-i) c.conclusion-fact.ensures

pub bounds-order-n : goal.bounds-order-n
bounds-order-n c = free (goal.at.bounds-order-n c).Else-listed-i-eq1

pub loop-i-preserved : goal.loop-i-preserved
loop-i-preserved c =
    let here = known (goal.at.loop-i-preserved c).In-loop-i in
    record {
      end_is = c.loop-i.invariant.end_is;
      few = c.loop-i.invariant.few;
      passed = rule-listed c.loop-i.invariant.passed (rules-below c.args.tables.now.well_formed) here c.if-listed-i-eq1.false (sym c.if-is_withheld.ensures) _ (fact_below c.args.tables.now.well_formed here c.conclusion-fact.ensures);
    }
